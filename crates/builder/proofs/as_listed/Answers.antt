-- Each case is the definition's.
use Rattle.builder.proofs.as_listed.Goals as goal

pub returns-in-Full : goal.returns-in-Full
returns-in-Full c = rw (c.at.ensures, c.in-Full.is)

pub returns-in-Covered : goal.returns-in-Covered
returns-in-Covered c = rw c.in-Covered.is

pub returns-in-Covers : goal.returns-in-Covers
returns-in-Covers c = rw (c.at-in-Covers.ensures, c.in-Exhausted.is, c.in-Covers.is)

pub returns-in-Never : goal.returns-in-Never
returns-in-Never c = rw (c.in-Exhausted.is, c.in-Never.is)
