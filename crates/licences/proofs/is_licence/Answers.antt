-- `licences::is_licence` meets its contract, bound by bound.
use borrow.Author.Tests.{lt-leb, le-leb}
use Rattle.licences.specs.Licences.{FIRST, is_licence}
use Rattle.licences.proofs.is_licence.Goals as goal

pub returns-then-licence-lt-FIRST : goal.returns-then-licence-lt-FIRST
unfolding is_licence
returns-then-licence-lt-FIRST c = rw (lt-leb FIRST c.before.args.licence c.if-licence-lt-FIRST.true)

pub returns : goal.returns
unfolding is_licence
returns c = rw (le-leb FIRST c.before.args.licence c.if-licence-lt-FIRST.false)
