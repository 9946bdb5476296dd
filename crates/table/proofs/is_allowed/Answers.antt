-- `table::is_allowed` meets its contract, stage by stage.
use borrow.Author.Tests.{eq-eqb, ne_eqb}
use Rattle.table.proofs.is_allowed.Goals as goal

pub returns-then-byte-eq-JOB : goal.returns-then-byte-eq-JOB
returns-then-byte-eq-JOB c = rw (c.in-Middle.is, eq-eqb _ _ c.if-byte-eq-JOB.true)

pub returns-in-First : goal.returns-in-First
returns-in-First c = rw c.in-First.is

pub returns-then-byte-eq-PAIRED_JOB : goal.returns-then-byte-eq-PAIRED_JOB
returns-then-byte-eq-PAIRED_JOB c =
    rw (c.in-Middle.is, ne_eqb _ _ c.if-byte-eq-JOB.false, eq-eqb _ _ c.if-byte-eq-PAIRED_JOB.true)

pub returns-else-byte-eq-PAIRED_JOB : goal.returns-else-byte-eq-PAIRED_JOB
returns-else-byte-eq-PAIRED_JOB c =
    rw (c.in-Middle.is, ne_eqb _ _ c.if-byte-eq-JOB.false, ne_eqb _ _ c.if-byte-eq-PAIRED_JOB.false)

pub returns-in-Last : goal.returns-in-Last
returns-in-Last c = rw c.in-Last.is
