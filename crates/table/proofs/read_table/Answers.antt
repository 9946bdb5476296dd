-- `table::read_table` meets its contract: FACTS, its range, then the rest.
use Rattle.std.proofs.Common.{sym, ap, ◌∙◌, arith}
use Rattle.std.proofs.lemmas.Grind.{common_steps}
use Rattle.table.specs.Read.{headed}
use Rattle.table.proofs.ReadLaws.{facts_inside, table_refused, table_facts, table_no_facts}
use Rattle.table.proofs.read_table.Goals as goal

pub bounds-s-1 : goal.bounds-s-1
bounds-s-1 c = omega (arith, (facts_inside _ _ _ c.in_ok-due.ensures).1)

pub returns-in_err-due : goal.returns-in_err-due
returns-in_err-due c = grind (arith, common_steps, table_refused)

pub returns-then-not-facts_in_range : goal.returns-then-not-facts_in_range
returns-then-not-facts_in_range c =
    rw (c.at.ensures, ← table_no_facts _ _ c.in_ok-due.ensures (sym c.facts_in_range.ensures ∙ c.if-not-facts_in_range.true))

pub returns : goal.returns
returns c = c.read_jobs.ensures ∙ ap headed (table_facts _ _ c.in_ok-due.ensures (sym c.facts_in_range.ensures ∙ c.if-not-facts_in_range.false))
