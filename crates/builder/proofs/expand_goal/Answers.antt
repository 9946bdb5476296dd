-- `builder::expand_goal` meets its contract: what is loaded are the table's actions, so the expansion over them is one over those.
use Rattle.std.proofs.Common.{take, refl, sym, arith, rules, length-take-le, of_calls}
use Rattle.job.specs.Job.{action_of}
use Rattle.expander.specs.Expands.{columns}
use Rattle.builder.specs.RowLaws.{header_count, header_few, header_whole, header_taken, expands_table}
use Rattle.builder.proofs.expand_goal.Goals as goal

pub load-requires : goal.load-requires
load-requires c =
    let a = c.args in (
      header_count a.table.now (λ i. search rules) a.header c.requires.0,
      header_few a.table.now (λ i. search rules) a.header c.requires.0,
      search of_calls,
    )

pub slice_bounds-jobs-end : goal.slice_bounds-jobs-end
slice_bounds-jobs-end c =
    let a = c.args in
    omega (arith, c.load.ensures.sized, header_few a.table.now (λ i. search rules) a.header c.requires.0)

pub slice_bounds-expand-end : goal.slice_bounds-expand-end
slice_bounds-expand-end c =
    let a = c.args in
    sym (length-take-le _ _ (omega (arith, c.load.ensures.sized, header_few a.table.now (λ i. search rules) a.header c.requires.0)))

pub returns : goal.returns
returns c =
    let a = c.args in
    let loaded = header_whole a.table.now (λ i. search rules) a.header c.requires.0 c.load.ensures refl action_of (λ j x p. search rules) in
    let taken = header_taken a.table.now (λ i. search rules) a.header c.requires.0 (take a.header.jobs c.load.new.row) loaded in
    λ t r. expands_table a.table.now (λ i. search rules) a.header c.requires.0 t r (take a.header.jobs c.load.new.row) loaded a.until
    (columns a.conditions.now a.absences.now a.actions.now a.parents.now a.depths.now)
    (columns c.expand.new.conditions c.expand.new.absences c.expand.new.actions c.expand.new.parents c.expand.new.depths) c.expand.result
    (rw taken at c.expand.ensures.taken)
