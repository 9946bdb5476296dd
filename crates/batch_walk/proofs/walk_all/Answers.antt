-- `batch_walk::walk_all` meets its contract.
use Rattle.std.proofs.Common.{◌≡◌, ◌+◌, ◌-◌, ◌<◌, arith, sym, ◌∙◌}
use Rattle.batch_walk.specs.Batch.{answer_rows}
use Rattle.batch_walk.specs.Steps.{walked_rows, going_after}
use Rattle.batch_walk.specs.StepLaws.{rows_none, all_going, entry_rows, entry_going}
use Rattle.batch_walk.specs.WalkLaws.{going_reads, walked_all, walked_on}
use Rattle.batch_walk.proofs.Ends.{ends}
use Rattle.batch_walk.proofs.walk_all.Goals as goal

pub returns-then-vehicles-eq0 : goal.returns-then-vehicles-eq0
returns-then-vehicles-eq0 c =
    let a = c.args in
    let w = walked_rows a.entries a.readings in
    walked_on w a.n a.vehicles c.requires.0 (answer_rows a.statuses.now a.values.now) (omega arith) (rows_none w a.vehicles _ c.start_all.ensures) (omega arith)
    (sym (all_going w a.vehicles) ∙ c.if-vehicles-eq0.true)

pub loop-entry-init : goal.loop-entry-init
loop-entry-init c =
    let a = c.args in
    let w = walked_rows a.entries a.readings in
    let e = rows_none w a.vehicles (answer_rows a.statuses.now a.values.now) c.start_all.ensures in
    (omega arith, e, all_going w a.vehicles, omega arith, ends w a.n a.vehicles 0 a.vehicles _ _ e c.requires.0 (all_going w a.vehicles) (omega arith))

pub overflow_sub-going : goal.overflow_sub-going
overflow_sub-going c =
    let a = c.args in
    let w = walked_rows a.entries a.readings in
    let l = c.loop-entry.invariant in
    omega (arith, l.2, entry_going w c.loop-entry.entry a.vehicles _ l.1 c.condition-condition.ensures c.met_at-met.ensures c.ask_all-going.ensures)

pub loop-entry-preserved : goal.loop-entry-preserved
loop-entry-preserved c =
    let a = c.args in
    let w = walked_rows a.entries a.readings in
    let entry = c.loop-entry.entry in
    let (some, rows, going, read, others) = c.loop-entry.invariant in
    let e = entry_rows w entry a.vehicles _ rows c.condition-condition.ensures c.met_at-met.ensures c.ask_all-going.ensures in
    let left = entry_going w entry a.vehicles _ rows c.condition-condition.ensures c.met_at-met.ensures c.ask_all-going.ensures in
    let more : 0 < c.loop-entry.going - c.ask_all-going.result = omega arith in
    let count : c.loop-entry.going - c.ask_all-going.result ≡ going_after w (entry + 1) a.vehicles = omega (arith, going, left) in
    (more, e, count, going_reads w a.n a.vehicles entry (omega arith) (omega arith), ends w a.n a.vehicles (entry + 1) _ _ _ e c.requires.0 count more)

pub returns : goal.returns
returns c =
    let a = c.args in
    let w = walked_rows a.entries a.readings in
    walked_all w a.n a.vehicles c.requires.0 (answer_rows a.statuses.now a.values.now) (omega arith) c.loop-entry.invariant.1 c.loop-entry.invariant.3 (omega arith)
