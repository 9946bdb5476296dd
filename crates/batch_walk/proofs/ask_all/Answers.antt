-- `batch_walk::ask_all` meets its contract.
use Rattle.std.proofs.Common.{◌∙◌, arith}
use Rattle.batch_walk.specs.Batch.{answer_rows}
use Rattle.batch_walk.specs.StepLaws.{stops_once, meets_told, asked_rows, asked_count, passed_rows, passed_count}
use Rattle.batch_walk.proofs.ask_all.Goals as goal

pub ask-stopped-requires : goal.ask-stopped-requires
ask-stopped-requires c = (omega (arith, c.in-Some.ensures.1), omega (arith, c.in-Some.ensures.1), meets_told _ _ _ c.in-Some.ensures.3)

pub overflow_add-stopped : goal.overflow_add-stopped
overflow_add-stopped c = grind (arith, stops_once, c.in-Some.ensures.1)

pub loop-v-preserved : goal.loop-v-preserved
loop-v-preserved c =
    let a = c.args in
    let held = a.readings.held.now in
    let unread = a.readings.unread.now in
    let t = answer_rows a.statuses.now a.values.now in
    let next = c.in-Some.ensures in
    let e = passed_rows a.condition a.met held unread t c.loop-v.invariant.1 next.2 next.0 (omega (arith, next.1)) (omega (arith, next.1)) in
    let asks = rw c.at.ensures at c.ask-stopped.ensures in (
      (omega (arith, next.1), omega (arith, next.0, asks.count, stops_once a.condition c.at.result)),
      asked_rows a.condition a.met held unread t e asks (omega (arith, next.1)) (omega (arith, next.1)),
      asked_count a.condition a.met held unread t e asks c.loop-v.stopped (c.loop-v.invariant.2 ∙ passed_count a.condition a.met held unread t c.loop-v.invariant.1 next.2 next.0),
    )

pub returns : goal.returns
returns c =
    let a = c.args in
    let held = a.readings.held.now in
    let unread = a.readings.unread.now in
    let t = answer_rows a.statuses.now a.values.now in
    let few = c.loop-v.invariant.0.0 in
    record {
      answers = passed_rows a.condition a.met held unread t c.loop-v.invariant.1 c.in_default.ensures few (omega arith) (omega arith);
      count = c.loop-v.invariant.2 ∙ passed_count a.condition a.met held unread t c.loop-v.invariant.1 c.in_default.ensures few;
    }
