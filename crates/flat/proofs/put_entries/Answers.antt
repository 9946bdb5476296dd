-- `flat::put_entries` meets its contract.
use Rattle.std.proofs.Common.{arith}
use Rattle.licences.specs.Licences.{owned_by}
use Rattle.flat.specs.TreeBytesLaws.{later_none, later_put, later_room}
use Rattle.flat.proofs.put_entries.Goals as goal

pub loop-i-init : goal.loop-i-init
loop-i-init c =
    let l = c.args.entries in
    later_none l.conditions.now l.absences.now l.actions.now (owned_by c.args.owner) c.args.paired _ _

pub put_later-at-requires : goal.put_later-at-requires
put_later-at-requires c =
    let l = c.args.entries in
    rw c.owns-mine.ensures
    (omega (arith, later_room l.conditions.now l.absences.now l.actions.now (owned_by c.args.owner) c.args.paired c.loop-i.i c.args.n))

pub loop-i-preserved : goal.loop-i-preserved
loop-i-preserved c =
    let l = c.args.entries in
    later_put l.conditions.now l.absences.now l.actions.now (owned_by c.args.owner) c.args.paired {i = c.loop-i.i} (omega arith) c.condition-condition.ensures c.owns-mine.ensures
    c.loop-i.invariant c.put_later-at.ensures
