-- `plan_recovery::recover_under` meets its contract.
use Rattle.std.proofs.Common.{◌≡◌, refl, sym, ap, ◌∙◌, length, length-take-le}
use Rattle.refusal.specs.Checked.{accepted}
use Rattle.table.specs.Table.{Table}
use Rattle.table.specs.Read.{headed}
use Rattle.table.proofs.ReadLaws.{headed_sound}
use Rattle.expander.specs.Expands.{columns}
use Rattle.builder.specs.Plan.{pairs}
use Rattle.tree_shows.specs.Shown.{sound_tree, HasEntries}
use Rattle.plan_recovery.specs.Made.{Made}
use Rattle.plan_recovery.specs.MadeLaws.{bytes_fit, compares}
use Rattle.plan_recovery.specs.RecoveryLaws.{sound_told}
use Rattle.plan_recovery.specs.WritesBackLaws.{header_is, none_back, told_held, told_back}
use Rattle.plan_recovery.proofs.recover_under.Goals as goal
use Rattle.plan_recovery.proofs.recover_under.Goals.{After-bytes_built-written}

-- the plan that was made
made : (c : After-bytes_built-written) (t : Table) → accepted t ≡ sound_tree c.args.table.now c.args.tree.now
    → let b = c.build-built.new in Made t c.args.tree.now c.in-Some.n (columns b.conditions b.absences b.actions b.parents b.depths) b.tree c.bytes_built-written.result
made c t e =
    let S : HasEntries (pairs t) (length c.args.tree.now) c.in-Some.n = rw (header_is c.requires t e) at c.in-Some.ensures in
    record {
      before = _;
      lent = _;
      built = _;
      writes = rw c.last_mask-start.ensures at (c.build-built.ensures t (sym (sound_told _ _ t (sym e)).0));
      told = c.bytes_built-written.ensures;
      shown = S;
      has_room = record { conditions = length-take-le _ _ S.few; actions = refl; parents = refl; depths = refl };
      enough = refl;
    }

pub returns-in_default : goal.returns-in_default
returns-in_default c t e =
    rw c.at.ensures (none_back _ (λ i. (c.type_inv.table i).fits) t _ e (rw (header_is c.requires t e) at c.in_default.ensures) _ _)

pub build-built-requires : goal.build-built-requires
build-built-requires c =
    let t = headed_sound (sound_tree _ _) c.requires in
    ap accepted (sym t.2) ∙ ap headed (sym (sound_told _ _ t.0 (sym t.1)).0)

pub slice_bounds-bytes-end : goal.slice_bounds-bytes-end
slice_bounds-bytes-end c = let t = headed_sound (sound_tree _ _) c.requires in bytes_fit (made c t.0 t.1)

pub slice_bounds-is_same-end : goal.slice_bounds-is_same-end
slice_bounds-is_same-end c =
    let t = headed_sound (sound_tree _ _) c.requires in
    sym (length-take-le _ _ (bytes_fit (made (goal.at.slice_bounds-is_same-end c).After-bytes_built-written t.0 t.1)))

pub copy_list-requires : goal.copy_list-requires
copy_list-requires c =
    let t = headed_sound (sound_tree _ _) c.requires in
    let C = compares (made (goal.at.copy_list-requires c).After-bytes_built-written t.0 t.1) c.is_same-planned.ensures in
    told_held _ (λ i. (c.type_inv.table i).fits) t.0 _ t.1 C (rw c.capacity_of-room.ensures at c.judge-listed.ensures) c.entries_told.ensures

pub returns : goal.returns
returns c t e =
    let C = compares (made (goal.at.returns c).After-bytes_built-written t e) c.is_same-planned.ensures in
    told_back _ (λ i. (c.type_inv.table i).fits) t _ e C (rw c.capacity_of-room.ensures at c.judge-listed.ensures) c.entries_told.ensures c.copy_list.ensures
