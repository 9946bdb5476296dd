-- The loops run through the definition: at the head of each, what remains of it gives the plan (proofs/Loops.antt). So the way out by which
-- the function returns is the outcome of the plan, and the tables hold its list.
use Rattle.std.proofs.Common.{◌≡◌, List, set, refl, sym, ap, ◌∙◌, Bool, true, false, ℕ, ◌+◌, ◌<◌, arith}
use Rattle.std.specs.Prelude.{None, Option, Some}
use Rattle.std.specs.Option.{is_some}
use Rattle.base.specs.Bools.{holds, fails}
use Rattle.conditions.specs.declared.Action.{Action}
use Rattle.conditions.specs.declared.Condition.{Condition}
use Rattle.conditions.specs.Condition.{plain, relevant, consistent, regressed}
use Rattle.conditions.specs.Search.{newest_weaker}
use Rattle.planning.specs.Facts.{Actions}
use Rattle.expander.specs.declared.Expanded.{Expanded}
use Rattle.expander.specs.declared.Expanded.TheVariants as X
use Rattle.expander.specs.declared.Until.{Until}
use Rattle.expander.specs.Expands.{actions_in, actions_for, Columns, columns, room, ended_by, Unlent, Unasked, Expands}
use Rattle.expander.specs.ExpandsLaws.{for_unasked, expands_unasked}
use Rattle.expander.proofs.Tables.{Holds, holds_none, holds_on, expands}
use Rattle.expander.proofs.Loops.{AtEntry, Wanted, no_room, root_held, goal_met, first_entry, exhausts}
use Rattle.expander.proofs.Loops.{enter, leave, skip_irrelevant, skip_inconsistent, skip_listed, fills, holds_new, ends, grows}
use Rattle.expander.proofs.expand.Goals as goal
use Rattle.expander.proofs.expand.Goals.{then-is_relevant+then-is_consistent+then-is_none+else-n-capacity+else-ends_list-2, then-is_relevant+then-is_consistent+else-is_none, then-is_relevant+else-is_consistent, else-is_relevant}

nowhere : (o : Option ℕ) → is_some o ≡ false → o ≡ None
nowhere None e = refl
nowhere (Some i) e = absurd (cc)

-- what an action makes of the condition in hand is wanted
new_wanted : (A : Actions) (t : Columns) {n : ℕ} {c : Condition} {a : ℕ} {action : Action} {new : Condition} → a < A.count → action ≡ A.action a
    → true ≡ relevant action c → new ≡ regressed action c → true ≡ consistent new → is_some (newest_weaker t.conditions t.absences n new) ≡ false
    → Wanted A t n c a new
new_wanted A t {c = c} below same serves made possible searched =
    record {
      below = below;
      serves = holds _ (ap (λ (x : Action). relevant x c) (sym same) ∙ sym serves);
      made = made ∙ ap (λ (x : Action). regressed x c) same;
      possible = holds _ (sym possible);
      searched = nowhere _ searched;
    }

-- the tables hold what was stored since entry 0 was
entries_held : {paired : Bool} {A : Actions} {root : Condition} {stop : Condition → Bool} {capacity n e : ℕ} {t : Columns} (lent : Columns)
    → Unlent paired lent.absences → capacity ≡ room lent paired → 0 < capacity → (goal : ℕ) {xs : List ℕ} → xs ≡ set lent.absences 0 0
    → AtEntry paired A root stop capacity (columns (set lent.conditions 0 goal) xs (set lent.actions 0 255) (set lent.parents 0 0) (set lent.depths 0 0)) 1
    t n e
    → Holds paired capacity n lent t
entries_held lent u room_is some goal s I = holds_on (root_held (plain goal) lent u room_is some) (rw s at I.holds) I.grown

-- what is told of the actions as the list takes them, and as they are where it takes them so
told : {paired : Bool} (jobs : List Action) {goal : Condition} {until : Until} {before after : Columns} {r : Expanded}
    → Expands paired (actions_for paired jobs) goal until before after r → record {
      taken : Expands paired (actions_for paired jobs) goal until before after r;
      as_they_are : Unasked paired (actions_in jobs) → Expands paired (actions_in jobs) goal until before after r;
    }
told {paired} jobs E = record { taken = E; as_they_are = λ u. expands_unasked paired jobs u E }

pub returns-then-capacity-eq0 : goal.returns-then-capacity-eq0
returns-then-capacity-eq0 c =
    let lent = columns c.args.conditions.now c.args.absences.now c.args.actions.now c.args.parents.now c.args.depths.now in
    let room_is = c.capacity_of-capacity.ensures in
    told c.args.jobs.now
    (expands room_is (X.Full 0) (holds_none lent c.requires room_is) (no_room _ _ _ _ lent c.requires room_is c.if-capacity-eq0.true))

pub returns-then-ends_list : goal.returns-then-ends_list
returns-then-ends_list c =
    let lent = columns c.args.conditions.now c.args.absences.now c.args.actions.now c.args.parents.now c.args.depths.now in
    let room_is = c.capacity_of-capacity.ensures in
    let some : 0 < c.capacity_of-capacity.result = omega arith in
    let A = actions_for c.args.paired c.args.jobs.now in
    let root = plain c.args.goal in
    rw c.set_mask.ensures
    (told c.args.jobs.now
    (expands room_is (X.Covered 1) (root_held root lent c.requires room_is some)
    (goal_met c.args.paired A root (ended_by c.args.until) lent c.requires room_is refl some (holds _ (sym c.if-ends_list.ensures)))))

pub entries-init : goal.entries-init
entries-init c =
    let lent = columns c.args.conditions.now c.args.absences.now c.args.actions.now c.args.parents.now c.args.depths.now in
    let room_is = c.capacity_of-capacity.ensures in
    let some : 0 < c.capacity_of-capacity.result = omega arith in
    let A = actions_for c.args.paired c.args.jobs.now in
    let root = plain c.args.goal in
    rw c.set_mask.ensures
    (first_entry c.args.paired A root (ended_by c.args.until) lent c.requires room_is refl some (fails _ (sym c.if-ends_list.ensures)))

pub actions-init : goal.actions-init
actions-init c = enter c.entries.invariant (λ q. omega (arith, c.if-e-n.false)) c.condition_at-condition.ensures

pub actions-preserved : goal.actions-preserved
actions-preserved c =
    let x = c.actions in
    let I = x.invariant in
    let t = columns x.conditions x.absences x.actions x.parents x.depths in
    let A = actions_for c.args.paired c.args.jobs.now in
    let below : x.a < A.count = omega (arith, c.actions-test.true, c.min-count.ensures) in
    let same : c.action_for-action.result ≡ A.action x.a = c.action_for-action.ensures c.args.paired c.asked_absent-asked.ensures in
    elim c.if-is_relevant.branch [
      | then-is_relevant+then-is_consistent+then-is_none+else-n-capacity+else-ends_list-2 w ↦
          let wanted = new_wanted A t below same w.if-is_relevant.ensures w.regress-new.ensures w.if-is_consistent.ensures
          (ap is_some (sym w.newest_weaker.ensures.answer) ∙ w.if-is_none.ensures) in
          rw (w.conditions-is, w.absences-is, w.actions-is, w.parents-is, w.depths-is, w.n-is, w.set_mask-then-is_none.ensures)
          (grows I wanted (for_unasked c.args.paired c.args.jobs.now) w.if-n-capacity.false (fails _ (sym w.if-ends_list-2.ensures)))
      | then-is_relevant+then-is_consistent+else-is_none w ↦
          rw (w.conditions-is, w.absences-is, w.actions-is, w.parents-is, w.depths-is, w.n-is)
          (skip_listed I below _ (w.regress-new.ensures ∙ ap (λ (a : Action). regressed a c.condition_at-condition.result) same)
          (λ q. let none = ap is_some (sym q ∙ sym w.newest_weaker.ensures.answer) ∙ w.if-is_none.ensures in absurd (cc)))
      | then-is_relevant+else-is_consistent w ↦
          rw (w.conditions-is, w.absences-is, w.actions-is, w.parents-is, w.depths-is, w.n-is)
          (skip_inconsistent I below _ (w.regress-new.ensures ∙ ap (λ (a : Action). regressed a c.condition_at-condition.result) same)
          (fails _ (sym w.if-is_consistent.ensures)))
      | else-is_relevant w ↦
          rw (w.conditions-is, w.absences-is, w.actions-is, w.parents-is, w.depths-is, w.n-is)
          (skip_irrelevant I below (fails _ (ap (λ (a : Action). relevant a c.condition_at-condition.result) (sym same) ∙ sym w.if-is_relevant.ensures)))
    ]

pub entries-preserved : goal.entries-preserved
entries-preserved c =
    leave c.entries.invariant (λ q. omega (arith, c.if-e-n.false)) c.actions.invariant (omega (arith, c.actions-test.false, c.min-count.ensures, c.actions.auto.a-end))

pub returns-then-e-n : goal.returns-then-e-n
returns-then-e-n c =
    let lent = columns c.args.conditions.now c.args.absences.now c.args.actions.now c.args.parents.now c.args.depths.now in
    let room_is = c.capacity_of-capacity.ensures in
    let I = c.entries.invariant in
    told c.args.jobs.now
    (expands room_is (X.Exhausted _)
    (entries_held lent c.requires room_is (omega arith) c.args.goal c.set_mask.ensures I)
    (exhausts I c.if-e-n.true))

pub returns-then-n-capacity : goal.returns-then-n-capacity
returns-then-n-capacity c =
    let x = c.actions in
    let t = columns x.conditions x.absences x.actions x.parents x.depths in
    let lent = columns c.args.conditions.now c.args.absences.now c.args.actions.now c.args.parents.now c.args.depths.now in
    let A = actions_for c.args.paired c.args.jobs.now in
    let below : x.a < A.count = omega (arith, c.actions-test.true, c.min-count.ensures) in
    let same : c.action_for-action.result ≡ A.action x.a = c.action_for-action.ensures c.args.paired c.asked_absent-asked.ensures in
    let room_is = c.capacity_of-capacity.ensures in
    let I = c.entries.invariant in
    let J = x.invariant in
    let wanted = new_wanted A t below same c.if-is_relevant.ensures c.regress-new.ensures c.if-is_consistent.ensures
    (ap is_some (sym c.newest_weaker.ensures.answer) ∙ c.if-is_none.ensures) in
    told c.args.jobs.now
    (expands room_is (X.Full _)
    (holds_on (entries_held lent c.requires room_is (omega arith) c.args.goal c.set_mask.ensures I) J.holds J.grown)
    (fills J wanted c.if-n-capacity.true))

pub returns-then-ends_list-2 : goal.returns-then-ends_list-2
returns-then-ends_list-2 c =
    let x = c.actions in
    let t = columns x.conditions x.absences x.actions x.parents x.depths in
    let lent = columns c.args.conditions.now c.args.absences.now c.args.actions.now c.args.parents.now c.args.depths.now in
    let A = actions_for c.args.paired c.args.jobs.now in
    let below : x.a < A.count = omega (arith, c.actions-test.true, c.min-count.ensures) in
    let same : c.action_for-action.result ≡ A.action x.a = c.action_for-action.ensures c.args.paired c.asked_absent-asked.ensures in
    let room_is = c.capacity_of-capacity.ensures in
    let I = c.entries.invariant in
    let J = x.invariant in
    let wanted = new_wanted A t below same c.if-is_relevant.ensures c.regress-new.ensures c.if-is_consistent.ensures
    (ap is_some (sym c.newest_weaker.ensures.answer) ∙ c.if-is_none.ensures) in
    rw c.set_mask-then-is_none.ensures
    (told c.args.jobs.now
    (expands room_is (X.Covered (x.n + 1))
    (holds_on (entries_held lent c.requires room_is (omega arith) c.args.goal c.set_mask.ensures I)
    (holds_new J wanted (for_unasked c.args.paired c.args.jobs.now) c.if-n-capacity.false) (omega (arith, J.grown)))
    (ends J wanted (for_unasked c.args.paired c.args.jobs.now) c.if-n-capacity.false (holds _ (sym c.if-ends_list-2.ensures)))))
