-- The walk's steps, one vehicle and one entry after the other, come to the ticks of the list's tree and to the entries read.
-- Assumes nothing.
use Prim.Native.Nat.{ℕ, zero, suc, ◌+◌, ◌≤◌, ◌<◌}
use Rattle.std.proofs.Math.Numerals.{add-one}
use Rattle.std.proofs.Common.{arith, ◌∙◌, eq-eqb, ne_eqb}
use Rattle.std.specs.Prelude.{◌≡◌, Bool, not, ◌&&◌, List, eqb, length, get_or, if◌then◌else◌}
use Rattle.std.proofs.Math.Path.{refl, sym, ap, subst}
use Rattle.std.proofs.Math.Bool.{true, false}
use Rattle.std.proofs.lemmas.Bool.{false≢true}
use Rattle.std.proofs.Math.Dec.{eqb→eq}
use Rattle.base.specs.Lists.{sum, overlay_front, overlay_past, overlay_next, overlay_again, overlay_same, overlay_stands, sum_split, sum_stands}
use Rattle.base.specs.Bools.{holds, and_left}
use Rattle.masks.specs.Sets.{subset, union}
use Rattle.reading.specs.declared.Reading.{Reading}
use Rattle.conditions.specs.declared.Evaluation.{Evaluation}
use Rattle.conditions.specs.declared.Evaluation.TheVariants.{Met, Missed, Open}
use Rattle.conditions.specs.declared.Condition.{Condition}
use Rattle.conditions.specs.Condition.{condition_at}
use Rattle.conditions.specs.OnReading.{evaluated}
use Rattle.conditions.specs.OnReadingLaws.{evaluated_present}
use Rattle.tree.specs.declared.Status.{Status}
use Rattle.tree.specs.declared.Status.TheVariants.{Success, Failure, Running, Unsettled, Waiting}
use Rattle.batch_walk.specs.declared.Numbered.{Numbered}
use Rattle.batch_walk.specs.Batch.{reading_at, AnswerRows}
use Rattle.batch_walk.specs.Steps.{numbered, numbered_at, set_numbered, over_rows, met_at, is_going, asked, is_missed, one_if, stops, stepped, Asks}
use Rattle.batch_walk.specs.Steps.{AsksAll, may_meet, PassedOver, after_entry, stops_at, next_status, is_failure, answer_after, WalkedRows, status_after, rows_after, going_after}

-- ---- one vehicle

-- none stops twice
pub stops_once : (c : Condition) (r : Reading) (a : Numbered) → stops c r a ≤ 1
unfolding stops
stops_once c r a = by_tests (is_going a) (not (is_missed (evaluated r c)))
  where
    once : (b : Bool) → one_if b ≤ 1
    once true = omega arith
    once false = omega arith

    by_tests : (g b : Bool) → (if g then one_if b else 0) ≤ 1
    by_tests true b = once b
    by_tests false b = omega arith

-- ---- vehicles that are passed over

-- an entry changes nothing for one that it cannot stop
module _ (c : Condition) (met : Numbered) (r : Reading) (a : Numbered) (h : may_meet c.present r a.status ≡ false) where
  -- what holds of every answer that stands, and of every condition that is missed
  idle_cases : (P : Bool → Evaluation → Type 0) → ((e : Evaluation) → P false e) → ((b : Bool) → P b Missed) → P (is_going a) (evaluated r c)
  unfolding may_meet
  idle_cases P stopped missed = by_tests (is_going a) (subset c.present (union r.held r.unread)) refl refl h
    where
      by_tests : (g s : Bool) → is_going a ≡ g → subset c.present (union r.held r.unread) ≡ s → (g && s) ≡ false → P (is_going a) (evaluated r c)
      by_tests false s e f k = subst (λ (b : Bool). P b (evaluated r c)) (sym e) (stopped (evaluated r c))
      by_tests true false e f k = subst (P (is_going a)) (evaluated_present r c f) (missed (is_going a))
      by_tests true true e f k = absurd (false≢true (sym k))

  pub idle_stepped : stepped c met r a ≡ a
  unfolding stepped
  idle_stepped = idle_cases (λ b e. (if b then asked met a e else a) ≡ a) (λ e. refl) by_going
    where
      by_going : (b : Bool) → (if b then asked met a Missed else a) ≡ a
      by_going true = refl
      by_going false = refl

  pub idle_stops : stops c r a ≡ 0
  unfolding stops
  idle_stops = idle_cases (λ b e. (if b then one_if (not (is_missed e)) else 0) ≡ 0) (λ e. refl) by_going
    where
      by_going : (b : Bool) → (if b then one_if (not (is_missed Missed)) else 0) ≡ 0
      by_going true = refl
      by_going false = refl

module _ (present : ℕ) (r : Reading) (status : ℕ) where
  -- the two tests, one after the other
  pub meets_stopped : (status ≡ 1 → ⊥) → false ≡ may_meet present r status
  unfolding may_meet
  meets_stopped h = rw (ne_eqb status 1 h)

  pub meets_going : status ≡ 1 → subset present (union r.held r.unread) ≡ may_meet present r status
  unfolding may_meet
  meets_going h = rw (eq-eqb status 1 h)

  -- one that an entry may stop goes on
  pub meets_told : may_meet present r status ≡ true → status ≡ 1
  unfolding may_meet
  meets_told e = eqb→eq status 1 (and_left (eqb status 1) (subset present (union r.held r.unread)) (holds _ e))

-- ---- the vehicles one after the other

module _ (f : ℕ → Numbered) (t : AnswerRows) where
  pub rows_next : (v : ℕ) → v < length t.statuses → v < length t.values → set_numbered (over_rows f v t) v (f v) ≡ over_rows f (v + 1) t
  rows_next v h k = rw (overlay_next (λ v. (f v).status) v t.statuses h, overlay_next (λ v. (f v).value) v t.values k)

  rows_past : (n v : ℕ) → n ≤ v → numbered_at (over_rows f n t) v ≡ numbered_at t v
  rows_past n v h = rw (overlay_past (λ v. (f v).status) n t.statuses v 0 h, overlay_past (λ v. (f v).value) n t.values v 0 h)

  rows_stand : (m n : ℕ) → m ≤ n → n ≤ length t.statuses → n ≤ length t.values → ((v : ℕ) → m ≤ v → v < n → f v ≡ numbered_at t v)
      → over_rows f m t ≡ over_rows f n t
  rows_stand m n h k l e =
      rw (
        overlay_stands (λ v. (f v).status) t.statuses 0 m n h k (λ v a b. ap (λ (x : Numbered). x.status) (e v a b)),
        overlay_stands (λ v. (f v).value) t.values 0 m n h l (λ v a b. ap (λ (x : Numbered). x.value) (e v a b)),
      )

  rows_front : (n v : ℕ) → v < n → numbered_at (over_rows f n t) v ≡ f v
  rows_front n v h = rw (overlay_front (λ v. (f v).status) n t.statuses v 0 h, overlay_front (λ v. (f v).value) n t.values v 0 h)

  rows_again : (g : ℕ → Numbered) (n : ℕ) → over_rows f n (over_rows g n t) ≡ over_rows f n t
  rows_again g n =
      rw (overlay_again (λ v. (f v).status) n t.statuses (λ v. (g v).status), overlay_again (λ v. (f v).value) n t.values (λ v. (g v).value))

  rows_same : (g : ℕ → Numbered) (n : ℕ) → ((v : ℕ) → v < n → f v ≡ g v) → over_rows f n t ≡ over_rows g n t
  rows_same g n h =
      rw (
        overlay_same (λ v. (f v).status) n t.statuses (λ v. (g v).status) (λ v l. ap (λ (a : Numbered). a.status) (h v l)),
        overlay_same (λ v. (f v).value) n t.values (λ v. (g v).value) (λ v l. ap (λ (a : Numbered). a.value) (h v l)),
      )

module _ (c : Condition) (met : Numbered) (held unread : List ℕ) (t : AnswerRows) where
  -- the next one is asked
  module _ {now later : AnswerRows} {v : ℕ} {stopped : ℕ} (e : now ≡ over_rows (after_entry c met held unread t) v t) (a : Asks c met (reading_at held unread v) v now later stopped) where
    here : numbered_at now v ≡ numbered_at t v
    here = ap (λ (s : AnswerRows). numbered_at s v) e ∙ rows_past (after_entry c met held unread t) t v v (omega arith)

    pub asked_rows : v < length t.statuses → v < length t.values → later ≡ over_rows (after_entry c met held unread t) (v + 1) t
    asked_rows h k =
        a.answer ∙ ap (λ (s : AnswerRows). set_numbered s v (stepped c met (reading_at held unread v) (numbered_at now v))) e
        ∙ ap (λ (x : Numbered). set_numbered (over_rows (after_entry c met held unread t) v t) v (stepped c met (reading_at held unread v) x)) here ∙ rows_next (after_entry c met held unread t) t v h k

    pub asked_count : (before : ℕ) → before ≡ sum (stops_at c met held unread t) v → before + stopped ≡ sum (stops_at c met held unread t) (v + 1)
    asked_count before f =
        let one : stopped ≡ (stops_at c met held unread t) v = a.count ∙ ap (stops c (reading_at held unread v)) here in
        rw (add-one v, f, one)

  -- the next ones are passed over
  module _ {now : AnswerRows} {v next : ℕ} (e : now ≡ over_rows (after_entry c met held unread t) v t) (p : PassedOver c.present held unread now.statuses v next) where
    idle : (i : ℕ) → v ≤ i → i < next → may_meet c.present (reading_at held unread i) (get_or t.statuses i 0) ≡ false
    idle i h k =
        let same = ap (λ (s : AnswerRows). numbered_at s i) e ∙ rows_past (after_entry c met held unread t) t v i h in
        subst (λ (x : Numbered). may_meet c.present (reading_at held unread i) x.status ≡ false) same (p i h k)

    pub passed_rows : v ≤ next → next ≤ length t.statuses → next ≤ length t.values → now ≡ over_rows (after_entry c met held unread t) next t
    passed_rows b h k =
        e ∙ rows_stand (after_entry c met held unread t) t v next b h k (λ i a b. idle_stepped c met (reading_at held unread i) (numbered_at t i) (idle i a b))

    pub passed_count : v ≤ next → sum (stops_at c met held unread t) v ≡ sum (stops_at c met held unread t) next
    passed_count b = sum_stands (stops_at c met held unread t) v next b (λ i a b. idle_stops c met (reading_at held unread i) (numbered_at t i) (idle i a b))

-- ---- one entry

-- on statuses
status_stepped : (c : Condition) (r : Reading) (met a : Status) → stepped c (numbered met) r (numbered a) ≡ numbered (next_status met (evaluated r c) a)
unfolding stepped
status_stepped c r met Success = refl
status_stepped c r met (Running job) = refl
status_stepped c r met (Unsettled mask) = refl
status_stepped c r met Waiting = refl
status_stepped c r met Failure = by_condition (evaluated r c)
  where
    by_condition : (e : Evaluation) → asked (numbered met) (numbered Failure) e ≡ numbered (next_status met e Failure)
    by_condition Met = refl
    by_condition Missed = refl
    by_condition (Open mask) = refl

-- a vehicle that goes on stops there, or still goes on, since no entry that is met gives Failure
status_goes : (c : Condition) (r : Reading) (i job : ℕ) (a : Status)
    → one_if (is_failure a) ≡ stops c r (numbered a) + one_if (is_failure (next_status (met_at i job) (evaluated r c) a))
unfolding stops
status_goes c r i job Success = refl
status_goes c r i job (Running k) = refl
status_goes c r i job (Unsettled mask) = refl
status_goes c r i job Waiting = refl
status_goes c r i job Failure = by_entry i (evaluated r c)
  where
    by_entry : (i : ℕ) (e : Evaluation) → 1 ≡ one_if (not (is_missed e)) + one_if (is_failure (next_status (met_at i job) e Failure))
    by_entry zero Met = refl
    by_entry (suc i) Met = refl
    by_entry i Missed = refl
    by_entry i (Open mask) = refl

module _ (w : WalkedRows) where
  -- before the first entry every vehicle goes on
  pub rows_none : (vehicles : ℕ) (t : AnswerRows) {start : AnswerRows} → start ≡ over_rows (λ v. numbered Failure) vehicles t → start ≡ rows_after w 0 vehicles t
  unfolding answer_after
  rows_none vehicles t e = e

  pub all_going : (vehicles : ℕ) → vehicles ≡ going_after w 0 vehicles
  unfolding answer_after
  all_going zero = refl
  all_going (suc v) = omega (arith, all_going v)

  module _ (n vehicles : ℕ) (t : AnswerRows) {now later : AnswerRows} {stopped : ℕ} {c : Condition} {met : Numbered} (e : now ≡ rows_after w n vehicles t)
      (is : c ≡ condition_at w.conditions w.absences n) (gives : met ≡ numbered (met_at n (get_or w.actions n 0))) (s : AsksAll c met w.held w.unread vehicles now later stopped) where
    stands : (v : ℕ) → v < vehicles → numbered_at now v ≡ numbered (status_after w n v)
    stands v h = ap (λ (t : AnswerRows). numbered_at t v) e ∙ rows_front (λ v. numbered (status_after w n v)) t vehicles v h

    pub entry_rows : later ≡ rows_after w (n + 1) vehicles t
    unfolding answer_after
    entry_rows =
        s.answers
        ∙ rows_same _ now (λ v. numbered (status_after w (n + 1) v)) vehicles (λ v h.
        rw (stands v h, is, gives, add-one n) (status_stepped _ (reading_at w.held w.unread v) (met_at n (get_or w.actions n 0)) (status_after w n v)))
        ∙ rw e (rows_again (λ v. numbered (status_after w (n + 1) v)) t (λ v. numbered (status_after w n v)) vehicles)

    pub entry_going : going_after w n vehicles ≡ stopped + going_after w (n + 1) vehicles
    unfolding answer_after
    entry_going =
        sum_split (λ v. one_if (is_failure (status_after w n v))) (λ v. stops c (reading_at w.held w.unread v) (numbered_at now v)) (λ v. one_if (is_failure (status_after w (n + 1) v))) vehicles
        (λ v h. rw (stands v h, is, add-one n) (status_goes _ (reading_at w.held w.unread v) n (get_or w.actions n 0) (status_after w n v)))
        ∙ ap (λ (k : ℕ). k + going_after w (n + 1) vehicles) (sym s.count)
