-- What a reading says of a condition, way by way, and what holds of every way of filling in the unread facts.
-- Assumes nothing.
use Prim.Native.Nat.{ℕ, zero, suc, ◌+◌, ◌-◌, ◌≤◌, max}
use Rattle.std.proofs.Common.{arith, ◌∙◌, T_not}
use Rattle.std.specs.Prelude.{◌≡◌, Bool, true, false, not, ◌&&◌, ◌||◌, T, if◌then◌else◌}
use Rattle.std.proofs.Math.Path.{refl}
use borrow.Author.Tests.{eq-eqb, ne_eqb}
use Rattle.std.specs.Int.Bits.{bit_and}
use Rattle.std.proofs.Math.Dec.{not_T}
use Rattle.base.specs.Bools.{by_cases, and_intro, and_left, and_right, holds, fails, is_true, is_false}
use Rattle.masks.specs.Sets.{bit, subset, intersects, union, difference, within}
use Rattle.masks.specs.Bits.{bit_le, bit_empty, bit_union, bit_difference, same_bits, subset_bits, bits_subset, disjoint_bits, bits_disjoint}
use Rattle.masks.specs.Laws.{subset_refl, subset_trans, subset_union_left, disjoint_subset, within_difference}
use Rattle.reading.specs.declared.Reading.{Reading}
use Rattle.reading.specs.Reading.{sound, Completes, state}
use Rattle.reading.specs.ReadingLaws.{sound_held, sound_unread, sound_apart, absent_completes, held_completes}
use Rattle.conditions.specs.declared.Action.{Action}
use Rattle.conditions.specs.declared.Condition.{Condition}
use Rattle.conditions.specs.declared.Evaluation.{Evaluation}
use Rattle.conditions.specs.declared.Evaluation.TheVariants.{Met, Missed, Open}
use Rattle.conditions.specs.Condition.{mentioned, consistent, satisfied, needed, applied, regressed, ActionWithin}
use Rattle.conditions.specs.OnReading.{possible, evaluated, applicable, finished, Confirmed}
use Rattle.conditions.specs.ConditionLaws.{satisfied_bits, bits_satisfied, before, applied_within}

-- ---- the ways through the definition

module _ (r : Reading) (c : Condition) where
  pub evaluated_present : subset c.present (union r.held r.unread) ≡ false → Missed ≡ evaluated r c
  unfolding evaluated possible
  evaluated_present e = rw e

  module _ (e : subset c.present (union r.held r.unread) ≡ true) where
    pub evaluated_absent : intersects c.absent r.held ≡ true → Missed ≡ evaluated r c
    unfolding evaluated possible
    evaluated_absent f = rw (e, f)

    module _ (f : intersects c.absent r.held ≡ false) where
      pub evaluated_met : bit_and (mentioned c) r.unread ≡ 0 → Met ≡ evaluated r c
      unfolding evaluated possible intersects
      evaluated_met g = rw (e, f, eq-eqb _ _ g)

      pub evaluated_open : (bit_and (mentioned c) r.unread ≡ 0 → ⊥) → Open (bit_and (mentioned c) r.unread) ≡ evaluated r c
      unfolding evaluated possible intersects
      evaluated_open g = rw (e, f, ne_eqb _ _ g)

  -- an answer tells what the two tests behind it were
  told : {P : Type 0} (v : Evaluation) → evaluated r c ≡ v
      → ((p u : Bool) → possible r c ≡ p → intersects (mentioned c) r.unread ≡ u
      → (if p then (if u then Open (bit_and (mentioned c) r.unread) else Met) else Missed) ≡ v → P) → P
  unfolding evaluated
  told v e k = k (possible r c) (intersects (mentioned c) r.unread) refl refl e

  -- what is possible, fact by fact
  record Possible (i : ℕ) : Type 0 where
    present : bit c.present i ≤ max (bit r.held i) (bit r.unread i)
    absent : bit c.absent i + bit r.held i ≤ 1

  possible_bits : T (possible r c) → (i : ℕ) → Possible i
  unfolding possible
  possible_bits t i =
      let p = and_left (subset c.present (union r.held r.unread)) _ t in
      record {
        present = omega (arith, subset_bits c.present (union r.held r.unread) p i, bit_union r.held r.unread i);
        absent = disjoint_bits c.absent r.held (and_right (subset c.present (union r.held r.unread)) _ t) i;
      }

  bits_possible : ((i : ℕ) → Possible i) → T (possible r c)
  unfolding possible
  bits_possible h =
      and_intro (subset c.present (union r.held r.unread)) _
      (bits_subset c.present (union r.held r.unread) (λ i. omega (arith, h i, bit_union r.held r.unread i)))
      (bits_disjoint c.absent r.held (λ i. (h i).absent))

  bit_mentioned : (i : ℕ) → bit (mentioned c) i ≡ max (bit c.present i) (bit c.absent i)
  bit_mentioned i = bit_union c.present c.absent i

  -- what is confirmed, fact by fact
  pub record Sure (i : ℕ) : Type 0 where
    pub held : bit c.present i ≤ bit r.held i
    pub absent : bit c.absent i + bit r.held i ≤ 1
    pub read : max (bit c.present i) (bit c.absent i) + bit r.unread i ≤ 1

  pub confirmed_bits : Confirmed r c → (i : ℕ) → Sure i
  confirmed_bits k i =
      record {
        held = subset_bits c.present r.held k.held i;
        absent = disjoint_bits c.absent r.held k.absent i;
        read = omega (arith, disjoint_bits (mentioned c) r.unread k.read i, bit_mentioned i);
      }

  pub bits_confirmed : ((i : ℕ) → Sure i) → Confirmed r c
  bits_confirmed h =
      record {
        held = bits_subset c.present r.held (λ i. (h i).held);
        absent = bits_disjoint c.absent r.held (λ i. (h i).absent);
        read = bits_disjoint (mentioned c) r.unread (λ i. omega (arith, h i, bit_mentioned i));
      }

  -- what is met is confirmed
  pub met_confirmed : evaluated r c ≡ Met → Confirmed r c
  met_confirmed e = told Met e by_tests
    where
      by_tests : (p u : Bool) → possible r c ≡ p → intersects (mentioned c) r.unread ≡ u
          → (if p then (if u then Open (bit_and (mentioned c) r.unread) else Met) else Missed) ≡ Met → Confirmed r c
      by_tests true false s t v =
          bits_confirmed (λ i.
          let p = possible_bits (holds _ s) i in
          let q = disjoint_bits (mentioned c) r.unread (fails _ t) i in
          let m = bit_mentioned i in
          record { held = omega (arith, p, q, m); absent = p.absent; read = omega (arith, q, m) })
      by_tests true true s t v = let z : ◌≡◌ {A = ℕ} 0 1 = cc in absurd (omega arith)
      by_tests false u s t v = let z : ◌≡◌ {A = ℕ} 0 1 = cc in absurd (omega arith)

  -- no read fact fails it, and one is unread
  record Undecided : Type 0 where
    unfailed : T (possible r c)
    unread_fact : T (intersects (mentioned c) r.unread)

  undecided : (m : ℕ) → evaluated r c ≡ Open m → Undecided
  undecided m e = told (Open m) e by_tests
    where
      by_tests : (p u : Bool) → possible r c ≡ p → intersects (mentioned c) r.unread ≡ u
          → (if p then (if u then Open (bit_and (mentioned c) r.unread) else Met) else Missed) ≡ Open m → Undecided
      by_tests true true s t v = record { unfailed = holds _ s; unread_fact = holds _ t }
      by_tests true false s t v = let z : ◌≡◌ {A = ℕ} 0 1 = cc in absurd (omega arith)
      by_tests false u s t v = let z : ◌≡◌ {A = ℕ} 0 1 = cc in absurd (omega arith)

-- ---- a state has no unread facts: it meets a condition or misses it

pub evaluated_state : (s : ℕ) (c : Condition) → evaluated (state s) c ≡ (if satisfied c s then Met else Missed)
unfolding evaluated possible satisfied
evaluated_state s c = rw (all, none)
  where
    all : union s 0 ≡ s
    all = same_bits (union s 0) s (λ i. omega (arith, bit_union s 0 i, bit_empty i))

    none : intersects (mentioned c) 0 ≡ false
    none = is_false _ (bits_disjoint (mentioned c) 0 (λ i. omega (arith, bit_le (mentioned c) i, bit_empty i)))

state_met : (s : ℕ) (c : Condition) → T (satisfied c s) → evaluated (state s) c ≡ Met
state_met s c t = evaluated_state s c ∙ rw (is_true (satisfied c s) t)

state_missed : (s : ℕ) (c : Condition) → (T (satisfied c s) → ⊥) → evaluated (state s) c ≡ Missed
state_missed s c t = evaluated_state s c ∙ rw (is_false (satisfied c s) (not_T (satisfied c s) t))

-- ---- what is met or missed is so however the unread facts turn out

module _ (r : Reading) (s : ℕ) (fills : Completes r s) where
  -- a completion, fact by fact
  record Filled (i : ℕ) : Type 0 where
    least : bit r.held i ≤ bit s i
    most : bit s i ≤ max (bit r.held i) (bit r.unread i)
    small_s : bit s i ≤ 1

  filled : (i : ℕ) → Filled i
  filled i =
      record {
        least = subset_bits r.held s fills.keeps_held i;
        most = omega (arith, subset_bits s (union r.held r.unread) fills.adds_unread i, bit_union r.held r.unread i);
        small_s = bit_le s i;
      }

  module _ (c : Condition) where
    pub met_everywhere : evaluated r c ≡ Met → evaluated (state s) c ≡ Met
    met_everywhere e =
        state_met s c (bits_satisfied c s (λ i.
        let k = confirmed_bits r c (met_confirmed r c e) i in
        let f = filled i in
        record { holds = omega (arith, k, f); lacks = omega (arith, k, f, bit_le c.absent i) }))

    pub missed_everywhere : evaluated r c ≡ Missed → evaluated (state s) c ≡ Missed
    missed_everywhere e = state_missed s c (λ t. told r c Missed e (by_tests t))
      where
        unfailed : T (satisfied c s) → T (possible r c)
        unfailed t =
            bits_possible r c (λ i.
            let b = satisfied_bits c s t i in
            let f = filled i in
            record { present = omega (arith, b, f); absent = omega (arith, b, f) })

        by_tests : T (satisfied c s) → (p u : Bool) → possible r c ≡ p → intersects (mentioned c) r.unread ≡ u
            → (if p then (if u then Open (bit_and (mentioned c) r.unread) else Met) else Missed) ≡ Missed → ⊥
        by_tests t true true q u v = let z : ◌≡◌ {A = ℕ} 0 1 = cc in omega arith
        by_tests t true false q u v = let z : ◌≡◌ {A = ℕ} 0 1 = cc in omega arith
        by_tests t false u q w v = T_not (possible r c) (fails _ q) (unfailed t)

-- ---- what a confirmed condition confirms

-- where what an action makes of a condition is confirmed, so is what the action needs
pub regressed_confirmed : (r : Reading) (a : Action) (c : Condition) → Confirmed r (regressed a c) → Confirmed r (needed a)
regressed_confirmed r a c k =
    bits_confirmed r (needed a) (λ i.
    let q = confirmed_bits r (regressed a c) k i in
    let b = before a c i in
    record { held = omega (arith, q, b); absent = omega (arith, q, b); read = omega (arith, q, b) })

-- ---- what is open is met in one way of filling in the unread facts, and missed in another

-- the unread facts hold, but for those that are to be absent
module _ (r : Reading) (c : Condition) (possibly : T (possible r c)) (one_way : T (consistent c)) where
  abbrev favoured : ℕ
  favoured = union r.held (difference r.unread c.absent)

  record Favoured (i : ℕ) : Type 0 where
    value : bit favoured i ≡ max (bit r.held i) (bit r.unread i - bit c.absent i)
    unfailed : Possible r c i
    apart : bit c.present i + bit c.absent i ≤ 1
    small_h : bit r.held i ≤ 1
    small_u : bit r.unread i ≤ 1

  at : (i : ℕ) → Favoured i
  unfolding consistent
  at i =
      record {
        value = omega (arith, bit_union r.held (difference r.unread c.absent) i, bit_difference r.unread c.absent i);
        unfailed = possible_bits r c possibly i;
        apart = disjoint_bits c.present c.absent one_way i;
        small_h = bit_le r.held i;
        small_u = bit_le r.unread i;
      }

  favoured_completes : Completes r favoured
  favoured_completes =
      record {
        keeps_held = bits_subset r.held favoured (λ i. omega (arith, at i));
        adds_unread = bits_subset favoured (union r.held r.unread) (λ i. omega (arith, at i, bit_union r.held r.unread i));
      }

  favoured_met : T (satisfied c favoured)
  favoured_met = bits_satisfied c favoured (λ i. record { holds = omega (arith, at i); lacks = omega (arith, at i) })

module _ (r : Reading) (c : Condition) (m : ℕ) (e : evaluated r c ≡ Open m) where
  -- a condition that wanted a fact both ways would be met in no way
  pub open_met : T (consistent c) → (s : ℕ) × Completes r s × (evaluated (state s) c ≡ Met)
  open_met k =
      let p = (undecided r c m e).unfailed in
      (favoured r c p k, favoured_completes r c p k, state_met _ c (favoured_met r c p k))

  -- Missed where nothing unread holds, if a fact that is to hold is unread; otherwise where all of it does.
  pub open_missed : T (not (intersects r.held r.unread)) → (s : ℕ) × Completes r s × (evaluated (state s) c ≡ Missed)
  open_missed apart =
      by_cases (intersects c.present r.unread)
      (λ u. (r.held, absent_completes r, state_missed r.held c (λ t. T_not (intersects c.present r.unread) (none t) u)))
      (λ u. (
        union r.held r.unread,
        held_completes r,
        state_missed (union r.held r.unread) c (λ t.
            T_not (intersects (mentioned c) r.unread) (all u t) (undecided r c m e).unread_fact),
      ))
    where
      none : T (satisfied c r.held) → T (not (intersects c.present r.unread))
      none t =
          bits_disjoint c.present r.unread (λ i. omega (arith, satisfied_bits c r.held t i, disjoint_bits r.held r.unread apart i))

      all : T (not (intersects c.present r.unread)) → T (satisfied c (union r.held r.unread)) → T (not (intersects (mentioned c) r.unread))
      all u t =
          bits_disjoint (mentioned c) r.unread (λ i. omega (
            arith,
            disjoint_bits c.present r.unread u i,
            satisfied_bits c (union r.held r.unread) t i,
            bit_union r.held r.unread i,
            bit_mentioned r c i,
          ))

-- ---- the effect of a finished action on both masks

either : (s a : ℕ) → s ≤ 1 → a ≤ 1 → max s a ≤ 1
either s a p q = omega arith

-- one fact: what may hold after the action is held or unread after it
one_fact : (s h u a d : ℕ) → s ≤ 1 → a ≤ 1 → s ≤ max h u → max s a - d ≤ max (max h a - d) (u - a - d)
one_fact s h u zero zero p q l = rw (untouched s, untouched h, unchanged u) l
  where
    untouched : (m : ℕ) → max m zero - zero ≡ m
    untouched m = omega arith

    unchanged : (m : ℕ) → m - zero - zero ≡ m
    unchanged m = omega arith
one_fact s h u (suc a) zero p q l = added (max s (suc a)) (max h (suc a)) (u - suc a - zero) (either s (suc a) p q) (some h a)
  where
    some : (h a : ℕ) → 1 ≤ max h (suc a)
    some h a = omega arith

    added : (m y z : ℕ) → m ≤ 1 → 1 ≤ y → m - zero ≤ max (y - zero) z
    added m y z k i = omega arith
one_fact s h u a (suc d) p q l = deleted (max s a) d (max (max h a - suc d) (u - a - suc d)) (either s a p q)
  where
    deleted : (m d z : ℕ) → m ≤ 1 → m - suc d ≤ z
    deleted m d z k = omega arith

module _ (a : Action) where
  bit_applied : (s i : ℕ) → bit (applied a s) i ≡ max (bit s i) (bit a.adds i) - bit a.deletes i
  unfolding applied
  bit_applied s i = rw (bit_difference (union s a.adds) a.deletes i, bit_union s a.adds i)

  bit_now_read : (u i : ℕ) → bit (difference (difference u a.adds) a.deletes) i ≡ bit u i - bit a.adds i - bit a.deletes i
  bit_now_read u i = rw (bit_difference (difference u a.adds) a.deletes i, bit_difference u a.adds i)

  -- where all is read, an action is applicable where the state meets what it needs, and all stays read
  pub applicable_state : (s : ℕ) → applicable a (state s) ≡ satisfied (needed a) s
  unfolding applicable satisfied
  applicable_state s = rw (same_bits (union s 0) s (λ i. omega (arith, bit_union s 0 i, bit_empty i)))

  pub finished_state : (s : ℕ) → finished a (state s) ≡ state (applied a s)
  unfolding finished
  finished_state s = rw (same_bits (difference (difference 0 a.adds) a.deletes) 0 (λ i. omega (arith, bit_now_read 0 i, bit_empty i)))

  module _ (r : Reading) where
    at_held : (i : ℕ) → bit (finished a r).held i ≡ max (bit r.held i) (bit a.adds i) - bit a.deletes i
    unfolding finished
    at_held i = bit_applied r.held i

    at_unread : (i : ℕ) → bit (finished a r).unread i ≡ bit r.unread i - bit a.adds i - bit a.deletes i
    unfolding finished
    at_unread i = bit_now_read r.unread i

    -- it does the same to each state that the reading may stand for
    pub finished_completes : (s : ℕ) → Completes r s → Completes (finished a r) (applied a s)
    finished_completes s c =
        record {
          keeps_held = bits_subset _ _ (λ i. omega (arith, subset_bits r.held s c.keeps_held i, at_held i, bit_applied s i));
          adds_unread =
              bits_subset _ _
              (λ i. may_hold i (one_fact _ _ _ _ _ (bit_le s i) (bit_le a.adds i) (rw bit_union at (subset_bits s _ c.adds_unread i))));
        }
      where
        may_hold : (i : ℕ) → max (bit s i) (bit a.adds i) - bit a.deletes i
            ≤ max (max (bit r.held i) (bit a.adds i) - bit a.deletes i) (bit r.unread i - bit a.adds i - bit a.deletes i)
            → bit (applied a s) i ≤ bit (union (finished a r).held (finished a r).unread) i
        may_hold i h = rw (bit_applied, bit_union, at_held i, at_unread i) h

    -- and it leaves a sound reading sound, where it adds only facts of the table
    pub finished_sound : (f : ℕ) → ActionWithin f a → T (sound f r) → T (sound f (finished a r))
    unfolding sound finished
    finished_sound f w t =
        and_intro (within f (finished a r).held) _ (applied_within f a w r.held (sound_held f r t))
        (and_intro (within f (finished a r).unread) _ (within_difference f _ a.deletes (within_difference f r.unread a.adds (sound_unread f r t)))
        (bits_disjoint (finished a r).held (finished a r).unread
        (λ i. omega (arith, at_held i, at_unread i, disjoint_bits r.held r.unread (sound_apart f r t) i, bit_le r.held i, bit_le a.adds i))))

    -- where it is applicable, all that it needs is confirmed
    pub applicable_confirmed : (f : ℕ) → T (sound f r) → T (applicable a r) → Confirmed r (needed a)
    unfolding applicable
    applicable_confirmed f t h =
        let n = and_left (subset a.needs r.held) _ h in
        let l = and_right (subset a.needs r.held) _ h in
        bits_confirmed r (needed a) (λ i.
        let p = subset_bits a.needs r.held n i in
        let q = disjoint_bits a.absent (union r.held r.unread) l i in
        let u = bit_union r.held r.unread i in
        record { held = p; absent = omega (arith, q, u); read = omega (arith, p, q, u, disjoint_bits r.held r.unread (sound_apart f r t) i) })

    -- an action of which a fact that it needs, or needs absent, is unread is not applicable
    pub unread_inapplicable : (f : ℕ) → T (sound f r) → T (intersects (mentioned (needed a)) r.unread) → applicable a r ≡ false
    unread_inapplicable f t u =
        is_false _ (not_T (applicable a r) (λ h. T_not (intersects (mentioned (needed a)) r.unread) (applicable_confirmed f t h).read u))

    -- 17 in the papers' words: it is not applicable just where "a need of the reported job is unread or absent", or an "absent fact is held or unread"
    pub missing_need : (f : ℕ) → T (sound f r)
        → not (applicable a r)
        ≡ ((intersects a.needs r.unread || not (subset a.needs (union r.held r.unread))) || intersects a.absent (union r.held r.unread))
    unfolding applicable
    missing_need f t = rw (← split (subset n r.held) refl (intersects n r.unread) refl) (either_fails (subset n r.held) (intersects a.absent all))
      where
        n : ℕ
        n = a.needs

        all : ℕ
        all = union r.held r.unread

        some_held : T (not (intersects n r.unread)) → T (subset n all) → T (subset n r.held)
        some_held d h = bits_subset n r.held (λ i. omega (arith, disjoint_bits n r.unread d i, subset_bits n all h i, bit_union r.held r.unread i))

        split : (x : Bool) → subset n r.held ≡ x → (y : Bool) → intersects n r.unread ≡ y → not x ≡ (y || not (subset n all))
        split true p true q = absurd (rw q at (disjoint_subset n r.unread r.held r.unread (holds _ p) (subset_refl r.unread) (sound_apart f r t)))
        split true p false q = rw (is_true (subset n all) (subset_trans n r.held all (holds _ p) (subset_union_left r.held r.unread)))
        split false p true q = refl
        split false p false q = by_cases (subset n all) (λ h. absurd (rw p at (some_held (fails _ q) h))) (λ h. rw (is_false (subset n all) h))

        either_fails : (x y : Bool) → not (x && not y) ≡ (not x || y)
        either_fails true true = refl
        either_fails true false = refl
        either_fails false y = refl
