-- The laws of conditions and actions on which every plan rests, each over any number of facts, bit by bit.
-- Assumes nothing.
use Rattle.std.specs.Prelude.{Bool, not, ◌&&◌, ◌||◌, ℕ, ◌+◌, ◌-◌, ◌≤◌, max, ◌≡◌, T}
use Rattle.std.proofs.Common.{arith, T_not}
use Rattle.base.specs.Bools.{by_cases, and_intro, and_left, and_right, neither, neither_left, neither_right}
use Rattle.masks.specs.Sets.{bit, subset, intersects, union, difference, within}
use Rattle.masks.specs.Bits.{bit_le, bit_empty, bit_union, bit_difference, same_bits, subset_bits, bits_subset, disjoint_bits, bits_disjoint}
use Rattle.masks.specs.Laws.{subset_refl, empty_subset, within_union, within_difference}
use Rattle.conditions.specs.declared.Condition.{Condition}
use Rattle.conditions.specs.declared.Action.{Action}
use Rattle.conditions.specs.Condition.{weaker, consistent, satisfied, needed, applied, relevant, regressed, condition_within, ActionWithin}

-- ---- what a condition says of each fact of a state

pub record AtFact (c : Condition) (s i : ℕ) : Type 0 where
  pub holds : bit c.present i ≤ bit s i
  pub lacks : bit c.absent i + bit s i ≤ 1

module _ (c : Condition) (s : ℕ) where
  pub satisfied_bits : T (satisfied c s) → (i : ℕ) → AtFact c s i
  unfolding satisfied
  satisfied_bits t i =
      record {
        holds = subset_bits c.present s (and_left (subset c.present s) _ t) i;
        lacks = disjoint_bits c.absent s (and_right (subset c.present s) _ t) i;
      }

  pub bits_satisfied : ((i : ℕ) → AtFact c s i) → T (satisfied c s)
  unfolding satisfied
  bits_satisfied h =
      and_intro (subset c.present s) _ (bits_subset c.present s (λ i. (h i).holds)) (bits_disjoint c.absent s (λ i. (h i).lacks))

  -- a condition that a state meets wants no fact both ways
  pub satisfied_consistent : T (satisfied c s) → T (consistent c)
  unfolding consistent
  satisfied_consistent m = bits_disjoint c.present c.absent (λ i. omega (arith, satisfied_bits m i))

-- ---- parts

-- what a part is, fact by fact
record Part (c d : Condition) (i : ℕ) : Type 0 where
  present : bit c.present i ≤ bit d.present i
  absent : bit c.absent i ≤ bit d.absent i

weaker_bits : (c d : Condition) → T (weaker c d) → (i : ℕ) → Part c d i
unfolding weaker
weaker_bits c d t i =
    record {
      present = subset_bits c.present d.present (and_left (subset c.present d.present) _ t) i;
      absent = subset_bits c.absent d.absent (and_right (subset c.present d.present) _ t) i;
    }

pub weaker_refl : (c : Condition) → T (weaker c c)
unfolding weaker
weaker_refl c = and_intro (subset c.present c.present) _ (subset_refl c.present) (subset_refl c.absent)

-- a state that meets a condition meets each part of it
pub weaker_satisfied : (s : ℕ) (c d : Condition) → T (weaker c d) → T (satisfied d s) → T (satisfied c s)
weaker_satisfied s c d w m =
    bits_satisfied c s (λ i.
    let b = satisfied_bits d s m i in
    let p = weaker_bits c d w i in
    record { holds = omega (arith, b, p); lacks = omega (arith, b, p) })

-- ---- what an action makes of a condition, fact by fact

module _ (a : Action) (c : Condition) where
  pub record Before (i : ℕ) : Type 0 where
    pub present : bit (regressed a c).present i ≡ max (bit a.needs i) (bit c.present i - bit a.adds i)
    pub absent : bit (regressed a c).absent i ≡ max (bit a.absent i) (bit c.absent i - bit a.deletes i)
    pub small_p : bit c.present i ≤ 1
    pub small_n : bit c.absent i ≤ 1

  pub before : (i : ℕ) → Before i
  unfolding regressed
  before i =
      record {
        present = omega (arith, bit_union a.needs (difference c.present a.adds) i, bit_difference c.present a.adds i);
        absent = omega (arith, bit_union a.absent (difference c.absent a.deletes) i, bit_difference c.absent a.deletes i);
        small_p = bit_le c.present i;
        small_n = bit_le c.absent i;
      }

-- ---- one action, the state s in which it is done, and a condition c

module _ (a : Action) (s : ℕ) where
  -- one fact after the action, and how small each bit of it is
  record After (i : ℕ) : Type 0 where
    after : bit (applied a s) i ≡ max (bit s i) (bit a.adds i) - bit a.deletes i
    small_s : bit s i ≤ 1
    small_a : bit a.adds i ≤ 1
    small_d : bit a.deletes i ≤ 1

  after : (i : ℕ) → After i
  unfolding applied
  after i =
      record {
        after = omega (arith, bit_difference (union s a.adds) a.deletes i, bit_union s a.adds i);
        small_s = bit_le s i;
        small_a = bit_le a.adds i;
        small_d = bit_le a.deletes i;
      }

  -- an added fact holds after the action, where the action does not delete it; a deleted one does not
  pub added_held : T (not (intersects a.adds a.deletes)) → T (subset a.adds (applied a s))
  added_held t = bits_subset a.adds (applied a s) (λ i. omega (arith, after i, disjoint_bits a.adds a.deletes t i))

  pub deleted_absent : T (not (intersects a.deletes (applied a s)))
  deleted_absent = bits_disjoint a.deletes (applied a s) (λ i. omega (arith, after i))

  module _ (c : Condition) where
    abbrev undoes : Bool
    undoes = intersects a.deletes c.present || intersects a.adds c.absent

    abbrev helps : Bool
    helps = intersects a.adds c.present || intersects a.deletes c.absent

    -- What holds after an irrelevant action held before a c it. A fact that is both added and deleted would be absent after the action although the
    -- action counts as undoing its absence: so no fact is both, which the table's stop 6 sees to.
    pub irrelevant_kept : T (not (intersects a.adds a.deletes)) → T (satisfied c (applied a s)) → T (not (relevant a c)) → T (satisfied c s)
    unfolding relevant
    irrelevant_kept apart m irrelevant =
        by_cases helps
        (λ t. absurd (T_not (not undoes && helps) irrelevant (and_intro (not undoes) _ (neither (intersects a.deletes c.present) _
        (bits_disjoint a.deletes c.present (λ i. omega (arith, after i, satisfied_bits c (applied a s) m i)))
        (bits_disjoint a.adds c.absent
        (λ i. omega (arith, after i, before a c i, satisfied_bits c (applied a s) m i, disjoint_bits a.adds a.deletes apart i)))) t)))
        (λ t. bits_satisfied c s (λ i.
        let b = after i in
        let k = before a c i in
        let q = satisfied_bits c (applied a s) m i in
        let u = disjoint_bits a.adds c.present (neither_left (intersects a.adds c.present) _ t) i in
        let v = disjoint_bits a.deletes c.absent (neither_right (intersects a.adds c.present) _ t) i in
        record { holds = omega (arith, b, k, q, u, v); lacks = omega (arith, b, k, q, u, v) }))

    -- where the action is applicable and c holds after it, the regressed condition held before a c it
    pub regressed_held : T (satisfied (needed a) s) → T (satisfied c (applied a s)) → T (satisfied (regressed a c) s)
    regressed_held k m =
        bits_satisfied (regressed a c) s (λ i.
        let b = after i in
        let p = before a c i in
        let n = satisfied_bits (needed a) s k i in
        let q = satisfied_bits c (applied a s) m i in
        record { holds = omega (arith, b, p, n, q); lacks = omega (arith, b, p, n, q) })

    -- where the regressed condition holds, the action is applicable
    pub regressed_applicable : T (satisfied (regressed a c) s) → T (satisfied (needed a) s)
    regressed_applicable m =
        bits_satisfied (needed a) s (λ i.
        let p = before a c i in
        let q = satisfied_bits (regressed a c) s m i in
        record { holds = omega (arith, p, q); lacks = omega (arith, p, q) })

    -- and a relevant action then brings c about
    pub relevant_achieves : T (relevant a c) → T (satisfied (regressed a c) s) → T (satisfied c (applied a s))
    unfolding relevant
    relevant_achieves t m =
        let k = and_left (not undoes) helps t in
        bits_satisfied c (applied a s) (λ i.
        let b = after i in
        let p = before a c i in
        let q = satisfied_bits (regressed a c) s m i in
        let u = disjoint_bits a.deletes c.present (neither_left (intersects a.deletes c.present) _ k) i in
        let v = disjoint_bits a.adds c.absent (neither_right (intersects a.deletes c.present) _ k) i in
        record { holds = omega (arith, b, p, q, u); lacks = omega (arith, b, p, q, v) })

-- ---- neither leaves the facts of the table

module _ (f : ℕ) (a : Action) (w : ActionWithin f a) where
  pub applied_within : (s : ℕ) → T (within f s) → T (within f (applied a s))
  unfolding applied
  applied_within s q = within_difference f (union s a.adds) a.deletes (within_union f s a.adds q w.adds_within)

  pub regressed_within : (c : Condition) → T (condition_within f c) → T (condition_within f (regressed a c))
  unfolding regressed
  regressed_within c q =
      let n = w.needs_within in
      and_intro (within f (regressed a c).present) _
      (within_union f a.needs (difference c.present a.adds) (and_left (within f a.needs) _ n)
      (within_difference f c.present a.adds (and_left (within f c.present) _ q)))
      (within_union f a.absent (difference c.absent a.deletes) (and_right (within f a.needs) _ n)
      (within_difference f c.absent a.deletes (and_right (within f c.present) _ q)))

-- ---- conditions of which nothing is to be absent, as all are of a table without a 0x21

-- an action that needs no fact absent keeps to them
pub plain_regressed : (a : Action) (c : Condition) → a.absent ≡ 0 → c.absent ≡ 0 → (regressed a c).absent ≡ 0
unfolding regressed
plain_regressed a c p q =
    rw (p, q) (same_bits (union 0 (difference 0 a.deletes)) 0
    (λ i. omega (arith, bit_union 0 (difference 0 a.deletes) i, bit_difference 0 a.deletes i, bit_empty i)))

module _ (c : Condition) (e : c.absent ≡ 0) where
  lacks_none : (i : ℕ) → bit c.absent i ≡ 0
  lacks_none i = rw e (bit_empty i)

  pub plain_consistent : T (consistent c)
  unfolding consistent
  plain_consistent = bits_disjoint c.present c.absent (λ i. omega (arith, lacks_none i, bit_le c.present i))

  -- the state that holds just a condition meets it
  pub satisfied_itself : T (satisfied c c.present)
  satisfied_itself = bits_satisfied c c.present (λ i. record { holds = omega arith; lacks = omega (arith, lacks_none i, bit_le c.present i) })

  -- and it meets no others but parts of what it holds
  pub satisfied_weaker : (d : Condition) → T (satisfied c d.present) → T (weaker c d)
  unfolding weaker satisfied
  satisfied_weaker d t =
      and_intro (subset c.present d.present) _ (and_left (subset c.present d.present) _ t) (rw e (empty_subset d.absent))

-- the state that holds just a condition is one of the table's
pub itself_within : (f : ℕ) (c : Condition) → T (condition_within f c) → T (within f c.present)
itself_within f c t = and_left (within f c.present) _ t
