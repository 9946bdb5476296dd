-- Where the facts of a set are sent, fact by fact, and how the loops go on.
-- Assumes nothing.
use Rattle.std.specs.Prelude.{ℕ, zero, suc, ◌+◌, ◌-◌, ◌*◌, ◌/◌, ◌%◌, ◌^◌, ◌≤◌, ◌<◌, ◌≡◌, ◌⊎◌, Bool, ◌&&◌, ◌||◌, List, [], ◌∷◌, length, get_or, drop, if◌then◌else◌}
use Rattle.std.proofs.Common.{pow-suc, arith, ap, ◌∙◌, ⊎_elim, drop_of_length-le, drop-cons, pow_pos}
use Rattle.std.proofs.Math.Path.{refl}
use Rattle.std.proofs.Math.Logic.{inl, inr}
use Rattle.std.proofs.Math.Bool.{true, false, not}
use Rattle.std.proofs.Math.Dec.{T, eqb, ltb}
use Rattle.std.proofs.Math.Seq.{drop-length}
use borrow.Author.Tests.{lt-ltb, le-ltb, eqb-true, eqb-false, ltb-true}
use Rattle.base.specs.Bools.{and_left, and_right, neither_left, neither_right, holds, fails, is_true, is_false}
use Rattle.masks.specs.Sets.{bit, intersects, union}
use Rattle.masks.specs.Bits.{bit_le, bit_empty, bits, same_bits, disjoint_bits, bits_disjoint}
use Rattle.fact_map.specs.FactMap.{DROPPED, sent, sends, Source, fact, none, next, source_of, set_of}
use Rattle.fact_map.specs.Carry.{only, targets, fits, first_sent, carried, first_facts}

-- ---- bits of powers of 2

pow_same : (n : ℕ) → bit (2 ^ n) n ≡ 1
unfolding bit
pow_same zero = refl
pow_same (suc n) = let half : 2 ^ suc n / 2 ≡ 2 ^ n = rw (pow-suc 2 n) (omega arith) in rw half (pow_same n)

pow_other : (n i : ℕ) → (n ≡ i → ⊥) → bit (2 ^ n) i ≡ 0
unfolding bit
pow_other zero zero h = absurd (h refl)
pow_other zero (suc i) h = bit_empty i
pow_other (suc n) zero h = rw (pow-suc 2 n) (omega arith)
pow_other (suc n) (suc i) h = let half : 2 ^ suc n / 2 ≡ 2 ^ n = rw (pow-suc 2 n) (omega arith) in rw half (pow_other n i (λ e. h (ap suc e)))

pub first_below : (n i : ℕ) → i < n → bit (first_facts n) i ≡ 1
unfolding bit first_facts
first_below zero i h = absurd (omega arith)
first_below (suc n) zero h = rw (pow-suc 2 n) (omega (arith, pow_pos n))
first_below (suc n) (suc i) h =
    let half : (2 ^ suc n - 1) / 2 ≡ 2 ^ n - 1 = rw (pow-suc 2 n) (omega (arith, pow_pos n)) in
    rw half (first_below n i (omega arith))

pub first_past : (n i : ℕ) → n ≤ i → bit (first_facts n) i ≡ 0
unfolding bit first_facts
first_past zero i h = bit_empty i
first_past (suc n) zero h = absurd (omega arith)
first_past (suc n) (suc i) h =
    let half : (2 ^ suc n - 1) / 2 ≡ 2 ^ n - 1 = rw (pow-suc 2 n) (omega (arith, pow_pos n)) in
    rw half (first_past n i (omega arith))

-- ---- the set of one fact

only_same : (n : ℕ) → n < 64 → bit (only n) n ≡ 1
unfolding only
only_same n h = rw (lt-ltb n 64 h) (pow_same n)

only_other : (n i : ℕ) → (n ≡ i → ⊥) → bit (only n) i ≡ 0
unfolding only
only_other n i h = by (ltb n 64)
  where
    by : (b : Bool) → bit (if b then 2 ^ n else 0) i ≡ 0
    by true = pow_other n i h
    by false = bit_empty i

only_past : (n i : ℕ) → 64 ≤ n → bit (only n) i ≡ 0
unfolding only
only_past n i h = rw (le-ltb n 64 h) (bit_empty i)

-- ---- two sets with a fact in common

common : (a b i : ℕ) → bit a i ≡ 1 → bit b i ≡ 1 → intersects a b ≡ true
common a b i p q = by (intersects a b) refl
  where
    by : (s : Bool) → intersects a b ≡ s → s ≡ true
    by true e = refl
    by false e = absurd (omega (arith, disjoint_bits a b (fails _ e) i))

-- no set has a fact that no mask has
apart_past : (a n : ℕ) → 64 ≤ n → intersects a (only n) ≡ false
apart_past a n h = is_false _ (bits_disjoint a (only n) (λ i. omega (arith, only_past n i h, bit_le a i)))

-- ---- the facts that some fact is sent to

pub targets_bit : (map : List ℕ) (n : ℕ) → n < 64 → bit (targets map) n ≡ (if sent map n then 1 else 0)
unfolding targets sent
targets_bit [] n h = bit_empty n
targets_bit (x ∷ map) n h = by (eqb x n) refl (targets_bit map n h)
  where
    by : (b : Bool) → eqb x n ≡ b → bit (targets map) n ≡ (if sent map n then 1 else 0) → bit (union (targets map) (only x)) n ≡ (if b || sent map n then 1 else 0)
    by true e behind =
        let same : x ≡ n = eqb-true x n e in
        let here : bit (only x) n ≡ 1 = rw same (only_same n h) in
        simp bits (omega (arith, bit_le (targets map) n))
    by false e behind = simp bits (omega (arith, only_other x n (eqb-false x n e)))

-- a fact is among them exactly where one is sent to it
targets_sent : (map : List ℕ) (n : ℕ) → n < 64 → intersects (targets map) (only n) ≡ sent map n
targets_sent map n h = by (sent map n) (targets_bit map n h)
  where
    by : (b : Bool) → bit (targets map) n ≡ (if b then 1 else 0) → intersects (targets map) (only n) ≡ b
    by true e = common (targets map) (only n) n e (only_same n h)
    by false e = is_false _ (bits_disjoint (targets map) (only n) (λ i. apart i (eqb n i) refl))
      where
        apart : (i : ℕ) (same : Bool) → eqb n i ≡ same → bit (targets map) i + bit (only n) i ≤ 1
        apart i true q = let here : n ≡ i = eqb-true n i q in rw (← here) (omega (arith, bit_le (only n) n))
        apart i false q = omega (arith, only_other n i (eqb-false n i q), bit_le (targets map) i)

-- ---- a map, judged from its last byte down

and_true : (b : Bool) → (b && true) ≡ b
and_true true = refl
and_true false = refl

and_false : (b : Bool) → (b && false) ≡ false
and_false true = refl
and_false false = refl

module _ (new : ℕ) (few : new ≤ 64) where
  fits_sent : (map : List ℕ) (x : ℕ) → fits new (targets map) x ≡ (eqb x DROPPED || (ltb x new && not (sent map x)))
  unfolding fits
  fits_sent map x = by (eqb x DROPPED) refl (ltb x new) refl
    where
      by : (a : Bool) → eqb x DROPPED ≡ a → (b : Bool) → ltb x new ≡ b → (not (intersects (targets map) (only x)) && (a || b)) ≡ (a || (b && not (sent map x)))
      by true p b q = let past : x ≡ DROPPED = eqb-true x DROPPED p in rw (apart_past (targets map) x (omega arith))
      by false p true q = let below : x < new = ltb-true x new q in rw (targets_sent map x (omega arith)) (and_true (not (sent map x)))
      by false p false q = and_false (not (intersects (targets map) (only x)))

  pub sends_next : (map : List ℕ) (x : ℕ) → fits new (targets map) x ≡ true → sends new map ≡ true → sends new (x ∷ map) ≡ true
  unfolding sends
  sends_next map x e h = rw (← fits_sent map x, e, h)

  pub sends_not : (map : List ℕ) (x : ℕ) → fits new (targets map) x ≡ false → sends new (x ∷ map) ≡ false
  unfolding sends
  sends_not map x e = rw (← fits_sent map x, e)

-- a map of which a rest is none
pub sends_rest : (new : ℕ) (map : List ℕ) (i : ℕ) → sends new (drop i map) ≡ false → sends new map ≡ false
unfolding sends
sends_rest new map zero e = e
sends_rest new [] (suc i) e = e
sends_rest new (x ∷ map) (suc i) e = rw (sends_rest new map i e) (and_false (eqb x DROPPED || (ltb x new && not (sent map x))))

-- the bytes from i on are judged, and the facts that they send to are known
abbrev pub JudgedFrom : (new : ℕ) → List ℕ → (i taken : ℕ) → Type 0
JudgedFrom new map i taken = (taken ≡ targets (drop i map)) × (sends new (drop i map) ≡ true)

module _ (new : ℕ) (map : List ℕ) where
  pub judged_none : JudgedFrom new map (length map) 0
  unfolding targets sends
  judged_none = rw (drop-length map) (refl, refl)

  -- one byte more, that before the k-th
  module _ (few : new ≤ 64) (k i taken : ℕ) (q : k ≡ suc i) (h : i < length map) (judged : JudgedFrom new map k taken) where
    here : drop i map ≡ get_or map i 0 ∷ drop (suc i) map
    here = drop-cons map i 0 h

    j : JudgedFrom new map (suc i) taken
    j = rw q at judged

    pub judged_next : fits new taken (get_or map i 0) ≡ true → JudgedFrom new map i (union taken (only (get_or map i 0)))
    unfolding targets
    judged_next e = rw (here, j.0) (refl, sends_next new few (drop (suc i) map) (get_or map i 0) (rw j.0 at e) j.1)

    pub judged_not : fits new taken (get_or map i 0) ≡ false → sends new map ≡ false
    judged_not e = sends_rest new map i (rw here (sends_not new few (drop (suc i) map) (get_or map i 0) (rw j.0 at e)))

-- ---- where the facts of a set go

-- from i on, with what was sent before
module _ (map : List ℕ) where
  pub carry_none : (set : ℕ) → union 0 (carried map set) ≡ carried map set
  carry_none set = same_bits _ _ (λ i. simp bits (omega arith))

  pub carry_next : (before left i : ℕ) → i < length map
      → union before (carried (drop i map) left) ≡ union (union before (first_sent (get_or map i 0) left)) (carried (drop (suc i) map) (left / 2))
  unfolding carried
  carry_next before left i h = rw (drop-cons map i 0 h) (same_bits _ _ (λ k. simp bits (omega arith)))

  pub carry_all : (before left i : ℕ) → length map ≤ i → union before (carried (drop i map) left) ≡ before
  unfolding carried
  carry_all before left i h = rw (drop_of_length-le map h) (same_bits _ _ (λ k. simp bits (omega arith)))

-- the fact of the set that goes to n
abbrev pub bit_from : ℕ → Source → ℕ
bit_from set (fact i) = bit set i
bit_from set none = 0

first_bit : (x set n : ℕ) → n < 64 → bit (first_sent x set) n ≡ (if eqb x n then bit set 0 else 0)
unfolding first_sent bit
first_bit x set n h = by (eqb (set % 2) 1) refl (eqb x n) refl
  where
    by : (b : Bool) → eqb (set % 2) 1 ≡ b → (c : Bool) → eqb x n ≡ c → bit (if b then only x else 0) n ≡ (if c then set % 2 else 0)
    by true p true q = let same : x ≡ n = eqb-true x n q in rw (same, eqb-true (set % 2) 1 p) (only_same n h)
    by true p false q = only_other x n (eqb-false x n q)
    by false p true q = bit_empty n ∙ omega (arith, eqb-false (set % 2) 1 p)
    by false p false q = bit_empty n

first_none : (x set n : ℕ) → bit (only x) n ≡ 0 → bit (first_sent x set) n ≡ 0
unfolding first_sent
first_none x set n e = by (eqb (set % 2) 1)
  where
    by : (b : Bool) → bit (if b then only x else 0) n ≡ 0
    by true = e
    by false = bit_empty n

-- nothing goes where no fact is sent
carried_unsent : (map : List ℕ) (set n : ℕ) → n < 64 → sent map n ≡ false → bit (carried map set) n ≡ 0
unfolding carried sent
carried_unsent [] set n h e = bit_empty n
carried_unsent (x ∷ map) set n h e =
    let other = is_false (eqb x n) (neither_left (eqb x n) (sent map n) (fails _ e)) in
    let behind = is_false (sent map n) (neither_right (eqb x n) (sent map n) (fails _ e)) in
    let first : bit (first_sent x set) n ≡ 0 = rw other at (first_bit x set n h) in
    simp bits (omega (arith, carried_unsent map (set / 2) n h behind))

-- ---- of a map, each fact is sent into the new table, and to one of its own

module _ (new : ℕ) (x : ℕ) (map : List ℕ) (e : sends new (x ∷ map) ≡ true) where
  rest_sends : sends new map ≡ true
  unfolding sends
  rest_sends = is_true (sends new map) (and_right (eqb x DROPPED || (ltb x new && not (sent map x))) (sends new map) (holds _ e))

  -- it is dropped, or it is sent to a fact below F and no other is
  first_sends : (x ≡ DROPPED) ⊎ ((x < new) × (sent map x ≡ false))
  unfolding sends
  first_sends = by (eqb x DROPPED) refl (ltb x new) refl (sent map x) refl
      (and_left (eqb x DROPPED || (ltb x new && not (sent map x))) (sends new map) (holds _ e))
    where
      by : (a : Bool) → eqb x DROPPED ≡ a → (b : Bool) → ltb x new ≡ b → (c : Bool) → sent map x ≡ c → T (a || (b && not c))
          → (x ≡ DROPPED) ⊎ ((x < new) × (sent map x ≡ false))
      by true p b q c r t = inl (eqb-true x DROPPED p)
      by false p true q true r t = absurd t
      by false p true q false r t = inr (ltb-true x new q, r)
      by false p false q c r t = absurd t

-- nothing goes to a fact that the new table has not
pub carried_past : (new : ℕ) (map : List ℕ) → sends new map ≡ true → (set n : ℕ) → new ≤ n → bit (carried map set) n ≡ 0
unfolding carried
carried_past new [] e set n h = bit_empty n
carried_past new (x ∷ map) e set n h =
    let first : bit (only x) n ≡ 0 = ⊎_elim (λ d. only_past x n (omega arith)) (λ s. only_other x n (λ q. omega (arith, s.0))) (first_sends new x map e) in
    let none_here : bit (first_sent x set) n ≡ 0 = first_none x set n first in
    simp bits (omega (arith, carried_past new map (rest_sends new x map e) (set / 2) n h))

shifted : (set : ℕ) (s : Source) → bit_from (set / 2) s ≡ bit_from set (next s)
unfolding bit
shifted set (fact i) = refl
shifted set none = refl

-- what goes to n is what its source is
pub carried_source : (new : ℕ) (map : List ℕ) → sends new map ≡ true → (set n : ℕ) → n < 64 → bit (carried map set) n ≡ bit_from set (source_of map n)
unfolding carried source_of
carried_source new [] e set n h = bit_empty n
carried_source new (x ∷ map) e set n h = by (eqb x n) refl (carried_source new map (rest_sends new x map e) (set / 2) n h)
  where
    by : (b : Bool) → eqb x n ≡ b → bit (carried map (set / 2)) n ≡ bit_from (set / 2) (source_of map n)
        → bit (union (first_sent x set) (carried map (set / 2))) n ≡ bit_from set (if b then fact 0 else next (source_of map n))
    by true q behind =
        let same : x ≡ n = eqb-true x n q in
        let alone : sent map n ≡ false = rw (← same) (⊎_elim (λ d. absurd (omega arith)) (λ s. s.1) (first_sends new x map e)) in
        let first : bit (first_sent x set) n ≡ bit set 0 = rw q at (first_bit x set n h) in
        simp bits (omega (arith, carried_unsent map (set / 2) n h alone))
    by false q behind =
        let none_here : bit (first_sent x set) n ≡ 0 = rw q at (first_bit x set n h) in
        simp bits (omega (arith, shifted set (source_of map n)))

-- a new fact has a source exactly where some fact is sent to it
abbrev pub found : Source → ℕ
found (fact i) = 1
found none = 0

found_next : (s : Source) → found s ≡ found (next s)
found_next (fact i) = refl
found_next none = refl

pub sent_found : (map : List ℕ) (n : ℕ) → (if sent map n then 1 else 0) ≡ found (source_of map n)
unfolding sent source_of
sent_found [] n = refl
sent_found (x ∷ map) n = by (eqb x n) (sent_found map n)
  where
    by : (b : Bool) → (if sent map n then 1 else 0) ≡ found (source_of map n) → (if b || sent map n then 1 else 0) ≡ found (if b then fact 0 else next (source_of map n))
    by true e = refl
    by false e = e ∙ found_next (source_of map n)

-- ---- a set of marked facts

pub set_below : (mark : ℕ → ℕ) → ((i : ℕ) → mark i ≤ 1) → (n i : ℕ) → i < n → bit (set_of mark n) i ≡ mark i
unfolding set_of bit
set_below mark m zero i h = absurd (omega arith)
set_below mark m (suc n) zero h = omega (arith, m 0)
set_below mark m (suc n) (suc i) h =
    let half : (mark 0 + 2 * set_of (λ i. mark (suc i)) n) / 2 ≡ set_of (λ i. mark (suc i)) n = omega (arith, m 0) in
    rw half (set_below (λ i. mark (suc i)) (λ i. m (suc i)) n i (omega arith))

pub set_past : (mark : ℕ → ℕ) → ((i : ℕ) → mark i ≤ 1) → (n i : ℕ) → n ≤ i → bit (set_of mark n) i ≡ 0
unfolding set_of bit
set_past mark m zero i h = bit_empty i
set_past mark m (suc n) zero h = absurd (omega arith)
set_past mark m (suc n) (suc i) h =
    let half : (mark 0 + 2 * set_of (λ i. mark (suc i)) n) / 2 ≡ set_of (λ i. mark (suc i)) n = omega (arith, m 0) in
    rw half (set_past (λ i. mark (suc i)) (λ i. m (suc i)) n i (omega arith))
