-- How many states have no label, before and after one of them gets a label.
-- Assumes nothing.
use Rattle.std.specs.Prelude.{◌≡◌, Bool, true, false, List, ℕ, zero, suc, ◌+◌, ◌≤◌, ◌<◌, eqb, length, set, if◌then◌else◌}
use Rattle.std.proofs.Common.{sym, ap, ◌∙◌, arith, eq-eqb, ne_eqb, get_or-set_same, get_or-set_other}
use Rattle.std.proofs.Math.Decide.{dec_le}
use Rattle.base.specs.Lists.{sum_most, sum_change}
use Rattle.distance_steps.specs.Distance.{no_distance}
use Rattle.distance_steps.specs.Steps.{label_of}
use Rattle.distance_sweeps.specs.Sweeps.{none_at, unlabelled}

-- ---- states without a label

none_most : (row : List ℕ) (s : ℕ) → none_at row s ≤ 1
none_most row s = by_test (eqb (label_of row s) no_distance)
  where
    by_test : (b : Bool) → (if b then 1 else 0) ≤ 1
    by_test true = omega arith
    by_test false = omega arith

none_labelled : (row : List ℕ) (s : ℕ) → label_of row s < no_distance → none_at row s ≡ 0
none_labelled row s h = rw (ne_eqb (label_of row s) no_distance (λ e. omega (arith, h, e)))

none_none : (row : List ℕ) (s : ℕ) → label_of row s ≡ no_distance → none_at row s ≡ 1
none_none row s e = rw (eq-eqb (label_of row s) no_distance e)

-- fewer than all, where one has a label
pub labelled_fewer : (row : List ℕ) (n s : ℕ) → s < n → label_of row s < no_distance → unlabelled row n < n
labelled_fewer row n s h k =
    elim (dec_le n (unlabelled row n)) [
      | yes l ↦ absurd (all n s h (none_labelled row s k) l)
      | no l ↦ omega arith
    ]
  where
    all : (n s : ℕ) → s < n → none_at row s ≡ 0 → n ≤ unlabelled row n → ⊥
    all zero s h z l = omega arith
    all (suc n) s h z l =
        elim (dec_le n s) [
          | yes m ↦ let last : s ≡ n = omega arith in let here : none_at row n ≡ 0 = ap (none_at row) (sym last) ∙ z in omega (arith, sum_most (none_at row) (none_most row) n)
          | no m ↦ all n s (omega arith) z (omega (arith, none_most row n))
        ]

module _ (row : List ℕ) (s v : ℕ) (inside : s < length row) (labelled : v < no_distance) where
  set_same : label_of (set row s v) s ≡ v
  set_same = get_or-set_same row s v 0 inside

  counted : unlabelled (set row s v) (length row) + none_at row s ≡ unlabelled row (length row)
  counted =
      let gone : none_at (set row s v) s ≡ 0 = none_labelled (set row s v) s (omega (arith, set_same)) in
      let both = sum_change (none_at (set row s v)) (none_at row) (length row) s inside
      (λ j h q. ap (λ (k : ℕ). if eqb k no_distance then 1 else 0) (get_or-set_other row s j v 0 q)) in
      omega (arith, both, gone)

  -- a label that changes leaves no more states without one
  pub set_fewer : unlabelled (set row s v) (length row) ≤ unlabelled row (length row)
  set_fewer = omega (arith, counted)

  -- a state that had none leaves one state less without
  pub set_first : label_of row s ≡ no_distance → suc (unlabelled (set row s v) (length row)) ≡ unlabelled row (length row)
  set_first e = omega (arith, counted, none_none row s e)
