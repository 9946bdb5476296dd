-- The contracts of `plan_shift` and of `measure` together: document 02, W13, "Where a whole-shift tree is built the two must agree", said of what stands in
-- the lent tables. And there is one row that meets the contract.
-- Assumes nothing.
use Rattle.std.specs.Prelude.{ℕ, ◌<◌, ◌≡◌, List, map, length, get_or, drop, Result}
use Rattle.std.proofs.Common.{arith, sym, ap, ◌∙◌, ext_get_or}
use Rattle.std.proofs.lemmas.List.{length-map}
use Rattle.std.proofs.Math.ListN.{get_or-append, get_or-map}
use Rattle.base.specs.Lists.{get_d_inside}
use Rattle.refusal.specs.declared.Refusal.{Refusal}
use Rattle.refusal.specs.Checked.{Checked, accepted, answer_of}
use Rattle.table.specs.Table.{Table}
use Rattle.table.specs.Read.{read_table}
use Rattle.planning.specs.Expansion.{root}
use Rattle.planning.specs.Demand.{FirstIn}
use Rattle.expander.specs.Expands.{Columns, room, over}
use Rattle.builder.specs.declared.Size.{Size}
use Rattle.builder.specs.Plan.{table_domain}
use Rattle.shift_planner.specs.Shift.{plan_shift, PlansShift}
use Rattle.distances.specs.Measure.{measured, Measures}
use Rattle.distances.specs.MeasureLaws.{measured_whole}
use Rattle.distances.specs.AgreeLaws.{distance_unique}

-- a column of a list that stands at the front of a lent table
over_at : {A : Type 0} (field : A → ℕ) (l : List A) (xs : List ℕ) (i : ℕ) (d : A) → i < length l → get_or (over field l xs) i 0 ≡ field (get_or l i d)
over_at field l xs i d h =
    let inside : i < length (map field l) = omega (arith, length-map l field) in
    get_or-append (map field l) (drop (length l) xs) 0 i inside ∙ get_d_inside (map field l) i 0 (field d) inside ∙ get_or-map field l i d

module _ (table : List ℕ) (t : Table) (read : read_table table ≡ accepted t) (row row' : List ℕ) (told : Checked ℕ) (M : Measures table row row' told)
    (n : ℕ) (states : measured table (length row) ≡ accepted n) where
  -- the number of a state is what the lent table of depths holds for the first entry that the state meets
  pub lent_depth : (before after : Columns) (lent tree : List ℕ) (r : (Result Size Refusal)) → PlansShift table before after lent tree r → (p : Size) → answer_of r ≡ accepted p
      → (s : ℕ) → s < n → (i : ℕ) → FirstIn (table_domain t) (plan_shift table (room before) (length lent)).list s i → get_or row' s 0 ≡ get_or after.depths i 0
  lent_depth before after lent tree r P p built s h i first =
      let l = (plan_shift table (room before) (length lent)).list in
      let W = P.writes in
      let planned = sym W.answer_and_tree.answer ∙ built in
      let agrees = (M.holds t read n states).agrees (room before) (length lent) p planned s h in
      agrees.first_depth_is i first
      ∙ sym (ap (λ (c : Columns). get_or c.depths i 0) W.tables ∙ over_at (λ x. x.depth) l before.depths i (root (table_domain t)) first.inside)

  -- whoever meets the contract leaves the same row
  pub row_only : (other : List ℕ) (told' : Checked ℕ) → Measures table row other told' → other ≡ row'
  row_only other told' N =
      ext_get_or 0 other row' (N.sized ∙ sym M.sized)
      (λ s h. let inside : s < n = omega (arith, h, N.sized, measured_whole table t read (length row) n states) in
      distance_unique (table_domain t) s _ _ ((N.holds t read n states).distances s inside) ((M.holds t read n states).distances s inside))
