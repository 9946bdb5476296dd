-- What is told, and what is copied, one law for each way.
-- Assumes nothing.
use Rattle.std.specs.Prelude.{ℕ, ◌+◌, ◌≤◌, ◌<◌, ◌≡◌, refl, Bool, true, false, List, ◌++◌, map, length, get_or, set, take, drop, if◌then◌else◌}
use Rattle.std.proofs.Common.{arith, sym, ap, ◌∙◌, take-append-drop, length-take-le}
use Rattle.std.proofs.Math.ListN.{get_or-append}
use Rattle.base.specs.Lists.{prefix, prefix_same, map_prefix, prefix_all, over, overlay, overlay_next}
use Rattle.refusal.specs.Checked.{accepted, refused}
use Rattle.conditions.specs.declared.Condition.{Condition}
use Rattle.conditions.specs.Condition.{plain}
use Rattle.planning.specs.Expansion.{Entry}
use Rattle.expander.specs.Expands.{Columns, columns, written}
use Rattle.expander.specs.ExpandsLaws.{over_at}
use Rattle.recovery_parts.specs.Parts.{judged_for, copied, Holds}

-- ---- why there is no list

pub judged_whole : (planned full : Bool) (n : ℕ) → planned ≡ true → full ≡ false → accepted n ≡ judged_for planned full n
judged_whole planned full n p f = rw (p, f)

pub judged_none : (planned full : Bool) (n : ℕ) → (planned ≡ true → full ≡ true) → refused (if planned then 10 else 20) 0 ≡ judged_for planned full n
judged_none true full n f = rw (f refl)
judged_none false full n f = refl

-- ---- entries that are copied

module _ (from to : Columns) where
  -- the fronts of the tables, where these have so many entries
  pub copied_fronts : (n : ℕ) → Holds n from
      → columns (take n from.conditions ++ drop n to.conditions) to.absences (take n from.actions ++ drop n to.actions) (take n from.parents ++ drop n to.parents)
      (take n from.depths ++ drop n to.depths) ≡ copied n from to
  copied_fronts n H =
      rw (front from.conditions H.in_conditions, front from.actions H.in_actions, front from.parents H.in_parents, front from.depths H.in_depths)
    where
      front : (xs : List ℕ) → n ≤ length xs → prefix (λ i. get_or xs i 0) n ≡ take n xs
      front xs h =
          let long : length (take n xs) ≡ n = length-take-le n xs h in
          prefix_same (λ i. get_or xs i 0) (λ i. get_or (take n xs) i 0) n
          (λ i k. ap (λ (m : List ℕ). get_or m i 0) (sym (take-append-drop n xs)) ∙ get_or-append (take n xs) (drop n xs) 0 i (omega (arith, long)))
          ∙ ap (prefix (λ i. get_or (take n xs) i 0)) (sym long) ∙ prefix_all (take n xs) 0

  -- one entry more
  pub copied_next : (n i : ℕ) → Holds n to → i < n → (now : Columns) → now ≡ copied i from to
      → columns (set now.conditions i (get_or from.conditions i 0)) now.absences (set now.actions i (get_or from.actions i 0))
      (set now.parents i (get_or from.parents i 0)) (set now.depths i (get_or from.depths i 0)) ≡ copied (i + 1) from to
  copied_next n i H h now q =
      let c = ap (λ (t : Columns). set t.conditions i (get_or from.conditions i 0)) q ∙ overlay_next (λ k. get_or from.conditions k 0) i to.conditions (omega (arith, H.in_conditions)) in
      let a = ap (λ (t : Columns). set t.actions i (get_or from.actions i 0)) q ∙ overlay_next (λ k. get_or from.actions k 0) i to.actions (omega (arith, H.in_actions)) in
      let p = ap (λ (t : Columns). set t.parents i (get_or from.parents i 0)) q ∙ overlay_next (λ k. get_or from.parents k 0) i to.parents (omega (arith, H.in_parents)) in
      let d = ap (λ (t : Columns). set t.depths i (get_or from.depths i 0)) q ∙ overlay_next (λ k. get_or from.depths k 0) i to.depths (omega (arith, H.in_depths)) in
      λ j. columns (c j) (q j).absences (a j) (p j) (d j)

  -- all entries of a list that stands in the tables
  pub copied_list : (l : List (Entry Condition)) (d : Entry Condition)
      → ((i : ℕ) → i < length l → get_or from.conditions i 0 ≡ (get_or l i d).condition.present)
      → ((i : ℕ) → i < length l → get_or from.actions i 0 ≡ (get_or l i d).action)
      → ((i : ℕ) → i < length l → get_or from.parents i 0 ≡ (get_or l i d).parent)
      → ((i : ℕ) → i < length l → get_or from.depths i 0 ≡ (get_or l i d).depth)
      → copied (length l) from to ≡ written false l to
  copied_list l d c a p e =
      λ j. columns (column (λ x. x.condition.present) from.conditions c to.conditions j) to.absences (column (λ x. x.action) from.actions a to.actions j)
      (column (λ x. x.parent) from.parents p to.parents j) (column (λ x. x.depth) from.depths e to.depths j)
    where
      column : (field : Entry Condition → ℕ) (xs : List ℕ) → ((i : ℕ) → i < length l → get_or xs i 0 ≡ field (get_or l i d)) → (ys : List ℕ)
          → overlay (λ i. get_or xs i 0) (length l) ys ≡ over field l ys
      column field xs same ys =
          ap (λ (m : List ℕ). m ++ drop (length l) ys)
          (prefix_same (λ i. get_or xs i 0) (λ i. field (get_or l i d)) (length l) same ∙ sym (map_prefix (λ i. get_or l i d) field (length l)) ∙ ap (map field) (prefix_all l d))

-- all entries of a list that was written into some tables
pub copied_written : (l : List (Entry Condition)) (lists to : Columns) → copied (length l) (written false l lists) to ≡ written false l to
copied_written l lists to =
    copied_list (written false l lists) to l none (at (λ x. x.condition.present) lists.conditions) (at (λ x. x.action) lists.actions) (at (λ x. x.parent) lists.parents)
    (at (λ x. x.depth) lists.depths)
  where
    none : Entry Condition
    none = record { condition = plain 0; action = 0; parent = 0; depth = 0 }

    at : (field : Entry Condition → ℕ) (xs : List ℕ) (i : ℕ) → i < length l → get_or (over field l xs) i 0 ≡ field (get_or l i none)
    at field xs i h = over_at l field xs i none h
