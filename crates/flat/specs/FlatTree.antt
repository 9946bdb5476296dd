-- The tree that the bytes of an expansion list hold: document 01, "Expansion"; document 02, W12. Source document 001 calls it the flat tree.
-- Definitions only.
use Rattle.std.specs.Prelude.{ℕ, ◌≤◌, ◌<◌, ◌≡◌, Bool, true, false, List, [], ◌∷◌, T, length}
use Rattle.conditions.specs.declared.Condition.{Condition}
use Rattle.conditions.specs.Condition.{condition_within}
use Rattle.planning.specs.Expansion.{Entry}
use Rattle.planning.specs.Columns.{max_entries}
use Rattle.tree.specs.declared.Kind.TheVariants.{Fallback, Sequence}
use Rattle.tree.specs.declared.Leaf.{Leaf}
use Rattle.tree.specs.declared.Leaf.TheVariants as L
use Rattle.tree.specs.Tree.{Tree, Row, leaf, node, one, more}
use Rattle.flat.specs.TreeBytes.{first_bytes, condition_at, action_at, past_entry, root_condition_at}

-- an action's leaf, in the tree of the one whose it is, or of another
abbrev pub leaf_of : (mine : Bool) → ℕ → Leaf
leaf_of true action = L.Action action
leaf_of false action = L.Wait

-- both kinds of lists have the same tree but for the offsets of its leaves
module _ (mine : ℕ → Bool) (paired : Bool) where
  -- an entry after the first, whose SEQUENCE stands at an offset
  abbrev pub later_tree : Entry Condition → ℕ → Tree
  later_tree x at =
      node Sequence (more (leaf (L.Condition x.condition) (condition_at at)) (one (leaf (leaf_of (mine x.action) x.action) (action_at paired x at))))

  -- a child, and one more for each of the entries, the first of which stands at an offset
  unfoldable pub row_from : Tree → List (Entry Condition) → ℕ → Row
  row_from t [] at = one t
  row_from t (x ∷ l) at = more t (row_from (later_tree x at) l (past_entry mine paired x at))

-- the condition of entry 0, in a list of n entries
abbrev pub root_tree : ℕ → Entry Condition → Tree
root_tree n x = leaf (L.Condition x.condition) (root_condition_at n)

-- where the entries after the first begin
abbrev pub later_at : (paired : Bool) → ℕ → Entry Condition → ℕ
later_at paired n x = length (first_bytes paired n x.condition)

module _ (mine : ℕ → Bool) (paired : Bool) where
  -- a list has at least entry 0; of none nothing is said
  unfoldable pub tree_of : List (Entry Condition) → Tree
  tree_of [] = leaf (L.Action 0) 0
  tree_of (x ∷ l) = node Fallback (row_from mine paired (root_tree (length (x ∷ l)) x) l (later_at paired (length (x ∷ l)) x))

-- ---- the lists whose trees pass the checks of a tree, for a table with so many facts and jobs

abbrev pub Each : (Entry Condition → Type 0) → List (Entry Condition) → Type 0
Each P [] = Unit {0}
Each P (x ∷ l) = P x × Each P l

-- each entry but the first, which has no action
abbrev pub EachLater : (Entry Condition → Type 0) → List (Entry Condition) → Type 0
EachLater P [] = Unit {0}
EachLater P (x ∷ l) = Each P l

pub record Fits (paired : Bool) (facts jobs : ℕ) (l : List (Entry Condition)) : Type 0 where
  pub some : 1 ≤ length l
  pub few : length l ≤ max_entries paired
  pub facts_fit : facts ≤ 64
  pub conditions_fit : Each (λ x. T (condition_within facts x.condition)) l
  -- a list that is not paired is written without its second masks
  pub plain_fit : paired ≡ false → Each (λ x. x.condition.absent ≡ 0) l
  pub actions_fit : EachLater (λ x. x.action < jobs) l
