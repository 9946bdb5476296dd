-- The walk of the code: it checks each node and, while the answer is open, ticks it. One walk stands for the tree reader and the tick together.
-- Definitions only.
use Rattle.std.specs.Prelude.{Result, ℕ, zero, suc, ◌-◌, ◌≤◌, ◌≡◌, Bool, true, false, ◌&&◌, List, ltb, if◌then◌else◌}
use Rattle.refusal.specs.Checked.{answer_by, Checked, accepted, refused, and_then}
use Rattle.commands.specs.Commands.{Past}
use Rattle.reading.specs.declared.Reading.{Reading}
use Rattle.tree.specs.declared.Kind.{Kind}
use Rattle.tree.specs.declared.Leaf.{Leaf}
use Rattle.tree.specs.declared.Status.{Status}
use Rattle.tree.specs.declared.Status.TheVariants.{Success}
use Rattle.tree.specs.Tree.{Tree}
use Rattle.tree.specs.ReadTree.{max_depth, in_range, read_node}
use Rattle.tree.specs.Tick.{leaf_answer, goes_on, tick_by}
use Rattle.tick_walk.specs.declared.Context.{Context}
use Rattle.tick_walk.specs.declared.Walked.{Walked}
use Rattle.refusal.specs.declared.Refusal.{Refusal}

-- the levels that are left for a node at a depth, the root's being 1
abbrev pub levels_at : ℕ → ℕ
levels_at depth = suc max_depth - depth

-- a part that is still being ticked answers; one that is only checked counts as passed with Success
abbrev pub answer_if : Bool → Status → Status
answer_if true a = a
answer_if false a = Success

-- a leaf that was read at an offset, and ends before `next`
unfoldable pub walk_leaf : Context → ℕ → ℕ → ℕ → Bool → Leaf → Checked (Past Status)
walk_leaf c at next depth live x =
    if ltb max_depth depth then refused 14 at
    else if in_range c.facts c.jobs x then accepted (record { value = answer_if live (leaf_answer c.reading x); next = next })
    else refused 15 at

-- the nodes of a tree's bytes at a depth, by their offsets
abbrev pub nodes_at : List ℕ → Context → ℕ → ℕ → Checked (Past Tree)
nodes_at s c depth = read_node s c.facts c.jobs (levels_at depth)

module _ (rows : List (List Bool)) where
  -- what a node that was read comes to
  abbrev pub walked : Reading → Bool → Checked (Past Tree) → Checked (Past Status)
  walked r live x = and_then x λ t. accepted (record { value = answer_if live (tick_by rows r t.value).answer; next = t.next })

  -- n children from an offset on, each read by `child`: they are ticked while the row is live, and `a` is its answer so far
  unfoldable pub walk_row : Reading → Kind → (ℕ → Checked (Past Tree)) → ℕ → Bool → Status → ℕ → Checked (Past Status)
  walk_row r kind child zero live a at = accepted (record { value = a; next = at })
  walk_row r kind child (suc n) live a at =
      and_then (child at) λ t.
      let answer = (tick_by rows r t.value).answer in
      walk_row r kind child n (live && goes_on rows kind answer) (if live then answer else a) t.next

  module _ (s : List ℕ) (c : Context) where
    -- the node at an offset and a depth
    abbrev pub walk_node : ℕ → ℕ → Bool → Checked (Past Status)
    walk_node at depth live = walked c.reading live (nodes_at s c depth at)

    -- the children of a node, at a depth
    abbrev pub walk_children : Kind → ℕ → ℕ → Bool → Status → ℕ → Checked (Past Status)
    walk_children kind depth = walk_row c.reading kind (nodes_at s c depth)

    -- What is left of a row gives the whole of it: so many children from an offset on, whether they are ticked, and the answer so far.
    pub record RowLeft (kind : Kind) (depth first count : ℕ) (live : Bool) (at left : ℕ) (going : Bool) (a : Status) : Type 0 where
      pub is : walk_children kind depth left going a at ≡ walk_children kind depth count live Success first
      pub onward : first ≤ at

-- ---- the answer of the code, in these terms

abbrev pub walk_of : Result Walked Refusal → Checked (Past Status)
walk_of = answer_by λ w. record { value = w.status; next = w.next }
