-- The bytes of a list's tree: document 01, "Expansion". "A list of n entries is written as FALLBACK n; CONDITION of entry 0; for each later entry
-- SEQUENCE 2, CONDITION, JOB; END." Document 02, W10: "The tree gets 0x45 with both masks, allowed in any tree and used by the planner once the table
-- has a 0x21": the list is then paired. W12: "each fitter has a tree of his own in which the other's jobs are a waiting leaf 0x46, without operand".
-- Definitions only.
use Rattle.std.specs.Prelude.{ℕ, ◌+◌, ◌-◌, ◌*◌, ◌≡◌, Bool, true, false, List, [], ◌∷◌, ◌++◌, length}
use Rattle.std.proofs.lemmas.List.Edits.{sets}
use Rattle.commands.specs.Commands.{CONDITION, PAIR, JOB_LEAF, WAITING, END_OF_TREE, MASK_WIDTH}
use Rattle.numbers.specs.Numbers.{to_bytes}
use Rattle.conditions.specs.declared.Condition.{Condition}
use Rattle.planning.specs.Expansion.{Entry}
use Rattle.planning.specs.Columns.{entries_of}
use Rattle.tree.specs.declared.Kind.{Kind}
use Rattle.tree.specs.declared.Kind.TheVariants.{Fallback, Sequence}
use Rattle.tree.specs.ReadTree.{kind_byte, count_width}
use Rattle.flat.specs.declared.Entries.{Entries}

-- ---- the commands

abbrev pub branch_bytes : Kind → ℕ → List ℕ
branch_bytes kind count = kind_byte kind ∷ to_bytes count_width count

unfoldable pub condition_bytes : (paired : Bool) → Condition → List ℕ
condition_bytes false c = CONDITION ∷ to_bytes MASK_WIDTH c.present
condition_bytes true c = PAIR ∷ to_bytes MASK_WIDTH c.present ++ to_bytes MASK_WIDTH c.absent

-- an action, or where it is another's the waiting leaf
unfoldable pub leaf_bytes : (mine : Bool) → ℕ → List ℕ
leaf_bytes true action = JOB_LEAF ∷ action ∷ []
leaf_bytes false action = WAITING ∷ []

abbrev pub end_bytes : List ℕ
end_bytes = END_OF_TREE ∷ []

-- ---- the entries

module _ (paired : Bool) where
  -- "FALLBACK n; CONDITION of entry 0"
  unfoldable pub first_bytes : ℕ → Condition → List ℕ
  first_bytes n c = branch_bytes Fallback n ++ condition_bytes paired c

  -- an entry after the first: "SEQUENCE 2, CONDITION, JOB", or the leaf that stands for the job
  unfoldable pub entry_bytes : Condition → (mine : Bool) → ℕ → List ℕ
  entry_bytes c mine action = branch_bytes Sequence 2 ++ (condition_bytes paired c ++ leaf_bytes mine action)

-- the tree of the one whose actions are told by `mine`
module _ (mine : ℕ → Bool) (paired : Bool) where
  unfoldable pub later_entries : List (Entry Condition) → List ℕ
  later_entries [] = []
  later_entries (x ∷ l) = entry_bytes paired x.condition (mine x.action) x.action ++ later_entries l

  -- a list has at least entry 0; none has no tree
  unfoldable pub own_tree : List (Entry Condition) → List ℕ
  own_tree [] = []
  own_tree (x ∷ l) = first_bytes paired (length (x ∷ l)) x.condition ++ (later_entries l ++ end_bytes)

-- all actions
abbrev pub everyone : ℕ → Bool
everyone action = true

-- the tree of a list, with all its actions
abbrev pub tree_bytes : (paired : Bool) → List (Entry Condition) → List ℕ
tree_bytes = own_tree everyone

-- how many bytes that is, of n entries: "That is 14 × n − 1 bytes." "Such a tree has 22 × n − 1 bytes"
abbrev pub tree_size : (paired : Bool) → ℕ → ℕ
tree_size false n = 14 * n - 1
tree_size true n = 22 * n - 1

-- ---- where they stand

-- where the condition of an entry after the first stands, and its action, where the entry begins at an offset; and where the next entry begins
abbrev pub condition_at : ℕ → ℕ
condition_at at = at + length (branch_bytes Sequence 2)

abbrev pub action_at : (paired : Bool) → Entry Condition → ℕ → ℕ
action_at paired x at = condition_at at + length (condition_bytes paired x.condition)

abbrev pub past_entry : (mine : ℕ → Bool) (paired : Bool) → Entry Condition → ℕ → ℕ
past_entry mine paired x at = at + length (entry_bytes paired x.condition (mine x.action) x.action)

-- where the condition of entry 0 stands, in a list of n entries
abbrev pub root_condition_at : ℕ → ℕ
root_condition_at n = length (branch_bytes Fallback n)

-- ---- a list that is lent as its columns of conditions, second masks and actions

-- its first n entries, as far as a tree shows them: without parents and depths
abbrev pub tree_entries : (conditions absences actions : List ℕ) → ℕ → List (Entry Condition)
tree_entries conditions absences actions n = entries_of conditions absences actions [] [] n

-- the same of a list as the code holds it
abbrev pub entries_in : Entries → ℕ → List (Entry Condition)
entries_in lent n = tree_entries lent.conditions.now lent.absences.now lent.actions.now n

-- how many bytes the leaves of entries take
abbrev pub leaves_size : (mine : ℕ → Bool) → List (Entry Condition) → ℕ
leaves_size mine [] = 0
leaves_size mine (x ∷ l) = length (leaf_bytes (mine x.action) x.action) + leaves_size mine l

-- Bytes are put at an offset, nothing else is changed, and the answer is the offset past them.
pub record Puts (bytes : List ℕ) (at : ℕ) (before after : List ℕ) (next : ℕ) : Type 0 where
  pub written : after ≡ sets before at bytes
  pub past : next ≡ at + length bytes
