-- What the bytes of a tree show of the list that they were written from: document 02, W7.
-- Definitions only.
use Rattle.std.specs.Prelude.{ℕ, ◌+◌, ◌-◌, ◌≤◌, ◌≡◌, Bool, false, List, leb, length, if◌then◌else◌, Option, Some, None}
use Rattle.std.specs.Str.{bytes_eq}
use Rattle.refusal.specs.Checked.{Checked, accepted, and_then}
use Rattle.commands.specs.Commands.{MASK_WIDTH, JOB_LEAF_SIZE, END_OF_TREE_SIZE}
use Rattle.numbers.specs.Numbers.{number_at}
use Rattle.table.specs.Table.{Table}
use Rattle.table.specs.Read.{read_table}
use Rattle.planning.specs.Columns.{max_entries}
use Rattle.tree.specs.ReadTree.{read_tree}
use Rattle.flat.specs.TreeBytes.{tree_size}

-- "Given a table and a tree": the table's own stops, then "The checks 13 to 15 come first."
unfoldable pub sound_tree : (table tree : List ℕ) → Checked Table
sound_tree table tree = and_then (read_table table) λ t. and_then (read_tree tree t.facts (length t.jobs)) λ x. accepted t

-- a list of n entries has a tree of so many bytes, and the table has no 0x21
pub record HasEntries (paired : Bool) (size n : ℕ) : Type 0 where
  pub no_pair : paired ≡ false
  pub some : 1 ≤ n
  pub few : n ≤ max_entries false
  pub size_is : tree_size false n ≡ size

-- so many entries has a list whose tree takes so many bytes, if there are such lists and the table has no 0x21
abbrev pub Shows : (paired : Bool) (size : ℕ) → Option ℕ → Type 0
Shows paired size (Some n) = HasEntries paired size n
Shows paired size None = (n : ℕ) → HasEntries paired size n → ⊥

-- where the mask of the last condition stands, in so many bytes of a list's tree: END comes after it, and before that the last entry's job, if it is not
-- entry 0
abbrev pub last_mask_at : ℕ → ℕ
last_mask_at size = size - (END_OF_TREE_SIZE + (if leb size (tree_size false 1) then 0 else JOB_LEAF_SIZE) + MASK_WIDTH)

unfoldable pub last_mask : List ℕ → ℕ
last_mask tree = number_at MASK_WIDTH tree (last_mask_at (length tree))

-- as std compares: as many bytes, each the same
abbrev pub same_bytes : List ℕ → List ℕ → Bool
same_bytes = bytes_eq
