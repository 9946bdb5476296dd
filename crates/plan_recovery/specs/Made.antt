-- The plan that is made for the last condition that a tree shows, in tables that no caller sees.
-- Definitions only.
use Rattle.std.specs.Prelude.{ℕ, ◌≡◌, Bool, false, List, length, Result}
use Rattle.refusal.specs.declared.Refusal.{Refusal}
use Rattle.refusal.specs.Checked.{answer_of}
use Rattle.table.specs.Table.{Table}
use Rattle.planning.specs.Columns.{max_entries}
use Rattle.flat.specs.TreeBytes.{tree_size}
use Rattle.expander.specs.declared.Until.TheVariants.{Covers}
use Rattle.expander.specs.Expands.{Columns, room, written}
use Rattle.builder.specs.declared.Size.{Size}
use Rattle.builder.specs.Plan.{pairs, Plan, table_plan, size_of, WritesPlan}
use Rattle.recovery_parts.specs.Parts.{bytes_of}
use Rattle.tree_shows.specs.Shown.{HasEntries, last_mask, same_bytes}

-- the plan for the last mask that a tree shows, with room for n entries and for the tree of every list
abbrev pub made_for : Table → (tree : List ℕ) → (n : ℕ) → Plan Size
made_for t tree n = table_plan (Covers (last_mask tree)) t (λ paired. n) (tree_size false (max_entries false)) (size_of (pairs t))

-- room for n conditions, and for the rest of every list
pub record HasRoom (n : ℕ) (t : Columns) : Type 0 where
  pub conditions : length t.conditions ≡ n
  pub actions : length t.actions ≡ max_entries false
  pub parents : length t.parents ≡ max_entries false
  pub depths : length t.depths ≡ max_entries false

-- what that plan left in the tables, where the tree shows n entries, and in what was lent for its bytes, of which k were told
pub record Made (t : Table) (tree : List ℕ) (n : ℕ) (after : Columns) (bytes : List ℕ) (k : ℕ) : Type 0 where
  pub before : Columns
  pub lent : List ℕ
  pub built : Result Size Refusal
  pub writes : WritesPlan (table_plan (Covers (last_mask tree)) t (room before) (length lent) (size_of (pairs t))) before after lent bytes (answer_of built)
  pub told : k ≡ bytes_of (answer_of built)
  pub shown : HasEntries (pairs t) (length tree) n
  pub has_room : HasRoom n before
  pub enough : length lent ≡ tree_size false (max_entries false)

-- what the tables then hold, and whether the plan's tree is the same
pub record Compares (t : Table) (tree : List ℕ) (n : ℕ) (after : Columns) (same : Bool) : Type 0 where
  pub shown : HasEntries (pairs t) (length tree) n
  pub before : Columns
  pub tables : after ≡ written false (made_for t tree n).list before
  pub is_same : same ≡ same_bytes (made_for t tree n).tree tree
