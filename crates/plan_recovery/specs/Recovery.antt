-- From the bytes of a tree back to the list that they were written from: document 02, W7.
-- Definitions only.
use Rattle.std.specs.Prelude.{ℕ, ◌≡◌, Bool, false, List, [], leb, length, if◌then◌else◌}
use Rattle.refusal.specs.Checked.{Checked, accepted, refused, and_then}
use Rattle.reading.specs.Reading.{state}
use Rattle.conditions.specs.declared.Condition.{Condition}
use Rattle.table.specs.Table.{Table}
use Rattle.planning.specs.Expansion.{Entry}
use Rattle.planning.specs.Columns.{max_entries}
use Rattle.tree.specs.ReadTree.{max_tree_bytes}
use Rattle.expander.specs.Expands.{Columns, written}
use Rattle.builder.specs.Plan.{pairs, Plan}
use Rattle.planner.specs.declared.Summary.{Summary}
use Rattle.planner.specs.Plan.{plan_for}
use Rattle.tree_shows.specs.Shown.{sound_tree, last_mask, same_bytes}

-- ---- the plan that the bytes can be of

-- "document 01's plan .. for some start", with room for every list and every tree
abbrev pub plan_of : (table : List ℕ) (start : ℕ) → Plan Summary
plan_of table start = plan_for table (state start) max_entries max_tree_bytes

-- "A sound tree of another origin is refused as 20 with place 0"
abbrev pub list_if : Bool → List (Entry Condition) → Checked (List (Entry Condition))
list_if same l = if same then accepted l else refused 20 0

-- The list whose plan writes the bytes: the start that it stops for may be taken to be its last condition. Promise.antt says that no other start has to
-- be tried. Document 02, W10: "acceptance in W7" is "for tables without 0x21, and under others W7 gives 20 for every sound tree".
unfoldable pub list_of : Table → (table tree : List ℕ) → Checked (List (Entry Condition))
list_of t table tree =
    let P = plan_of table (last_mask tree) in
    if pairs t then refused 20 0 else list_if (same_bytes P.tree tree) P.list

-- "lists too short give 10 with place 0 after that"
abbrev pub fitting : (room : ℕ) → List (Entry Condition) → Checked (List (Entry Condition))
fitting room l = if leb (length l) room then accepted l else refused 10 0

unfoldable pub recovered : (table tree : List ℕ) (room : ℕ) → Checked (List (Entry Condition))
recovered table tree room = and_then (sound_tree table tree) λ t. and_then (list_of t table tree) λ l. fitting room l

-- ---- what is told of it, and what stands in the lent list tables

-- "list tables are untouched in each case" of a refusal
abbrev pub stored_of : Checked (List (Entry Condition)) → List (Entry Condition)
stored_of (accepted l) = l
stored_of (refused number place) = []

-- The answer is the number of entries, and the four tables hold them at their fronts; there is no table of second masks.
pub record WritesBack (due : Checked (List (Entry Condition))) (before after : Columns) (told : Checked ℕ) : Type 0 where
  pub answer : told ≡ (and_then due λ l. accepted (length l))
  pub tables : after ≡ written false (stored_of due) before
