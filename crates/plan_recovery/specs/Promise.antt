-- What is promised of a list that is recovered from a tree: document 02, W7.
-- Definitions only; RecoveryLaws.antt shows that every answer keeps it.
use Rattle.std.specs.Prelude.{ℕ, ◌≤◌, ◌<◌, ◌≡◌, false, List, ◌↔◌, length, Result}
use Rattle.refusal.specs.declared.Refusal.{Refusal}
use Rattle.refusal.specs.Checked.{Checked, accepted, refused, answer_of}
use Rattle.reading.specs.declared.Reading.{Reading}
use Rattle.conditions.specs.declared.Condition.{Condition}
use Rattle.table.specs.Table.{Table}
use Rattle.planning.specs.Expansion.{Entry}
use Rattle.expander.specs.Expands.{Columns, room}
use Rattle.builder.specs.Plan.{pairs, Plan}
use Rattle.planner.specs.declared.Summary.{Summary}
use Rattle.planner.specs.Plan.{plan_for}
use Rattle.shift_planner.specs.Shift.{plan_shift}
use Rattle.tree_shows.specs.Shown.{sound_tree}
use Rattle.plan_recovery.specs.Recovery.{plan_of, recovered, WritesBack}

-- "document 01's plan would write those bytes for some start, and planning for that start gives that list": this start and this list, under a table
-- "without 0x21"
pub record PlannedFor (t : Table) (table tree : List ℕ) (start : ℕ) (list : List (Entry Condition)) : Type 0 where
  pub no_pair : pairs t ≡ false
  pub summary : Summary
  pub planned : (plan_of table start).answer ≡ accepted summary
  pub tree_is : (plan_of table start).tree ≡ tree
  pub list_is : (plan_of table start).list ≡ list

-- a plan of any kind, with whatever was lent, that was accepted and wrote these bytes
pub record Wrote {Told : Type 0} (P : Plan Told) (tree : List ℕ) : Type 0 where
  pub told : Told
  pub planned : P.answer ≡ accepted told
  pub tree_is : P.tree ≡ tree

-- Of a table t that was read, a tree that is sound under it, and what is recovered of it in list tables with room for so many entries:
pub record Restores (t : Table) (table tree : List ℕ) (entries : ℕ) (due : Checked (List (Entry Condition))) : Type 0 where
  -- "It is accepted exactly when document 01's plan would write those bytes for some start, and planning for that start gives that list." The list must
  -- have room besides.
  pub accepted_iff : (l : List (Entry Condition)) → (due ≡ accepted l) ↔ ((s : ℕ) × PlannedFor t table tree s l × (length l ≤ entries))
  -- 10, exactly when it would, and the tables have no room for that list
  pub short_iff : (due ≡ refused 10 0) ↔ ((s : ℕ) × (l : List (Entry Condition)) × PlannedFor t table tree s l × (entries < length l))
  -- 20, exactly when it would for no start
  pub other_iff : (due ≡ refused 20 0) ↔ ((s : ℕ) (l : List (Entry Condition)) → PlannedFor t table tree s l → ⊥)
  -- What either plan wrote is of that origin, whatever list tables and tree it was lent: a tree for a start, and one for the whole shift.
  pub from_plan : pairs t ≡ false → (start : Reading) (lists : Columns) (size : ℕ) → Wrote (plan_for table start (room lists) size) tree
      → (s : ℕ) × PlannedFor t table tree s (plan_for table start (room lists) size).list
  pub from_shift : pairs t ≡ false → (lists : Columns) (size : ℕ) → Wrote (plan_shift table (room lists) size) tree
      → (s : ℕ) × PlannedFor t table tree s (plan_shift table (room lists) size).list

-- What the entry point gives.
pub record Recovers (table tree : List ℕ) (before after : Columns) (r : (Result ℕ Refusal)) : Type 0 where
  pub writes : WritesBack (recovered table tree (room before false)) before after (answer_of r)
  pub restores : (t : Table) → sound_tree table tree ≡ accepted t → Restores t table tree (room before false) (recovered table tree (room before false))
