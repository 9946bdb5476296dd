-- Document 02, W7, on document 01's trailer and on the trailer with one fact less: trees and the lists that they come from, computed from the definitions
-- that the contracts of `recover`, `plan` and `plan_shift` cite.
-- Assumes nothing.
use Rattle.std.specs.Prelude.{ℕ, suc, ◌≡◌, refl, true, false, List, [], ◌∷◌, ◌++◌, take, drop}
use Rattle.masks.specs.Sets.{subset, intersects, union, difference, within}
use Rattle.refusal.specs.Checked.{Checked, accepted, refused}
use Rattle.commands.specs.Commands.{width_of, command_at}
use Rattle.numbers.specs.Numbers.{from_bytes, to_bytes, number_at}
use Rattle.reading.specs.Reading.{sound, checked_at, checked_start}
use Rattle.conditions.specs.declared.Condition.{Condition}
use Rattle.conditions.specs.Condition.{weaker, consistent, satisfied, applied, relevant, regressed}
use Rattle.job.specs.Job.{job_at}
use Rattle.job.specs.Validation.{validated_job}
use Rattle.table.specs.Table.{has_pair}
use Rattle.table.specs.Read as Table
use Rattle.tree.specs.ReadTree as Tree
use Rattle.planning.specs.Expansion.{Entry, listed, expand_entry, expand_from, expand}
use Rattle.flat.specs.TreeBytes.{condition_bytes, leaf_bytes, first_bytes, entry_bytes, later_entries, own_tree, tree_bytes}
use Rattle.builder.specs.Plan.{table_plan}
use Rattle.planner.specs.Plan.{start_for, plan_for}
use Rattle.shift_planner.specs.Shift.{plan_shift}
use Rattle.tree_shows.specs.Shown.{sound_tree, last_mask}
use Rattle.plan_recovery.specs.Recovery.{list_of, recovered}
use Rattle.marked_cases.specs.Trailer.{trailer_bytes}
use Rattle.marked_cases.specs.OneFactLess.{one_fact_less_bytes}
use Rattle.marked_cases.specs.Cases.{reading, whole, lists, all, p1_plan}

-- ---- what is asked

-- the tree that P1's plan writes, and what is recovered of a tree in lists of so many entries
abbrev p1_tree : List ℕ
p1_tree = p1_plan.tree

abbrev from : List ℕ → ℕ → Checked (List (Entry Condition))
from tree entries = recovered trailer_bytes tree entries

-- P1's tree with one byte in place of another
abbrev changed : ℕ → ℕ → List ℕ
changed at byte = take at p1_tree ++ (byte ∷ drop (suc at) p1_tree)

-- the trees of other plans: P2's, P5's, and the whole shift's
abbrev tree_for : ℕ → List ℕ
tree_for start = (plan_for trailer_bytes (reading start 0) (lists 4096) all).tree

abbrev shift_tree : List ℕ
shift_tree = (plan_shift trailer_bytes (lists 4096) all).tree

-- entries 2 and 3, both at depth 2, in the other order
abbrev exchanged : List (Entry Condition)
exchanged = take 2 whole ++ (take 1 (drop 3 whole) ++ (take 1 (drop 2 whole) ++ take 4 (drop 4 whole)))

-- the tree of the plan on the trailer with one fact less
abbrev less_tree : List ℕ
less_tree = (plan_for one_fact_less_bytes (reading 0x01 0) (lists 2978) all).tree

-- ---- what is given

pub record RecoveryComputed : Type 0 where
  -- P1's list, in tables that are just long enough, with parents and depths; P2's, and P5's of one entry
  pub p1 : from p1_tree 8 ≡ accepted (take 8 whole)
  pub p2 : from (tree_for 0x01) 4096 ≡ accepted whole
  pub p5 : from (tree_for 0x10) 1 ≡ accepted (take 1 whole)
  -- the whole shift's, and a beginning of it
  pub shift : from shift_tree 9 ≡ accepted whole
  pub beginning : from (tree_bytes false (take 3 whole)) 3 ≡ accepted (take 3 whole)
  -- the table's own stops come first, then 13 to 15, then 20, then 10
  pub table_first : recovered (take 146 trailer_bytes) [] 0 ≡ refused 1 146
  pub cut : from (take 110 p1_tree) 0 ≡ refused 13 110
  pub out_of_range : from (changed 16 0x2c) 0 ≡ refused 15 15
  pub other_origin : from (changed 109 2) 0 ≡ refused 20 0
  pub too_short : from p1_tree 7 ≡ refused 10 0
  -- a last job that is another, a first condition that is another, two entries exchanged
  pub other_job : from (changed 109 2) 4096 ≡ refused 20 0
  pub other_goal : from (changed 4 0x00) 4096 ≡ refused 20 0
  pub other_order : from (tree_bytes false exchanged) 4096 ≡ refused 20 0
  -- sound trees of other shapes: one that waits, a condition with both masks
  pub waits : from (0x46 ∷ 0x4f ∷ []) 4096 ≡ refused 20 0
  pub both_masks : from (tree_bytes true (take 1 whole)) 4096 ≡ refused 20 0
  -- under a table with a 0x21 the planner's own tree, and no list is long enough
  pub paired : recovered one_fact_less_bytes less_tree 4096 ≡ refused 20 0
  pub paired_first : recovered one_fact_less_bytes less_tree 0 ≡ refused 20 0

pub recovery_computed : RecoveryComputed
unfolding recovered sound_tree list_of last_mask plan_for start_for plan_shift table_plan expand expand_from expand_entry listed weaker consistent satisfied applied relevant regressed subset
    intersects union difference within sound checked_at checked_start condition_bytes leaf_bytes first_bytes entry_bytes later_entries own_tree width_of command_at from_bytes
    to_bytes number_at has_pair Table.read_table Table.read_jobs Table.read_goal Table.read_end Table.due job_at validated_job Tree.whole_at
    Tree.operands_of Tree.node_at Tree.read_row Tree.read_node Tree.read_tree Tree.read_end
recovery_computed =
    record {
      p1 = refl;
      p2 = refl;
      p5 = refl;
      shift = refl;
      beginning = refl;
      table_first = refl;
      cut = refl;
      out_of_range = refl;
      other_origin = refl;
      too_short = refl;
      other_job = refl;
      other_goal = refl;
      other_order = refl;
      waits = refl;
      both_masks = refl;
      paired = refl;
      paired_first = refl;
    }
