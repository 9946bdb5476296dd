-- Document 02, W10, on the trailer with one fact less: plans, ticks, both runs and the checklist, computed from the definitions that the contracts cite.
-- Assumes nothing.
use Rattle.std.specs.Prelude.{◌≡◌, refl, true, [], ◌∷◌, length}
use Rattle.masks.specs.Sets.{subset, intersects, union, difference, within}
use Rattle.commands.specs.Commands.{width_of, command_at}
use Rattle.numbers.specs.Numbers.{from_bytes, to_bytes, number_at}
use Rattle.reading.specs.Reading.{sound, checked_at, checked_start}
use Rattle.conditions.specs.Condition.{weaker, consistent, satisfied, applied, relevant, regressed}
use Rattle.conditions.specs.OnReading.{possible, evaluated}
use Rattle.job.specs.Job.{job_bytes, job_at}
use Rattle.job.specs.Validation.{validated_job}
use Rattle.table.specs.Table.{jobs_bytes, has_pair, goal_bytes, table_bytes}
use Rattle.table.specs.Read as Table
use Rattle.tree.specs.ReadTree as Tree
use Rattle.tree.specs.Tick.{tick_by}
use Rattle.tree.specs.TickBytes.{tick_checked, tick_bytes}
use Rattle.planning.specs.Sequence.{Run, named}
use Rattle.planning.specs.Expansion.{listed, expand_entry, expand_from, expand}
use Rattle.minutes.specs.Minutes.{nearest}
use Rattle.runs.specs.Runs.{tick_on}
use Rattle.flat.specs.TreeBytes.{condition_bytes, leaf_bytes, first_bytes, entry_bytes, later_entries, own_tree}
use Rattle.expander.specs.Expands.{capacity_of}
use Rattle.builder.specs.Plan.{table_domain, table_plan}
use Rattle.planner.specs.Plan.{start_for, plan_for}
use Rattle.shift_planner.specs.Shift.{plan_shift}
use Rattle.marked_cases.specs.OneFactLess.{one_fact_less, one_fact_less_bytes}
use Rattle.marked_cases.specs.Cases.{reading, lists, all, less_tree, Right, pair_plans, pair_ticks}
use Rattle.marked_cases.specs.Checklist.{readings_from, readings, less_checklist}

pub record PairsComputed : Type 0 where
  pub pair_plans_right : Right pair_plans
  pub pair_ticks_right : Right pair_ticks
  -- the same way as P1's with the trailer on; from a start with it off measure unloaded, couple, measure loaded, seal
  pub less_run : Run (table_domain one_fact_less) (tick_on one_fact_less_bytes less_tree) 0x01 (3 ∷ 1 ∷ 2 ∷ 4 ∷ [])
  pub less_run_off : Run (table_domain one_fact_less) (tick_on one_fact_less_bytes (plan_for one_fact_less_bytes (reading 0x00 0) (lists 2978) all).tree) 0x00
      (2 ∷ 0 ∷ 3 ∷ 4 ∷ [])
  pub all_readings : length (readings 4) ≡ 81
  pub less_checklist_kept : less_checklist ≡ true

pub pairs_computed : PairsComputed
unfolding named plan_shift plan_for start_for table_plan capacity_of expand expand_from expand_entry listed weaker consistent satisfied applied relevant regressed possible evaluated subset
    intersects union difference within sound checked_at checked_start nearest condition_bytes leaf_bytes first_bytes entry_bytes later_entries own_tree
    width_of command_at from_bytes to_bytes number_at table_bytes jobs_bytes job_bytes goal_bytes has_pair Table.read_table Table.read_jobs Table.read_goal Table.read_end
    Table.due job_at validated_job tick_bytes tick_checked tick_by Tree.whole_at Tree.operands_of Tree.node_at Tree.read_row Tree.read_node Tree.read_tree
    Tree.read_end readings_from
pairs_computed =
    record {
      pair_plans_right = refl;
      pair_ticks_right = refl;
      less_run = (refl, tt, (refl, tt, (refl, tt, (refl, tt, refl))));
      less_run_off = (refl, tt, (refl, tt, (refl, tt, (refl, tt, refl))));
      all_readings = refl;
      less_checklist_kept = refl;
    }
