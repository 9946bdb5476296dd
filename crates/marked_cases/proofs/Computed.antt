-- The marked cases of document 01 and of document 02's W2, P1's run and P5's, the checklist and the printed texts, computed from the definitions that
-- the contracts cite. PairsComputed.antt has W10's.
-- Assumes nothing.
use Rattle.std.specs.Prelude.{◌≡◌, refl, true, [], ◌∷◌, map, length}
use Rattle.masks.specs.Sets.{subset, intersects, union, difference, within}
use Rattle.commands.specs.Commands.{width_of, command_at}
use Rattle.numbers.specs.Numbers.{from_bytes, to_bytes, number_at}
use Rattle.reading.specs.Reading.{sound, checked_at, checked_start}
use Rattle.conditions.specs.Condition.{weaker, consistent, satisfied, applied, relevant, regressed}
use Rattle.conditions.specs.OnReading.{possible, evaluated}
use Rattle.job.specs.Job.{job_bytes, job_at}
use Rattle.job.specs.Validation.{validated_job}
use Rattle.table.specs.Table.{jobs_bytes, has_pair, goal_bytes, table_bytes}
use Rattle.table.specs.Read as Table
use Rattle.tree.specs.ReadTree as Tree
use Rattle.tree.specs.Tick.{tick_by}
use Rattle.tree.specs.TickBytes.{tick_checked, tick_bytes}
use Rattle.planning.specs.Sequence.{Run, named}
use Rattle.planning.specs.Expansion.{listed, expand_entry, expand_from, expand}
use Rattle.minutes.specs.Minutes.{nearest}
use Rattle.runs.specs.Runs.{tick_on}
use Rattle.flat.specs.TreeBytes.{condition_bytes, leaf_bytes, first_bytes, entry_bytes, later_entries, own_tree}
use Rattle.expander.specs.Expands.{capacity_of}
use Rattle.builder.specs.Plan.{table_domain, table_plan}
use Rattle.planner.specs.Plan.{start_for, plan_for}
use Rattle.shift_planner.specs.Shift.{plan_shift}
use Rattle.text_fields.specs.Fields.{digits, places_in, places}
use Rattle.plan_text.specs.Text.{entries_text, plan_text, refused_text}
use Rattle.program_text.specs.Program.{files_plan, program_text}
use Rattle.marked_cases.specs.Trailer.{trailer, trailer_bytes}
use Rattle.marked_cases.specs.Cases.{reading, lists, all, p1_plan, Right, plans, ticks, shifts, dropped}
use Rattle.marked_cases.specs.Checklist.{readings_from, readings, checklist}
use Rattle.marked_cases.specs.Printed.{prints}

pub record Computed : Type 0 where
  pub plans_right : Right plans
  pub ticks_right : Right ticks
  pub shifts_right : Right shifts
  pub dropped_right : Right dropped
  -- "From P1's start the run is 3, 1, 2, 4, then Success; from P5's it has no job."
  pub p1_run : Run (table_domain trailer) (tick_on trailer_bytes p1_plan.tree) 0x02 (3 ∷ 1 ∷ 2 ∷ 4 ∷ [])
  pub p5_run : Run (table_domain trailer) (tick_on trailer_bytes (plan_for trailer_bytes (reading 0x10 0) (lists 4096) all).tree) 0x10 []
  -- document 02, W5: these jobs are all that ticks name, though more are asked for
  pub p1_named : named (table_domain trailer) (tick_on trailer_bytes p1_plan.tree) 8 0x02 ≡ 3 ∷ 1 ∷ 2 ∷ 4 ∷ []
  pub all_readings : length (readings 5) ≡ 243
  pub checklist_kept : checklist ≡ true
  pub prints_right : map (λ p. p.found) prints ≡ map (λ p. p.expected) prints

texts_right : map (λ p. p.found) prints ≡ map (λ p. p.expected) prints
unfolding named plan_for start_for table_plan capacity_of expand expand_from expand_entry listed weaker consistent satisfied applied relevant regressed possible evaluated subset
    intersects union difference within sound checked_at checked_start nearest condition_bytes leaf_bytes first_bytes entry_bytes later_entries own_tree
    width_of command_at from_bytes to_bytes number_at table_bytes jobs_bytes job_bytes goal_bytes has_pair Table.read_table Table.read_jobs Table.read_goal Table.read_end
    Table.due job_at validated_job tick_bytes tick_checked tick_by Tree.whole_at Tree.operands_of Tree.node_at Tree.read_row Tree.read_node Tree.read_tree
    Tree.read_end program_text files_plan plan_text refused_text entries_text digits places_in places
texts_right = refl

pub computed : Computed
unfolding named plan_shift plan_for start_for table_plan expand expand_from expand_entry listed weaker consistent satisfied applied relevant regressed possible evaluated subset
    intersects union difference within sound checked_at checked_start nearest condition_bytes leaf_bytes first_bytes entry_bytes later_entries own_tree
    width_of command_at from_bytes to_bytes number_at table_bytes jobs_bytes job_bytes goal_bytes has_pair Table.read_table Table.read_jobs Table.read_goal Table.read_end
    Table.due job_at validated_job tick_bytes tick_checked tick_by Tree.whole_at Tree.operands_of Tree.node_at Tree.read_row Tree.read_node Tree.read_tree
    Tree.read_end readings_from
computed =
    record {
      plans_right = refl;
      ticks_right = refl;
      shifts_right = refl;
      dropped_right = refl;
      p1_run = (refl, tt, (refl, tt, (refl, tt, (refl, tt, refl))));
      p5_run = refl;
      p1_named = refl;
      all_readings = refl;
      checklist_kept = refl;
      prints_right = texts_right;
    }
