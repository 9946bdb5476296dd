-- The plan for a vehicle, from the bytes of a table and a start reading: document 01, "Expansion", "Job card", the table's stops and 8 to 12.
-- Definitions only.
use Rattle.std.specs.Prelude.{ℕ, zero, ◌+◌, Bool, List, [], ◌∷◌, length, get_or}
use Rattle.refusal.specs.Checked.{Checked, accepted, and_then}
use Rattle.reading.specs.declared.Reading.{Reading}
use Rattle.reading.specs.Reading.{checked_start}
use Rattle.conditions.specs.declared.Condition.{Condition}
use Rattle.job.specs.declared.Job.{Job}
use Rattle.job.specs.Job.{no_job}
use Rattle.table.specs.Table.{Table}
use Rattle.table.specs.Read.{read_table}
use Rattle.planning.specs.Sequence.{Answer, named}
use Rattle.planning.specs.Expansion.{Entry}
use Rattle.minutes.specs.Minutes.{nearest}
use Rattle.expander.specs.declared.Until.TheVariants.{Covers}
use Rattle.flat.specs.TreeBytes.{tree_bytes}
use Rattle.runs.specs.Runs.{tick_on}
use Rattle.builder.specs.Plan.{table_domain, pairs, Plan, table_plan, after_checks}
use Rattle.planner.specs.declared.Summary.{Summary}

-- ---- the way from the start, and its time

-- Document 02, W5: "the jobs that ticks name from the start, each with its listed effect", by ticks on the bytes of the list's tree. A way has fewer
-- jobs than its list has entries, so that the bound leaves none out.
abbrev pub way_of : (List ℕ → ℕ → Answer ℕ) → Table → ℕ → List (Entry Condition) → List ℕ
way_of tick t start l = named (table_domain t) (tick (tree_bytes (pairs t) l)) (length l) start

-- "the sum of listed seconds"
abbrev pub seconds_of : List Job → List ℕ → ℕ
seconds_of jobs [] = zero
seconds_of jobs (a ∷ w) = (get_or jobs a no_job).seconds + seconds_of jobs w

-- what a plan has to tell: "in minutes rounded alike"
abbrev pub summary_of : (List ℕ → ℕ → Answer ℕ) → Table → ℕ → List (Entry Condition) → Summary
summary_of tick t start l =
    record {
      entries = length l;
      bytes = length (tree_bytes (pairs t) l);
      jobs = length (way_of tick t start l);
      minutes = nearest (seconds_of t.jobs (way_of tick t start l));
      paired = pairs t;
    }

-- ---- the plan

-- the table's own stops first, then the start's, 8 and 9
unfoldable pub start_for : List ℕ → Reading → Checked Table
start_for table start = and_then (read_table table) λ t. and_then (checked_start t.facts start) λ r. accepted t

-- a table's bytes and a start, with room for so many entries, by whether the list is paired, and so many bytes of a tree
unfoldable pub plan_for : List ℕ → Reading → (Bool → ℕ) → ℕ → Plan Summary
plan_for table start capacity room = after_checks (start_for table start) λ t. table_plan (Covers start.held) t capacity room (summary_of (tick_on table) t start.held)
