-- Document 02, W12, on document 01's trailer and on the trailer with one fact less: two fitters' plans, trees, ticks and runs, computed from the
-- definitions that the contracts of `plan_team` and `tick` cite.
-- Assumes nothing.
use Rattle.std.specs.Prelude.{ℕ, ◌≡◌, refl, Bool, true, false, List, [], ◌∷◌, ◌++◌, map, take}
use Rattle.masks.specs.Sets.{subset, intersects, union, difference, within}
use Rattle.refusal.specs.Checked.{Checked, accepted, refused}
use Rattle.commands.specs.Commands.{width_of, command_at}
use Rattle.numbers.specs.Numbers.{from_bytes, to_bytes, number_at}
use Rattle.reading.specs.declared.Reading.{Reading}
use Rattle.reading.specs.Reading.{sound, checked_at, checked_start}
use Rattle.conditions.specs.Condition.{weaker, consistent, satisfied, applied, relevant, regressed}
use Rattle.conditions.specs.OnReading.{possible, evaluated}
use Rattle.licences.specs.declared.Fitter.{Fitter}
use Rattle.licences.specs.declared.Fitter.TheVariants.{First, Second}
use Rattle.licences.specs.Licences.{is_licence, checked_licences}
use Rattle.job.specs.Job.{job_at}
use Rattle.job.specs.Validation.{validated_job}
use Rattle.table.specs.Table.{has_pair}
use Rattle.table.specs.Read as Table
use Rattle.tree.specs.declared.Status.{Status}
use Rattle.tree.specs.declared.Status.TheVariants.{Success, Failure, Running, Unsettled, Waiting}
use Rattle.tree.specs.ReadTree as Tree
use Rattle.tree.specs.Tick.{tick_by}
use Rattle.tree.specs.TickBytes.{tick_checked, tick_bytes, answered}
use Rattle.planning.specs.Sequence.{Run}
use Rattle.planning.specs.Expansion.{listed, expand_entry, expand_from, expand}
use Rattle.flat.specs.TreeBytes.{condition_bytes, leaf_bytes, first_bytes, entry_bytes, later_entries, own_tree}
use Rattle.builder.specs.Plan.{table_domain}
use Rattle.team_planner.specs.declared.TeamSize.{TeamSize}
use Rattle.team_planner.specs.Team.{of_each, TeamPlan, team_plan, team_for, plan_team}
use Rattle.team_planner.specs.Promise.{joint_on}
use Rattle.marked_cases.specs.Trailer.{trailer, trailer_bytes}
use Rattle.marked_cases.specs.OneFactLess.{one_fact_less, one_fact_less_bytes}
use Rattle.marked_cases.specs.Cases.{reading, whole, lists}

-- ---- what is asked

-- the first fitter measures, the second couples and uncouples, and both may seal
abbrev licences : List ℕ
licences = 2 ∷ 2 ∷ 1 ∷ 1 ∷ 3 ∷ []

-- so many bytes of each tree
abbrev enough : Fitter → ℕ
enough fitter = 65535

abbrev sized : Bool → ℕ → ℕ → ℕ → Checked TeamSize
sized paired entries first second = accepted (record { entries = entries; first = first; second = second; paired = paired })

-- the plan for P1's start
abbrev p1_team : TeamPlan
p1_team = plan_team trailer_bytes licences (reading 0x02 0) (lists 4096) enough

-- with another row of licences, another start, or other room
abbrev answer_to : List ℕ → Reading → ℕ → (Fitter → ℕ) → Checked TeamSize
answer_to row start capacity room = (plan_team trailer_bytes row start (lists capacity) room).answer

abbrev less_team : TeamPlan
less_team = plan_team one_fact_less_bytes licences (reading 0x01 0) (lists 2978) enough

-- what both are told on a reading
abbrev told : List ℕ → TeamPlan → Reading → List (Checked Status)
told table P r = map (λ f. answered (tick_bytes table (P.tree f) r)) (First ∷ Second ∷ [])

abbrev both : Status → Status → List (Checked Status)
both first second = accepted first ∷ accepted second ∷ []

-- ---- the bytes of the second fitter's tree

abbrev asks : ℕ → List ℕ
asks mask = 0x43 ∷ mask ∷ 0 ∷ 0 ∷ 0 ∷ 0 ∷ 0 ∷ 0 ∷ 0 ∷ []

abbrev entry : ℕ → List ℕ → List ℕ
entry mask leaf = 0x42 ∷ 2 ∷ 0 ∷ asks mask ++ leaf

abbrev waits : List ℕ
waits = 0x46 ∷ []

abbrev does : ℕ → List ℕ
does job = 0x44 ∷ job ∷ []

abbrev second_tree : List ℕ
second_tree =
    (0x41 ∷ 8 ∷ 0 ∷ asks 0x10) ++ (entry 0x0c waits ++ (entry 0x09 waits ++ (entry 0x06 waits ++ (entry 0x0a (does 1) ++ (entry 0x03 waits ++ (entry 0x05 (does 0)
    ++ (entry 0x02 waits ++ (0x4f ∷ []))))))))

-- ---- what is given

pub record TeamComputed : Type 0 where
  -- the list is P1's; each tree has one byte less for each job of the other
  pub size : p1_team.answer ≡ sized false 8 109 106
  pub list : p1_team.list ≡ take 8 whole
  pub second_tree_is : p1_team.tree Second ≡ second_tree
  -- "From P1's start the run is 3, 1, 2, 4": one is given the job, the other waits; sealing, which both may, is the first's
  pub run : Run (table_domain trailer) (joint_on trailer_bytes p1_team.tree) 0x02 (3 ∷ 1 ∷ 2 ∷ 4 ∷ [])
  pub turns : map (λ s. told trailer_bytes p1_team (reading s 0)) (0x02 ∷ 0x0a ∷ 0x09 ∷ 0x0d ∷ 0x1d ∷ 0x08 ∷ [])
      ≡ both (Running 3) Waiting ∷ both Waiting (Running 1) ∷ both (Running 2) Waiting ∷ both (Running 4) Waiting ∷ both Success Success ∷ both Failure Failure ∷ []
  -- P7's reading leaves both unsettled at the same entry
  pub unread : told trailer_bytes p1_team (reading 0x02 0x01) ≡ both (Unsettled 0x01) (Unsettled 0x01)
  -- the table's own stops come first, then 24 by the length, then by the first licence that is none, then 8, then 9
  pub table_first : (plan_team (take 146 trailer_bytes) [] (reading 0x20 0) (lists 0) (λ f. 0)).answer ≡ refused 1 146
  pub length_first : answer_to (0 ∷ 4 ∷ []) (reading 0x20 0) 0 (λ f. 0) ≡ refused 24 0
  pub too_long : answer_to (licences ++ (1 ∷ [])) (reading 0x02 0) 4096 enough ≡ refused 24 0
  pub licence_0 : answer_to (2 ∷ 2 ∷ 0 ∷ 1 ∷ 4 ∷ []) (reading 0x20 0) 0 (λ f. 0) ≡ refused 24 2
  pub licence_4 : answer_to (2 ∷ 2 ∷ 1 ∷ 1 ∷ 4 ∷ []) (reading 0x20 0) 0 (λ f. 0) ≡ refused 24 4
  pub bad_start : answer_to licences (reading 0x20 0x02) 0 (λ f. 0) ≡ refused 8 0
  pub unread_start : answer_to licences (reading 0x02 0x01) 0 (λ f. 0) ≡ refused 9 0
  pub full : answer_to licences (reading 0x02 0) 7 (λ f. 0) ≡ refused 10 7
  pub no_way : answer_to licences (reading 0x08 0) 4096 (λ f. 0) ≡ refused 11 9
  -- 12 by each tree's own bytes: the second may be lent less than the first
  pub just_enough : answer_to licences (reading 0x02 0) 4096 (of_each 109 106) ≡ sized false 8 109 106
  pub first_short : answer_to licences (reading 0x02 0) 4096 (of_each 108 106) ≡ refused 12 8
  pub second_short : answer_to licences (reading 0x02 0) 4096 (of_each 109 105) ≡ refused 12 8
  -- all jobs are one fitter's: his tree is the team's, and the other only waits
  pub all_second : answer_to (2 ∷ 2 ∷ 2 ∷ 2 ∷ 2 ∷ []) (reading 0x02 0) 4096 enough ≡ sized false 8 104 111
  -- pairs: the same turns with the trailer on or off by one fact
  pub less_size : less_team.answer ≡ sized true 7 151 149
  pub less_run : Run (table_domain one_fact_less) (joint_on one_fact_less_bytes less_team.tree) 0x01 (3 ∷ 1 ∷ 2 ∷ 4 ∷ [])
  pub less_turns : map (λ s. told one_fact_less_bytes less_team (reading s 0)) (0x01 ∷ 0x05 ∷ 0x04 ∷ 0x06 ∷ 0x0e ∷ [])
      ≡ both (Running 3) Waiting ∷ both Waiting (Running 1) ∷ both (Running 2) Waiting ∷ both (Running 4) Waiting ∷ both Success Success ∷ []

pub team_computed : TeamComputed
unfolding plan_team team_for team_plan is_licence checked_licences expand expand_from expand_entry listed weaker consistent satisfied applied relevant regressed possible evaluated subset
    intersects union difference within sound checked_at checked_start condition_bytes leaf_bytes first_bytes entry_bytes later_entries own_tree width_of command_at from_bytes
    to_bytes number_at has_pair Table.read_table Table.read_jobs Table.read_goal Table.read_end Table.due job_at validated_job tick_bytes tick_checked tick_by Tree.whole_at
    Tree.operands_of Tree.node_at Tree.read_row Tree.read_node Tree.read_tree Tree.read_end
team_computed =
    record {
      size = refl;
      list = refl;
      second_tree_is = refl;
      run = (refl, tt, (refl, tt, (refl, tt, (refl, tt, refl))));
      turns = refl;
      unread = refl;
      table_first = refl;
      length_first = refl;
      too_long = refl;
      licence_0 = refl;
      licence_4 = refl;
      bad_start = refl;
      unread_start = refl;
      full = refl;
      no_way = refl;
      just_enough = refl;
      first_short = refl;
      second_short = refl;
      all_second = refl;
      less_size = refl;
      less_run = (refl, tt, (refl, tt, (refl, tt, (refl, tt, refl))));
      less_turns = refl;
    }
