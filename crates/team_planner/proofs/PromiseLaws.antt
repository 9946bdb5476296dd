-- Every plan for two fitters keeps its promises.
-- Assumes nothing.
use Rattle.std.specs.Prelude.{ℕ, suc, ◌≤◌, ◌<◌, ◌≡◌, refl, Bool, true, List, [], ◌∷◌, ◌⊎◌, T, length, get_or, Result}
use Rattle.std.proofs.Common.{not-suc-le-zero, arith, sym, ap, ◌∙◌, subst, ⊎_elim, inl, inr}
use Rattle.base.specs.Bools.{is_true}
use Rattle.masks.specs.Sets.{within}
use Rattle.refusal.specs.declared.Refusal.{Refusal}
use Rattle.refusal.specs.Checked.{Checked, accepted, refused, and_then, answer_of}
use Rattle.refusal.specs.CheckedLaws.{not_both, accepted_same}
use Rattle.reading.specs.declared.Reading.{Reading}
use Rattle.reading.specs.Reading.{sound, state, checked_start}
use Rattle.reading.specs.ReadingLaws.{start_cases, start_sound, state_sound}
use Rattle.numbers.specs.Numbers.{AreBytes}
use Rattle.conditions.specs.declared.Condition.{Condition}
use Rattle.conditions.specs.Condition.{plain}
use Rattle.licences.specs.declared.Fitter.{Fitter}
use Rattle.licences.specs.declared.Fitter.TheVariants.{First, Second}
use Rattle.licences.specs.Licences.{FIRST, checked_licences, owner_of, owns, other_than}
use Rattle.licences.proofs.LicenceLaws.{licences_number, owner_owns, other_owns_not}
use Rattle.table.specs.Table.{Table}
use Rattle.table.specs.Read.{read_table}
use Rattle.planning.specs.Domain.{Domain}
use Rattle.planning.specs.Sequence.{success, running, Reaches, Run}
use Rattle.planning.specs.Listing.{path}
use Rattle.planning.specs.Columns.{max_entries}
use Rattle.planning.specs.Expansion.{Entry, Outcome, covered, entries, listing}
use Rattle.planning.specs.Demand.{CoveredBy, FirstIn, Fewest}
use Rattle.planning.proofs.FactLaws.{fact_start_first, fact_no_way}
use Rattle.tree.specs.declared.Status.{Status}
use Rattle.tree.specs.declared.Status.TheVariants.{Success, Failure, Running, Unsettled, Waiting}
use Rattle.tree.specs.Tick.{tick_tree}
use Rattle.tree.specs.TickBytes.{tick_bytes, answered}
use Rattle.runs.specs.Runs.{answer_of_status}
use Rattle.runs.specs.Joint.{joint_status}
use Rattle.flat.specs.TreeBytes.{own_tree, everyone}
use Rattle.flat.specs.FlatTree.{tree_of}
use Rattle.flat.specs.FlatTick.{leaf_status, seen_by}
use Rattle.expander.specs.declared.Until.TheVariants.{Covers}
use Rattle.expander.specs.Expands.{Columns, room}
use Rattle.builder.specs.Plan.{table_actions, table_domain, pairs, table_list}
use Rattle.builder.specs.Finish.{Finish, no_plan_of, after_checks_of, list_and_trees}
use Rattle.builder.specs.FinishLaws.{planned_list, planned_whole}
use Rattle.builder.specs.PlanLaws.{covered_told, columns_few}
use Rattle.builder.specs.Works.{Works, Irredundant}
use Rattle.builder.specs.WorksLaws.{separate, list_irredundant, goal_covered, list_fewest, list_answer, list_serves, state_agrees, kind_stops}
use Rattle.team_planner.specs.declared.TeamSize.{TeamSize}
use Rattle.team_planner.specs.Team.{TeamPlan, no_trees, fitter_tree, team_size, two_trees, team_by, team_plan, team_for, plan_team, WritesTeam}
use Rattle.team_planner.proofs.TeamLaws.{not_both_fit}
use Rattle.team_planner.specs.Promise.{told_to, joint_on, Shared, TeamWorks, NoTeamRoom, TeamKeeps, PlansTeam}

-- ---- what both see of the team's answer, taken together

joint_answer : (licences : List ℕ) (a : Status) → joint_status (seen_by (owns licences First) a) (seen_by (owns licences Second) a) ≡ answer_of_status a
joint_answer licences Success = refl
joint_answer licences Failure = refl
joint_answer licences (Unsettled mask) = refl
joint_answer licences Waiting = refl
joint_answer licences (Running job) = by_owner (owner_of (get_or licences job FIRST)) refl
  where
    by_owner : (owner : Fitter) → owner_of (get_or licences job FIRST) ≡ owner
        → joint_status (leaf_status (owns licences First job) job) (leaf_status (owns licences Second job) job) ≡ running job
    by_owner First e = rw e
    by_owner Second e = rw e

-- one who has all jobs sees all
seen_all : (a : Status) → seen_by everyone a ≡ a
seen_all Success = refl
seen_all Failure = refl
seen_all (Running job) = refl
seen_all (Unsettled mask) = refl
seen_all Waiting = refl

-- a run goes on, or ends well, by the job that is named, or Success
run_job : (a : Status) (job : ℕ) → answer_of_status a ≡ running job → a ≡ Running job
run_job Success job e = let z : ◌≡◌ {A = ℕ} 0 1 = cc in absurd (omega arith)
run_job Failure job e = let z : ◌≡◌ {A = ℕ} 0 1 = cc in absurd (omega arith)
run_job (Running k) job e = cc
run_job (Unsettled mask) job e = let z : ◌≡◌ {A = ℕ} 0 1 = cc in absurd (omega arith)
run_job Waiting job e = let z : ◌≡◌ {A = ℕ} 0 1 = cc in absurd (omega arith)

run_success : (a : Status) → answer_of_status a ≡ success → a ≡ Success
run_success Success e = refl
run_success Failure e = let z : ◌≡◌ {A = ℕ} 0 1 = cc in absurd (omega arith)
run_success (Running k) e = let z : ◌≡◌ {A = ℕ} 0 1 = cc in absurd (omega arith)
run_success (Unsettled mask) e = let z : ◌≡◌ {A = ℕ} 0 1 = cc in absurd (omega arith)
run_success Waiting e = let z : ◌≡◌ {A = ℕ} 0 1 = cc in absurd (omega arith)

-- ---- a list that is planned for a start

module _ (table : List ℕ) (b : AreBytes table) (t : Table) (e : read_table table ≡ accepted t) (licences : List ℕ) (start : ℕ) (capacity : ℕ)
    (few : capacity ≤ max_entries (pairs t)) (l : List (Entry Condition)) (some : 1 ≤ length l)
    (q : entries (table_list (Covers start) t (λ paired. capacity)) ≡ l) where
  abbrev D : Domain ℕ Condition ℕ
  D = table_domain t

  abbrev trees : Fitter → List ℕ
  trees = fitter_tree licences (pairs t) l

  -- what the team's own tree answers
  abbrev team_status : Reading → Status
  team_status r = (tick_tree r (tree_of everyone (pairs t) l)).answer

  told_is : (r : Reading) → sound t.facts r ≡ true → (mine : ℕ → Bool)
      → answered (tick_bytes table (own_tree mine (pairs t) l) r) ≡ accepted (seen_by mine (team_status r))
  told_is r h mine = list_answer table b t e capacity (Covers start) few l some q mine r h

  told_to_is : (s : ℕ) → T (within t.facts s) → (fitter : Fitter) → told_to table trees fitter s ≡ accepted (seen_by (owns licences fitter) (team_status (state s)))
  told_to_is s w fitter = told_is (state s) (is_true _ (state_sound t.facts s w)) (owns licences fitter)

  joint_status_is : (s : ℕ) → T (within t.facts s) → joint_on table trees s ≡ answer_of_status (team_status (state s))
  joint_status_is s w = rw (told_to_is s w First, told_to_is s w Second) (joint_answer licences (team_status (state s)))

  -- the run of both is that of the list
  fewest : (s : ℕ) → T (within t.facts s) → CoveredBy D l s → Fewest D (joint_on table trees) l s
  fewest =
      list_fewest table b t e capacity (Covers start) few l some q (joint_on table trees)
      (λ s w. joint_status_is s w ∙ state_agrees table b t e capacity (Covers start) few l some q s)

  serves : (fitter : Fitter) → Works (Fewest D (joint_on table trees) l) t table l (trees fitter)
  serves fitter = list_serves table b t e capacity (Covers start) few l some q (owns licences fitter) fewest

  -- a job that a fitter is given is one of the table's
  known : (s : ℕ) → T (within t.facts s) → (fitter : Fitter) (job : ℕ) → told_to table trees fitter s ≡ accepted (Running job) → job < length t.jobs
  known s w fitter job a =
      let K = (serves fitter).ticks (state s) (is_true _ (state_sound t.facts s w)) in
      (K.needs_held job (accepted_same (sym (ap answered K.is_answer) ∙ a))).0

  -- where a job is due, its owner is given it and the other waits
  shares : (s : ℕ) → T (within t.facts s) → (job : ℕ) → team_status (state s) ≡ Running job → Shared table trees licences (length t.jobs) s
  shares s w job a =
      let given = told owner ∙ ap (λ (own : Bool). accepted (leaf_status own job)) (owner_owns owner) in
      record {
        job = job;
        known = known s w owner job given;
        owner = owner;
        is_owner = refl;
        given = given;
        waits = told (other_than owner) ∙ ap (λ (own : Bool). accepted (leaf_status own job)) (other_owns_not owner);
      }
    where
      owner : Fitter
      owner = owner_of (get_or licences job FIRST)

      told : (fitter : Fitter) → told_to table trees fitter s ≡ accepted (leaf_status (owns licences fitter job) job)
      told fitter = told_to_is s w fitter ∙ ap (λ (x : Status). accepted (seen_by (owns licences fitter) x)) a

  shared : (s : ℕ) → T (within t.facts s) → CoveredBy D l s → (T (D.satisfies s D.goal) → ⊥) → Shared table trees licences (length t.jobs) s
  shared s w c away = let F = fewest s w c in by_path (path (listing D l) F.entry) F.run F.shortest.reaches
    where
      by_path : (v : List ℕ) → Run D (joint_on table trees) s v → Reaches D s v → Shared table trees licences (length t.jobs) s
      by_path [] r g = absurd (away g.at_goal)
      by_path (job ∷ v) r g = shares s w job (run_job (team_status (state s)) job (sym (joint_status_is s w) ∙ r.0))

  at_goal : (s : ℕ) → T (within t.facts s) → T (D.satisfies s D.goal) → (fitter : Fitter) → told_to table trees fitter s ≡ accepted Success
  at_goal s w g fitter =
      let F = fewest s w (goal_covered table b t e capacity (Covers start) few l some q s g) in
      let a = by_path (path (listing D l) F.entry) F.run (F.shortest.least [] (record { executable = tt; at_goal = g })) in
      told_to_is s w fitter ∙ ap (λ (x : Status). accepted (seen_by (owns licences fitter) x)) a
    where
      by_path : (v : List ℕ) → Run D (joint_on table trees) s v → length v ≤ 0 → team_status (state s) ≡ Success
      by_path [] r h = run_success (team_status (state s)) (sym (joint_status_is s w) ∙ r)
      by_path (job ∷ v) r h = absurd (omega arith)

  pub team_works : TeamWorks t table licences l trees
  team_works =
      record {
        works = serves;
        shared = shared;
        at_goal = at_goal;
        seen = λ r h fitter.
            told_is r h (owns licences fitter)
            ∙ ap (λ (c : Checked Status). and_then c λ a. accepted (seen_by (owns licences fitter) a)) (sym (told_is r h everyone ∙ ap accepted (seen_all (team_status r))));
      }

-- ---- every plan

-- Of a table that was read, licences, a start, and room for so many entries and so many bytes of each tree:
module _ (table : List ℕ) (b : AreBytes table) (t : Table) (e : read_table table ≡ accepted t) (licences : List ℕ) (start : Reading) (capacity : Bool → ℕ)
    (space : Fitter → ℕ) (few : (paired : Bool) → capacity paired ≤ max_entries paired) where
  abbrev most : ℕ
  most = capacity (pairs t)

  abbrev outcome : Outcome Condition
  outcome = table_list (Covers start.held) t capacity

  abbrev kind : Finish TeamSize (Fitter → List ℕ)
  kind = two_trees licences (pairs t) space

  abbrev whole : TeamPlan
  whole = team_by licences t start.held space outcome

  -- what holds of the plan for sound licences and a sound start holds of every plan, where it holds of none
  by_checks : (P : TeamPlan → Type 0) → ((n p : ℕ) → (n ≡ 24) ⊎ (n ≡ 8) ⊎ (n ≡ 9) → P (no_plan_of no_trees n p)) → P whole → P (plan_team table licences start capacity space)
  unfolding plan_team team_for team_plan
  by_checks P none w = rw e (by_licences (checked_licences (length t.jobs) licences) refl)
    where
      by_start : P (after_checks_of no_trees (and_then (checked_start t.facts start) λ r. accepted t) λ t. team_plan licences t start.held capacity space)
      by_start =
          start_cases t.facts start (λ c. P (after_checks_of no_trees (and_then c λ r. accepted t) λ t. team_plan licences t start.held capacity space)) (none 8 0 (inr (inl refl)))
          (none 9 0 (inr (inr refl))) (λ s. w)

      by_licences : (c : Checked (List ℕ)) → checked_licences (length t.jobs) licences ≡ c
          → P (after_checks_of no_trees (and_then c λ row. and_then (checked_start t.facts start) λ r. accepted t) λ t. team_plan licences t start.held capacity space)
      by_licences (accepted row) q = by_start
      by_licences (refused n p) q = none n p (inl (licences_number (length t.jobs) licences n p q))

  checked : checked_licences (length t.jobs) licences ≡ accepted licences → sound t.facts start ≡ true → start.unread ≡ 0
      → plan_team table licences start capacity space ≡ whole
  unfolding plan_team team_for team_plan
  checked l s u = rw (e, l, ← start_sound t.facts start s u)

  ended : (p : TeamSize) → whole.answer ≡ accepted p
      → (l : List (Entry Condition)) × (outcome ≡ covered l) × (whole ≡ list_and_trees kind (pairs t) l) × (p ≡ team_size licences (pairs t) l)
  ended p a =
      let w = planned_whole kind (pairs t) (Covers start.held) outcome p a in
      (w.list, covered_told start.held outcome w.list w.listed, w.plan_is, w.told_is)

  works : (p : TeamSize) → whole.answer ≡ accepted p → TeamWorks t table licences whole.list whole.tree
  works p a =
      let (l, c, is, told) = ended p a in
      let n = fact_start_first (table_actions t) (plain t.goal) most start.held l c in
      rw is (team_works table b t e licences start.held most (few (pairs t)) l (omega (arith, n.1)) (ap entries c))

  begins : (p : TeamSize) → whole.answer ≡ accepted p → (i : ℕ) × (p.entries ≡ suc i) × FirstIn (table_domain t) whole.list start.held i
  begins p a =
      let (l, c, is, told) = ended p a in
      let n = fact_start_first (table_actions t) (plain t.goal) most start.held l c in
      rw is (n.0, ap (λ (x : TeamSize). x.entries) told ∙ n.1, n.2)

  no_way : (p : ℕ) → whole.answer ≡ refused 11 p → (w : List ℕ) → Reaches (table_domain t) start.held w → ⊥
  no_way p a =
      ⊎_elim (λ f. fact_no_way (table_actions t) (plain t.goal) most start.held (separate table b t e most (Covers start.held)) f.3.0 f.3.1)
      (λ f. absurd (⊎_elim (λ g. omega (arith, g.0)) (λ g. omega (arith, g.0)) f))
      (kind_stops table b t e most (Covers start.held) kind 11 p a)

  stops : (n p : ℕ) → whole.answer ≡ refused n p → ((n ≡ 11) × (p ≡ length whole.list)) ⊎ NoTeamRoom licences (pairs t) most space whole.list n p
  stops n p a =
      ⊎_elim (λ f. inl (f.0, f.1 ∙ ap length (sym (planned_list kind (pairs t) (Covers start.held) outcome).0)))
      (λ f. inr (⊎_elim inl (λ g. inr (g.0, g.1, not_both_fit licences (pairs t) whole.list space g.2)) f))
      (kind_stops table b t e most (Covers start.held) kind n p a)

  pub every_team : TeamKeeps t table licences start capacity space (plan_team table licences start capacity space)
  every_team =
      record {
        works = λ p. by_checks (λ P. P.answer ≡ accepted p → TeamWorks t table licences P.list P.tree) (λ n k h a. absurd (not_both a)) (works p);
        stops = λ l s u n p.
            subst (λ P. P.answer ≡ refused n p → ((n ≡ 11) × (p ≡ length P.list)) ⊎ NoTeamRoom licences (pairs t) most space P.list n p) (sym (checked l s u)) (stops n p);
        no_way = λ p.
            by_checks (λ P. P.answer ≡ refused 11 p → (w : List ℕ) → Reaches (table_domain t) start.held w → ⊥) (λ n k h a. absurd (not_11 n k p h a)) (no_way p);
        start_covered = λ p.
            by_checks (λ P. P.answer ≡ accepted p → (i : ℕ) × (p.entries ≡ suc i) × FirstIn (table_domain t) P.list start.held i)
            (λ n k h a. absurd (not_both a)) (begins p);
        irredundant =
            by_checks (λ P. Irredundant t P.list) (λ n k h plain i l. absurd (not-suc-le-zero l))
            (rw (planned_list kind (pairs t) (Covers start.held) outcome).0 (list_irredundant table b t e most (Covers start.held)));
      }
    where
      not_11 : (n k p : ℕ) → (n ≡ 24) ⊎ (n ≡ 8) ⊎ (n ≡ 9) → ◌≡◌ {A = Checked TeamSize} (refused n k) (refused 11 p) → ⊥
      not_11 n k p h a = let is : n ≡ 11 = cc in ⊎_elim (λ x. omega arith) (⊎_elim (λ x. omega arith) (λ x. omega arith)) h

pub team_kept : (table : List ℕ) → AreBytes table → (licences : List ℕ) (start : Reading) (before after : Columns) (lent trees : Fitter → List ℕ) (r : (Result TeamSize Refusal))
    → WritesTeam (plan_team table licences start (room before) (λ fitter. length (lent fitter))) before after lent trees (answer_of r)
    → PlansTeam table licences start before after lent trees r
team_kept table b licences start before after lent trees r w =
    record { writes = w; keeps = λ t e. every_team table b t e licences start (room before) (λ fitter. length (lent fitter)) (columns_few before) }
