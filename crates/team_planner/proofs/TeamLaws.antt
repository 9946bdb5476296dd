-- What the parts of the code leave comes to the plan for the team that the definition gives, and what its answer tells.
-- Assumes nothing.
use Rattle.std.specs.Prelude.{ℕ, ◌≤◌, ◌<◌, ◌≡◌, refl, Bool, true, false, ◌&&◌, List, ◌++◌, leb, length, drop, if◌then◌else◌}
use Rattle.std.proofs.Common.{arith, sym, ap, ◌∙◌, le-leb, leb-false}
use Rattle.std.proofs.lemmas.Bool.{lt-leb}
use Rattle.refusal.specs.Checked.{Checked, accepted, refused, and_then}
use Rattle.refusal.specs.CheckedLaws.{accepted_then}
use Rattle.reading.specs.declared.Reading.{Reading}
use Rattle.reading.specs.Reading.{checked_start}
use Rattle.conditions.specs.declared.Condition.{Condition}
use Rattle.licences.specs.declared.Fitter.{Fitter}
use Rattle.licences.specs.declared.Fitter.TheVariants.{First, Second}
use Rattle.licences.specs.Licences.{checked_licences, owns}
use Rattle.table.specs.Table.{Table}
use Rattle.table.specs.Read.{read_table}
use Rattle.planning.specs.Expansion.{Entry}
use Rattle.expander.specs.declared.Until.TheVariants.{Covers}
use Rattle.expander.specs.Expands.{Columns, room, held}
use Rattle.builder.specs.Finish.{Finish, no_plan_of, list_alone, list_and_trees, with_trees, WritesTrees}
use Rattle.builder.specs.FinishLaws.{trees_short, trees_fit, lists_refused, lists_finished, lists_untouched}
use Rattle.builder.specs.Plan.{pairs, table_list, used, WritesList, AtFront}
use Rattle.builder.specs.PlanLaws.{list_refused, drawn, drawn_length, drawn_tree}
use Rattle.team_planner.specs.declared.TeamSize.{TeamSize}
use Rattle.team_planner.specs.Team.{of_each, no_trees, fitter_tree, team_size, both_fit, two_trees, team_plan, team_for, plan_team, BothAtFront, WritesTeam}

-- ---- the checks before the plan

module _ (table licences : List ℕ) (start : Reading) where
  pub team_refused : (n p : ℕ) → refused n p ≡ read_table table → refused n p ≡ team_for table licences start
  unfolding team_for
  team_refused n p e = rw (← e)

  module _ (t : Table) (e : accepted t ≡ read_table table) where
    pub licences_bad : {n p : ℕ} → refused n p ≡ checked_licences (length t.jobs) licences → refused n p ≡ team_for table licences start
    unfolding team_for
    licences_bad l = rw (← e, ← l)

    module _ {row : List ℕ} (l : accepted row ≡ checked_licences (length t.jobs) licences) where
      pub start_bad : {n p : ℕ} → refused n p ≡ checked_start t.facts start → refused n p ≡ team_for table licences start
      unfolding team_for
      start_bad s = rw (← e, ← l, ← s)

      pub start_passed : {r : Reading} → accepted r ≡ checked_start t.facts start → accepted t ≡ team_for table licences start
      unfolding team_for
      start_passed s = rw (← e, ← l, ← s)

  -- checks that passed leave the table as it was read
  pub team_table : (t : Table) → team_for table licences start ≡ accepted t → read_table table ≡ accepted t
  unfolding team_for
  team_table t e =
      let w = accepted_then (read_table table) _ t e in
      let l = accepted_then (checked_licences (length w.0.jobs) licences) (λ row. and_then (checked_start w.0.facts start) λ r. accepted w.0) t w.2 in
      w.1 ∙ (accepted_then (checked_start w.0.facts start) (λ r. accepted w.0) t l.2).2

  module _ (capacity : Bool → ℕ) (room : Fitter → ℕ) where
    pub team_stopped : (n p : ℕ) → refused n p ≡ team_for table licences start → no_plan_of no_trees n p ≡ plan_team table licences start capacity room
    unfolding plan_team
    team_stopped n p e = rw (← e)

    pub team_started : (t : Table) → accepted t ≡ team_for table licences start
        → team_plan licences t start.held capacity room ≡ plan_team table licences start capacity room
    unfolding plan_team
    team_started t e = rw (← e)

-- ---- both trees of a list

module _ (licences : List ℕ) (paired : Bool) (l : List (Entry Condition)) (room : Fitter → ℕ) where
  -- one of them has too little room, exactly where not both fit
  one_short : (fitter : Fitter) → room fitter < length (fitter_tree licences paired l fitter) → both_fit licences paired room l ≡ false
  one_short First h = rw (lt-leb (length (fitter_tree licences paired l First)) (room First) h)
  one_short Second h = rw (lt-leb (length (fitter_tree licences paired l Second)) (room Second) h) (either (leb (length (fitter_tree licences paired l First)) (room First)))
    where
      either : (b : Bool) → (b && false) ≡ false
      either true = refl
      either false = refl

  pub not_both_fit : both_fit licences paired room l ≡ false → (fitter : Fitter) × (room fitter < length (fitter_tree licences paired l fitter))
  not_both_fit = by_rooms (leb (length (fitter_tree licences paired l First)) (room First)) (leb (length (fitter_tree licences paired l Second)) (room Second)) refl refl
    where
      by_rooms : (b c : Bool) → leb (length (fitter_tree licences paired l First)) (room First) ≡ b → leb (length (fitter_tree licences paired l Second)) (room Second) ≡ c
          → (b && c) ≡ false → (fitter : Fitter) × (room fitter < length (fitter_tree licences paired l fitter))
      by_rooms true true f g e = let z : ◌≡◌ {A = ℕ} 0 1 = cc in absurd (omega arith)
      by_rooms true false f g e = (Second, leb-false _ _ g)
      by_rooms false c f g e = (First, leb-false _ _ f)

  both_fit_when : length (fitter_tree licences paired l First) ≤ room First → length (fitter_tree licences paired l Second) ≤ room Second → both_fit licences paired room l ≡ true
  both_fit_when h k = rw (le-leb (length (fitter_tree licences paired l First)) (room First) h, le-leb (length (fitter_tree licences paired l Second)) (room Second) k)

-- ---- what the code leaves

pub team_sized : {n first second : ℕ} (licences : List ℕ) (paired : Bool) (l : List (Entry Condition)) → length l ≡ n
    → first ≡ length (fitter_tree licences paired l First) → second ≡ length (fitter_tree licences paired l Second)
    → ◌≡◌ {A = Checked TeamSize} (accepted (record { entries = n; first = first; second = second; paired = paired })) (accepted (team_size licences paired l))
team_sized licences paired l e f g = rw (← e, f, g)

module _ (licences : List ℕ) (paired : Bool) (l : List (Entry Condition)) (lent : Fitter → List ℕ) (told : Checked TeamSize) where
  abbrev team : Finish TeamSize (Fitter → List ℕ)
  team = two_trees licences paired (λ fitter. length (lent fitter))

  pub team_short : (fitter : Fitter) → length (lent fitter) < length (fitter_tree licences paired l fitter) → told ≡ refused 12 (length l)
      → WritesTrees (BothAtFront lent lent) (with_trees team paired l) told
  team_short fitter h a =
      trees_short team paired (BothAtFront lent lent) told l (one_short licences paired l (λ fitter. length (lent fitter)) fitter h) (λ fitter. refl) a

  pub team_fits : (first second : List ℕ) → length (fitter_tree licences paired l First) ≤ length (lent First)
      → length (fitter_tree licences paired l Second) ≤ length (lent Second) → told ≡ accepted (team_size licences paired l)
      → AtFront (lent First) first (fitter_tree licences paired l First) → AtFront (lent Second) second (fitter_tree licences paired l Second)
      → WritesTrees (BothAtFront lent (of_each first second)) (with_trees team paired l) told
  team_fits first second h k a f g =
      trees_fit team paired (BothAtFront lent (of_each first second)) told l (both_fit_when licences paired l (λ fitter. length (lent fitter)) h k) each a
    where
      each : BothAtFront lent (of_each first second) (fitter_tree licences paired l)
      each First = f
      each Second = g

-- the trees of the columns' conditions and actions are those of the list
trees_held : (licences : List ℕ) (paired : Bool) (space : Fitter → ℕ) (after : Columns) (n : ℕ) (lent trees : Fitter → List ℕ) (told : Checked TeamSize)
    → WritesTrees (BothAtFront lent trees) (with_trees (two_trees licences paired space) paired (drawn after n)) told
    → WritesTrees (BothAtFront lent trees) (with_trees (two_trees licences paired space) paired (held (used paired after) n)) told
trees_held licences paired space after n lent trees told W = by_room (both_fit licences paired space (drawn after n)) refl W
  where
    F : Finish TeamSize (Fitter → List ℕ)
    F = two_trees licences paired space

    list : List (Entry Condition)
    list = held (used paired after) n

    same : (fitter : Fitter) → fitter_tree licences paired (drawn after n) fitter ≡ fitter_tree licences paired list fitter
    same fitter = drawn_tree (owns licences fitter) paired after n

    fits : both_fit licences paired space (drawn after n) ≡ both_fit licences paired space list
    fits = let first = same First in let second = same Second in rw (first, second)

    size : team_size licences paired (drawn after n) ≡ team_size licences paired list
    size = let first = same First in let second = same Second in rw (drawn_length paired after n, first, second)

    by_room : (b : Bool) → both_fit licences paired space (drawn after n) ≡ b
        → WritesTrees (BothAtFront lent trees) (if b then list_and_trees F paired (drawn after n) else list_alone F paired 12 (length (drawn after n)) (drawn after n)) told
        → WritesTrees (BothAtFront lent trees) (with_trees F paired list) told
    by_room true e W =
        trees_fit F paired (BothAtFront lent trees) told list (sym fits ∙ e)
        (λ fitter. W.tree_written fitter ∙ ap (λ (b : List ℕ). b ++ drop (length b) (lent fitter)) (same fitter)) (W.answer ∙ ap accepted size)
    by_room false e W =
        trees_short F paired (BothAtFront lent trees) told list (sym fits ∙ e) W.tree_written (W.answer ∙ ap (refused 12) (drawn_length paired after n))

module _ (licences : List ℕ) {t : Table} {start : ℕ} {before after : Columns} {ended : Checked ℕ} (L : WritesList (Covers start) t before after ended)
    (lent : Fitter → List ℕ) (told : Checked TeamSize) where
  abbrev space : Fitter → ℕ
  space fitter = length (lent fitter)

  -- 10 or 11: no tree is written
  pub team_unended : (n p : ℕ) → ended ≡ refused n p → told ≡ refused n p → WritesTeam (team_plan licences t start (room before) space) before after lent lent told
  unfolding team_plan
  team_unended n p e a =
      lists_refused (two_trees licences (pairs t) space) (pairs t) (BothAtFront lent lent) told (Covers start) (table_list (Covers start) t (room before)) before after
      L.tables n p (list_refused L n p e) (λ fitter. refl) a

  -- the list ended as was asked, and the trees of its columns are written where both fit
  pub team_built : (n : ℕ) → ended ≡ accepted n → (trees : Fitter → List ℕ)
      → WritesTrees (BothAtFront lent trees) (with_trees (two_trees licences (pairs t) space) (pairs t) (drawn after n)) told
      → WritesTeam (team_plan licences t start (room before) space) before after lent trees told
  unfolding team_plan
  team_built n e trees W =
      lists_finished (two_trees licences (pairs t) space) (pairs t) (BothAtFront lent trees) told (Covers start) (table_list (Covers start) t (room before)) before after
      L.tables (held (used (pairs t) after) n) (L.list_held n e) (trees_held licences (pairs t) space after n lent trees told W)

-- nothing is written
pub team_nothing : (n p : ℕ) (before : Columns) (lent : Fitter → List ℕ) (told : Checked TeamSize) → told ≡ refused n p
    → WritesTeam (no_plan_of no_trees n p) before before lent lent told
team_nothing n p before lent told a = lists_untouched (BothAtFront lent lent) no_trees (λ fitter. refl) n p before told a
