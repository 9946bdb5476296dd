-- What every plan makes of a list: an answer, and trees where there is room for them: document 01, "Expansion", stops 10 to 12.
-- Definitions only.
use Rattle.std.specs.Prelude.{ℕ, ◌≡◌, Bool, false, List, [], length, if◌then◌else◌}
use Rattle.refusal.specs.Checked.{Checked, accepted, refused}
use Rattle.conditions.specs.declared.Condition.{Condition}
use Rattle.table.specs.Table.{Table}
use Rattle.planning.specs.Expansion.{Entry, Outcome, entries}
use Rattle.expander.specs.declared.Until.{Until}
use Rattle.expander.specs.Expands.{Columns, written, listed_by}

-- a plan: its answer, the entries that it stores, whether with both masks, and the trees that it writes; an accepted answer tells what the kind of plan
-- has to tell
pub record PlanOf (Told Trees : Type 0) : Type 0 where
  pub answer : Checked Told
  pub paired : Bool
  pub list : List (Entry Condition)
  pub tree : Trees

-- what a kind of plan makes of a list that ended as was asked: what it tells, its trees, whether they fit the lent ones, and what no tree is
pub record Finish (Told Trees : Type 0) : Type 0 where
  pub tell : List (Entry Condition) → Told
  pub trees : List (Entry Condition) → Trees
  pub fit : List (Entry Condition) → Bool
  pub none : Trees

module _ {Told Trees : Type 0} where
  -- nothing is stored, nothing written: "Every other refused call .. writes to nothing that is lent"
  abbrev pub no_plan_of : Trees → ℕ → ℕ → PlanOf Told Trees
  no_plan_of none number place = record { answer = refused number place; paired = false; list = []; tree = none }

  -- the checks before a plan first
  abbrev pub after_checks_of : Trees → Checked Table → (Table → PlanOf Told Trees) → PlanOf Told Trees
  after_checks_of none (accepted t) plan = plan t
  after_checks_of none (refused number place) plan = no_plan_of none number place

  module _ (F : Finish Told Trees) (paired : Bool) where
    -- a list that is stored, with no tree
    abbrev pub list_alone : ℕ → ℕ → List (Entry Condition) → PlanOf Told Trees
    list_alone number place l = record { answer = refused number place; paired = paired; list = l; tree = F.none }

    abbrev pub list_and_trees : List (Entry Condition) → PlanOf Told Trees
    list_and_trees l = record { answer = accepted (F.tell l); paired = paired; list = l; tree = F.trees l }

    -- 12: "The lent tree is shorter than" the list's tree; "The place is .. the entries stored for 10 to 12."
    abbrev pub with_trees : List (Entry Condition) → PlanOf Told Trees
    with_trees l = if F.fit l then list_and_trees l else list_alone 12 (length l) l

    -- a list that ended as was asked, or 10 or 11
    abbrev pub finished : List (Entry Condition) → Checked (List (Entry Condition)) → PlanOf Told Trees
    finished l (accepted m) = with_trees m
    finished l (refused number place) = list_alone number place l

    abbrev pub planned : Until → Outcome Condition → PlanOf Told Trees
    planned until o = finished (entries o) (listed_by until o)

  -- ---- what a plan leaves in every lent slice; `Wrote` says what of its trees

  -- The answer is the plan's, and its trees are written.
  pub record WritesTrees (Wrote : Trees → Type 0) (P : PlanOf Told Trees) (told : Checked Told) : Type 0 where
    pub answer : told ≡ P.answer
    pub tree_written : Wrote P.tree

  -- The list stands at the front of the list tables; "all else untouched".
  pub record WritesLists (Wrote : Trees → Type 0) (P : PlanOf Told Trees) (before after : Columns) (told : Checked Told) : Type 0 where
    pub tables : after ≡ written P.paired P.list before
    pub answer_and_tree : WritesTrees Wrote P told
