-- Plans, of whatever kind: the list of a table's goal and its tree, and what of them stands in every lent slice: document 01, "Expansion", stops 10
-- to 12; document 02, W10.
-- Definitions only.
use Rattle.std.specs.Prelude.{ℕ, ◌≤◌, ◌≡◌, Bool, List, [], ◌++◌, leb, length, get_or, take, drop, if◌then◌else◌, Err, Ok, Result}
use Rattle.refusal.specs.Checked.{Checked, accepted, refused, refused_by, and_then}
use Rattle.conditions.specs.declared.Condition.{Condition}
use Rattle.conditions.specs.Condition.{plain}
use Rattle.job.specs.declared.Job.{Job}
use Rattle.job.specs.Job.{no_job, action_of}
use Rattle.table.specs.Table.{Table, has_pair}
use Rattle.planning.specs.Domain.{Domain}
use Rattle.planning.specs.Expansion.{Entry, Outcome, entries}
use Rattle.planning.specs.Facts.{Actions, unit_domain, fact_plan}
use Rattle.expander.specs.declared.Until.{Until}
use Rattle.expander.specs.Expands.{Columns, columns, room, held, written, if_paired, ended_by, listed_by}
use Rattle.flat.specs.TreeBytes.{tree_bytes}
use Rattle.builder.specs.Finish.{PlanOf, Finish, no_plan_of, after_checks_of, with_trees, finished, planned, WritesTrees, WritesLists}
use Rattle.builder.specs.declared.Size.{Size}

-- ---- what is planned: the jobs of a table are the actions, by their numbers

abbrev pub job_of : Table → ℕ → Job
job_of t a = get_or t.jobs a no_job

abbrev pub table_actions : Table → Actions
table_actions t = record { count = length t.jobs; action = λ a. action_of (job_of t a) }

-- states are held masks, each job counts as one
abbrev pub table_domain : Table → Domain ℕ Condition ℕ
table_domain t = unit_domain (table_actions t) (plain t.goal)

-- "once the table has a 0x21": its conditions want facts absent, and its tree and list hold both masks
abbrev pub pairs : Table → Bool
pairs t = has_pair t.jobs

-- ---- its list

-- the expansion of a table's goal, up to what ends it, with room for so many entries, by whether the list is paired
abbrev pub table_list : Until → Table → (Bool → ℕ) → Outcome Condition
table_list until t capacity = fact_plan (table_actions t) (plain t.goal) (capacity (pairs t)) (ended_by until)

-- the list tables, as far as a list makes use of them: the further one only if it is paired
abbrev pub used : (paired : Bool) → Columns → Columns
used paired t =
    columns t.conditions (take (if_paired paired (length t.absences)) t.absences) t.actions t.parents t.depths

-- a list of n entries that stands in the tables
pub record Stands (n : ℕ) (t : Columns) : Type 0 where
  pub some : 1 ≤ n
  pub few : n ≤ 4096
  pub in_conditions : n ≤ length t.conditions
  pub in_actions : n ≤ length t.actions

-- The tables hold the entries stored, and the answer is how many, where the list ended as was asked; then what they hold is the list.
pub record WritesList (until : Until) (t : Table) (before after : Columns) (told : Checked ℕ) : Type 0 where
  pub tables : after ≡ written (pairs t) (entries (table_list until t (room before))) before
  pub answer : told ≡ and_then (listed_by until (table_list until t (room before))) (λ l. accepted (length l))
  pub list_stands : (n : ℕ) → told ≡ accepted n → Stands n after
  pub list_held : (n : ℕ) → told ≡ accepted n → listed_by until (table_list until t (room before)) ≡ accepted (held (used (pairs t) after) n)

-- ---- a plan with one tree

abbrev pub Plan : Type 0 → Type 0
Plan Told = PlanOf Told (List ℕ)

module _ {Told : Type 0} where
  abbrev pub no_plan : ℕ → ℕ → Plan Told
  no_plan = no_plan_of []

  -- what is made of its list, where the lent tree has room for so many bytes
  abbrev pub one_tree : (paired : Bool) → ℕ → (List (Entry Condition) → Told) → Finish Told (List ℕ)
  one_tree paired room tell = record { tell = tell; trees = tree_bytes paired; fit = λ l. leb (length (tree_bytes paired l)) room; none = [] }

  module _ (paired : Bool) where
    abbrev pub list_only : ℕ → ℕ → List (Entry Condition) → Plan Told
    list_only number place l = record { answer = refused number place; paired = paired; list = l; tree = [] }

    abbrev pub list_and_tree : Told → List (Entry Condition) → Plan Told
    list_and_tree told l = record { answer = accepted told; paired = paired; list = l; tree = tree_bytes paired l }

    abbrev pub with_tree : ℕ → Told → List (Entry Condition) → Plan Told
    with_tree room told l = with_trees (one_tree paired room (λ m. told)) paired l

    abbrev pub finished_by : ℕ → (List (Entry Condition) → Told) → List (Entry Condition) → Checked (List (Entry Condition)) → Plan Told
    finished_by room tell = finished (one_tree paired room tell) paired

    abbrev pub plan_by : Until → ℕ → (List (Entry Condition) → Told) → Outcome Condition → Plan Told
    plan_by until room tell = planned (one_tree paired room tell) paired until

  -- the plan of a table that was read, with room for so many entries, by whether the list is paired, and so many bytes of a tree
  unfoldable pub table_plan : Until → Table → (Bool → ℕ) → ℕ → (List (Entry Condition) → Told) → Plan Told
  table_plan until t capacity room tell = plan_by (pairs t) until room tell (table_list until t capacity)

  abbrev pub after_checks : Checked Table → (Table → Plan Told) → Plan Told
  after_checks = after_checks_of []

-- what every list and its tree have to tell
abbrev pub size_of : Bool → List (Entry Condition) → Size
size_of paired l = record { entries = length l; bytes = length (tree_bytes paired l); paired = paired }

-- ---- what a plan leaves in every lent slice

-- the bytes stand at the front of what was lent
abbrev pub AtFront : (lent after bytes : List ℕ) → Type 0
AtFront lent after bytes = after ≡ bytes ++ drop (length bytes) lent

module _ {Told : Type 0} where
  abbrev pub WritesTree : Plan Told → (lent tree : List ℕ) → Checked Told → Type 0
  WritesTree P lent tree told = WritesTrees (AtFront lent tree) P told

  abbrev pub WritesPlan : Plan Told → (before after : Columns) → (lent tree : List ℕ) → Checked Told → Type 0
  WritesPlan P before after lent tree told = WritesLists (AtFront lent tree) P before after told
