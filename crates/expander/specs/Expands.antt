-- What an expansion answers and leaves in the lent list tables, by the definition of the plan: document 01, "Expansion"; document 02, W10.
-- Definitions only.
use Rattle.std.specs.Prelude.{◌≡◌, Bool, true, false, not, List, [], ℕ, ◌^◌, ◌<◌, min, T, length, get_or, if◌then◌else◌}
use Rattle.std.specs.Int.Bits.{bit_and}
pub use Rattle.base.specs.Lists.{over}
use Rattle.refusal.specs.Checked.{Checked, accepted, refused, and_then}
use Rattle.conditions.specs.declared.Action.{Action}
use Rattle.conditions.specs.declared.Condition.{Condition}
use Rattle.conditions.specs.Condition.{satisfied, action_at}
use Rattle.planning.specs.Expansion.{Entry, Outcome, exhausted, covered, full, entries}
use Rattle.planning.specs.Columns.{max_entries, entries_of}
use Rattle.planning.specs.Facts.{Actions, fact_plan}
use Rattle.expander.specs.declared.Expanded.{Expanded}
use Rattle.expander.specs.declared.Expanded.TheVariants as X
use Rattle.expander.specs.declared.Until.{Until}
use Rattle.expander.specs.declared.Until.TheVariants as U

-- ---- the actions, in a list

-- what is read past the last action
abbrev pub no_action : Action
no_action = record { needs = 0; absent = 0; adds = 0; deletes = 0 }

-- "0 to 128 JOBs numbered from 0": past 128 there are none
abbrev pub actions_in : List Action → Actions
actions_in actions = record { count = min (length actions) 128; action = λ a. get_or actions a no_action }

-- so many second masks, of which a list that is not paired has none
abbrev pub if_paired : Bool → ℕ → ℕ
if_paired paired n = if paired then n else 0

-- an action as a list of conditions takes it: where the list is not paired, none of the facts that the action needs absent count
abbrev pub action_for : Bool → Action → Action
action_for paired a = record { needs = a.needs; absent = if_paired paired a.absent; adds = a.adds; deletes = a.deletes }

-- a mask that leaves of what is needed absent what counts: all of it, or nothing
abbrev pub Asks : Bool → ℕ → Type 0
Asks paired asked = (a : ℕ) → a < 2 ^ 64 → bit_and a asked ≡ if_paired paired a

-- the actions of a list, as it takes them
abbrev pub actions_for : Bool → List Action → Actions
actions_for paired actions = record { count = min (length actions) 128; action = λ a. action_for paired (get_or actions a no_action) }

-- where the list is not paired, no action needs a fact absent
abbrev pub Unasked : Bool → Actions → Type 0
Unasked paired A = T (not paired) → (a : ℕ) → a < A.count → (A.action a).absent ≡ 0

-- ---- the actions, in four rows of masks

-- how many, by the lengths of the rows: the shortest counts, and "0 to 128 JOBs numbered from 0"; past the row of absent facts there are none
unfoldable pub count_of : ℕ → ℕ → ℕ → ℕ
count_of needs adds deletes = min (min (min needs adds) deletes) 128

abbrev pub actions_of : List ℕ → List ℕ → List ℕ → List ℕ → Actions
actions_of needs absent adds deletes =
    record { count = count_of (length needs) (length adds) (length deletes); action = action_at needs absent adds deletes }

-- ---- the lent list tables, as the five columns of a list of entries
-- `paired` says that actions may need facts absent, though none of them has to: "once the table has a 0x21 .. its list takes a further lent table for
-- the second masks".

pub record Columns : Type 0 where
  pub conditions : List ℕ
  pub absences : List ℕ
  pub actions : List ℕ
  pub parents : List ℕ
  pub depths : List ℕ

abbrev pub columns : List ℕ → List ℕ → List ℕ → List ℕ → List ℕ → Columns
columns conditions absences actions parents depths =
    record { conditions = conditions; absences = absences; actions = actions; parents = parents; depths = depths }

-- "Capacity is the shortest of the four lent list tables, and at most 4,096"; of a paired list it covers the further table, and is "at most 2,978"
unfoldable pub capacity_of : Bool → ℕ → ℕ → ℕ → ℕ → ℕ → ℕ
capacity_of false conditions absences actions parents depths = min (min (min conditions actions) (min parents depths)) (max_entries false)
capacity_of true conditions absences actions parents depths = min (min (min (min conditions actions) (min parents depths)) absences) (max_entries true)

-- the capacity of the tables
abbrev pub room : Columns → Bool → ℕ
room t paired = capacity_of paired (length t.conditions) (length t.absences) (length t.actions) (length t.parents) (length t.depths)

-- the first n entries that the tables hold
abbrev pub held : Columns → ℕ → List (Entry Condition)
held t n = entries_of t.conditions t.absences t.actions t.parents t.depths n

-- the tables with the list written to their fronts: "the list tables hold the entries stored, all else untouched"; the further one only of a
-- paired list
abbrev pub written : Bool → List (Entry Condition) → Columns → Columns
written paired l t =
    columns (over (λ x. x.condition.present) l t.conditions) (if paired then over (λ x. x.condition.absent) l t.absences else t.absences)
    (over (λ x. x.action) l t.actions) (over (λ x. x.parent) l t.parents) (over (λ x. x.depth) l t.depths)

-- where the list is not paired, no second masks are lent
abbrev pub Unlent : Bool → List ℕ → Type 0
Unlent paired absences = T (not paired) → absences ≡ []

-- ---- what ends the list

-- "The list stops at the first entry, 0 included, whose condition is part of the start", which is that the start meets it; or, document 02, W2, it "takes no start and stops only
-- when all entries are expanded or number 10 arises"
abbrev pub ended_by : Until → Condition → Bool
ended_by (U.Covers start) = λ c. satisfied c start
ended_by U.Never = λ c. false

-- the plan of the actions for a goal, as far as the tables have room
abbrev pub plan_in : Bool → Columns → Actions → Condition → Until → Outcome Condition
plan_in paired t A goal until = fact_plan A goal (room t paired) (ended_by until)

-- ---- the answer

-- the papers' numbers. 10: "List full: a condition to be stored would exceed the capacity." 11: "No way: every entry is expanded and none is part
-- of the start"; without a start "Number 11 does not arise". "The place is .. the entries stored for 10 to 12."
abbrev pub expanded_of : Until → Expanded → Checked ℕ
expanded_of until (X.Full n) = refused 10 n
expanded_of (U.Covers start) (X.Exhausted n) = refused 11 n
expanded_of U.Never (X.Exhausted n) = accepted n
expanded_of until (X.Covered n) = accepted n

-- the same of an outcome: its list, where that is what was asked for
abbrev pub listed_by : Until → Outcome Condition → Checked (List (Entry Condition))
listed_by until (full l) = refused 10 (length l)
listed_by (U.Covers start) (exhausted l) = refused 11 (length l)
listed_by U.Never (exhausted l) = accepted l
listed_by until (covered l) = accepted l

-- what an answer says, of the entries that the tables then hold
abbrev pub outcome_of : Expanded → Columns → Outcome Condition
outcome_of (X.Exhausted n) t = exhausted (held t n)
outcome_of (X.Covered n) t = covered (held t n)
outcome_of (X.Full n) t = full (held t n)

-- The answer is the plan's, by its number and by its list, and the tables hold the entries stored.
pub record Expands (paired : Bool) (A : Actions) (goal : Condition) (until : Until) (before after : Columns) (r : Expanded) : Type 0 where
  pub answer : expanded_of until r ≡ and_then (listed_by until (plan_in paired before A goal until)) (λ l. accepted (length l))
  pub outcome : outcome_of r after ≡ plan_in paired before A goal until
  pub tables : after ≡ written paired (entries (plan_in paired before A goal until)) before
