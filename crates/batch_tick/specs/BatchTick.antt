-- The tick of a row of vehicles on a lent list, from bytes, and what it leaves in the lent rows: document 02, W4, "A yard of vehicles in one walk".
-- Definitions only.
use Rattle.std.specs.Prelude.{ℕ, min, ◌<◌, ◌≡◌, Bool, true, false, List, [], map, length, get_or, if◌then◌else◌}
use Rattle.refusal.specs.Checked.{Checked, accepted, refused, and_then, checked_each}
use Rattle.reading.specs.declared.Reading.{Reading}
use Rattle.conditions.specs.declared.Condition.{Condition}
use Rattle.table.specs.declared.Header.{Header}
use Rattle.table.specs.Table.{Table, has_pair}
use Rattle.table.specs.Read.{read_table}
use Rattle.planning.specs.Expansion.{Entry}
use Rattle.tree.specs.declared.Status.{Status}
use Rattle.tree.specs.declared.Status.TheVariants.{Failure}
use Rattle.tree.specs.Tick.{tick_tree}
use Rattle.tree.specs.TickBytes.{tick_bytes, answered, is_settled, Settled}
use Rattle.flat.specs.TreeBytes.{everyone, tree_bytes, tree_entries}
use Rattle.flat.specs.FlatTree.{tree_of}
use Rattle.batch_walk.specs.Batch.{reading_at, readings_of, AnswerRows, answering, entries_read}
use Rattle.batch_checks.specs.Checks.{checked_readings, checked_list}

-- ---- what is lent

-- "the list's conditions and jobs (as many entries as the shorter has)"; document 02, W10: once the table has a 0x21 "its list takes a further lent
-- table for the second masks, which the capacity covers (W4 too ..)"
unfoldable pub entries_lent : (paired : Bool) → (conditions absences actions : ℕ) → ℕ
entries_lent false conditions absences actions = min conditions actions
entries_lent true conditions absences actions = min (min conditions actions) absences

-- a table without a 0x21 has no second masks, whatever is lent for them
abbrev pub list_lent : (paired : Bool) → (conditions absences actions : List ℕ) → List (Entry Condition)
list_lent paired conditions absences actions =
    tree_entries conditions (if paired then absences else []) actions (entries_lent paired (length conditions) (length absences) (length actions))

-- "rows of held and unread masks, and gets a row of answers, as many as the shortest row has"
unfoldable pub vehicles_due : (held unread statuses values : ℕ) → ℕ
vehicles_due held unread statuses values = min (min held unread) (min statuses values)

-- ---- the call, of a table and of the readings due

pub record Lent : Type 0 where
  pub paired : Bool
  pub list : List (Entry Condition)

abbrev pub lent_to : Table → (conditions absences actions : List ℕ) → Lent
lent_to t conditions absences actions = record { paired = has_pair t.jobs; list = list_lent (has_pair t.jobs) conditions absences actions }

-- "the tree of that list"
abbrev pub tree_of_lent : Lent → List ℕ
tree_of_lent x = tree_bytes x.paired x.list

-- the answers, and how many entries were read
pub record BatchAnswer : Type 0 where
  pub statuses : List Status
  pub read : ℕ

module _ (table conditions absences actions : List ℕ) (rs : List Reading) where
  -- the table's own stops, then the readings (8), then the list (13, 15)
  unfoldable pub checked_batch : Checked Lent
  checked_batch =
      and_then (read_table table) λ t.
      and_then (checked_readings t.facts rs) λ _.
      let x = lent_to t conditions absences actions in
      and_then (checked_list x.paired t.facts (length t.jobs) x.list) λ _. accepted x

  -- "Each answer is what a single tick gives on the tree of that list. The answer also counts the entries read".
  unfoldable pub batch_ticked : Checked BatchAnswer
  batch_ticked =
      and_then checked_batch λ x.
      and_then (checked_each (λ v r. answered (tick_bytes table (tree_of_lent x) r)) 0 rs) λ statuses.
      accepted (record { statuses = statuses; read = entries_read x.list rs })

-- the same under a table that was read, with what its header tells of it, by the definition of the tick on the tree
unfoldable pub batch_under : Header → List (Entry Condition) → List Reading → Checked BatchAnswer
batch_under header l rs =
    and_then (checked_readings header.facts rs) λ _.
    and_then (checked_list header.paired header.facts header.jobs l) λ _.
    accepted (record { statuses = map (λ r. (tick_tree r (tree_of everyone header.paired l)).answer) rs; read = entries_read l rs })

-- ---- what the call answers, and leaves in the lent rows

-- the answers are written; "Every other refused call .. writes to nothing that is lent"
abbrev pub left_by : Checked BatchAnswer → AnswerRows → AnswerRows
left_by (accepted b) t = answering b.statuses t
left_by (refused number place) t = t

pub record WritesAnswers (batch : Checked BatchAnswer) (before after : AnswerRows) (told : Checked ℕ) : Type 0 where
  pub answer : told ≡ (and_then batch λ b. accepted b.read)
  pub written : after ≡ left_by batch before

-- ---- the promise

-- An answer is that of a single tick, and but for Unsettled it is settled.
pub record SingleTick (table tree : List ℕ) (r : Reading) (a : Status) : Type 0 where
  pub same : answered (tick_bytes table tree r) ≡ accepted a
  pub settled : is_settled a ≡ true → Settled table tree r a

module _ (table conditions absences actions held unread : List ℕ) where
  pub record TicksVehicles (n : ℕ) (before after : AnswerRows) (told : Checked ℕ) : Type 0 where
    pub writes : WritesAnswers (batch_ticked table conditions absences actions (readings_of held unread n)) before after told
    -- Where nothing that is lent is to be refused no tick is, and each vehicle is answered.
    pub ticked : (x : Lent) → checked_batch table conditions absences actions (readings_of held unread n) ≡ accepted x
        → (b : BatchAnswer) × (batch_ticked table conditions absences actions (readings_of held unread n) ≡ accepted b)
        × ((v : ℕ) → v < n → SingleTick table (tree_of_lent x) (reading_at held unread v) (get_or b.statuses v Failure))

  -- for as many vehicles as the shortest row has
  abbrev pub TicksAll : (before after : AnswerRows) (told : Checked ℕ) → Type 0
  TicksAll before after told = TicksVehicles (vehicles_due (length held) (length unread) (length before.statuses) (length before.values)) before after told
