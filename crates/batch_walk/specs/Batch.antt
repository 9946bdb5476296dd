-- A row of vehicles, what a list's tree answers to each, and how far they read the list: document 02, W4, "A yard of vehicles in one walk".
-- Definitions only.
use Rattle.std.specs.Prelude.{ℕ, suc, max, ◌≡◌, Bool, List, [], ◌∷◌, map, get_or}
use Rattle.base.specs.Lists.{prefix, over}
use Rattle.reading.specs.declared.Reading.{Reading}
use Rattle.conditions.specs.declared.Evaluation.TheVariants.{Met, Missed, Open}
use Rattle.conditions.specs.declared.Condition.{Condition}
use Rattle.conditions.specs.OnReading.{evaluated}
use Rattle.planning.specs.Expansion.{Entry}
use Rattle.tree.specs.declared.Status.{Status}
use Rattle.tree.specs.Tick.{tick_tree}
use Rattle.tree.specs.StatusNumbers.{status_number, status_value}
use Rattle.flat.specs.TreeBytes.{everyone}
use Rattle.flat.specs.FlatTree.{tree_of}
use Rattle.batch_walk.specs.declared.Readings.{Readings}

-- ---- vehicles: "rows of held and unread masks"

abbrev pub reading_at : (held unread : List ℕ) → ℕ → Reading
reading_at held unread v = record { held = get_or held v 0; unread = get_or unread v 0 }

-- the first n of them
abbrev pub readings_of : (held unread : List ℕ) → ℕ → List Reading
readings_of held unread n = prefix (reading_at held unread) n

-- the same of rows as the code holds them
abbrev pub readings_in : Readings → ℕ → List Reading
readings_in lent n = readings_of lent.held.now lent.unread.now n

-- ---- answers: a row of statuses, and one of the job or mask that comes with each

pub record AnswerRows : Type 0 where
  pub statuses : List ℕ
  pub values : List ℕ

abbrev pub answer_rows : List ℕ → List ℕ → AnswerRows
answer_rows statuses values = record { statuses = statuses; values = values }

-- rows with the answers written to their fronts: "nothing past the results due is written"
abbrev pub answering : List Status → AnswerRows → AnswerRows
answering l t = answer_rows (over status_number l t.statuses) (over status_value l t.values)

-- ---- entries read

-- of one vehicle: "one more than the .. entry at which" it "stopped", or "all if" it "fails every entry"
unfoldable pub read_by : Reading → List (Entry Condition) → ℕ
read_by r [] = 0
read_by r (x ∷ l) =
    elim (evaluated r x.condition) [
      | Met ↦ 1
      | Missed ↦ suc (read_by r l)
      | Open m ↦ 1
    ]

-- of all: "0 for no vehicles", else as many as the vehicle that gets furthest
unfoldable pub entries_read : List (Entry Condition) → List Reading → ℕ
entries_read l [] = 0
entries_read l (r ∷ rs) = max (read_by r l) (entries_read l rs)

-- ---- the walk

pub record Walks (l : List (Entry Condition)) (rs : List Reading) (before after : AnswerRows) (read : ℕ) : Type 0 where
  -- "Each answer is what a single tick gives on the tree of that list", whether its conditions are written with one mask or with both
  pub answers : (paired : Bool) → after ≡ answering (map (λ r. (tick_tree r (tree_of everyone paired l)).answer) rs) before
  -- "The answer also counts the entries read, each at most once"
  pub count : read ≡ entries_read l rs
