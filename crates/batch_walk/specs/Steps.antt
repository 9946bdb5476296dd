-- The walk, entry by entry: what one entry changes in the answers so far, of which Failure says that the vehicle goes on.
-- Definitions only.
use Rattle.std.specs.Prelude.{ℕ, zero, suc, ◌≤◌, ◌<◌, ◌≡◌, Bool, true, false, not, ◌&&◌, List, eqb, get_or, set, if◌then◌else◌, Option, Some, None}
use Rattle.base.specs.Lists.{overlay, sum}
use Rattle.masks.specs.Sets.{subset, union}
use Rattle.reading.specs.declared.Reading.{Reading}
use Rattle.conditions.specs.declared.Evaluation.{Evaluation}
use Rattle.conditions.specs.declared.Evaluation.TheVariants.{Met, Missed, Open}
use Rattle.conditions.specs.declared.Condition.{Condition}
use Rattle.conditions.specs.Condition.{condition_at}
use Rattle.conditions.specs.OnReading.{evaluated}
use Rattle.tree.specs.declared.Status.{Status}
use Rattle.tree.specs.declared.Status.TheVariants.{Success, Failure, Running, Unsettled, Waiting}
use Rattle.tree.specs.StatusNumbers.{status_number, status_value}
use Rattle.flat.specs.declared.Entries.{Entries}
use Rattle.batch_walk.specs.declared.Numbered.{Numbered}
use Rattle.batch_walk.specs.declared.Readings.{Readings}
use Rattle.batch_walk.specs.Batch.{reading_at, AnswerRows, answer_rows}

-- ---- answers in numbers

abbrev pub numbered : Status → Numbered
numbered a = record { status = status_number a; value = status_value a }

-- what stands for vehicle v
abbrev pub numbered_at : AnswerRows → ℕ → Numbered
numbered_at t v = record { status = get_or t.statuses v 0; value = get_or t.values v 0 }

abbrev pub set_numbered : AnswerRows → ℕ → Numbered → AnswerRows
set_numbered t v a = answer_rows (set t.statuses v a.status) (set t.values v a.value)

-- the answers of the first n vehicles
abbrev pub over_rows : (ℕ → Numbered) → ℕ → AnswerRows → AnswerRows
over_rows f n t = answer_rows (overlay (λ v. (f v).status) n t.statuses) (overlay (λ v. (f v).value) n t.values)

-- ---- one entry

-- what a tick answers where the condition of entry i is met: Success at entry 0, the goal, and else Running with its job
abbrev pub met_at : ℕ → ℕ → Status
met_at zero job = Success
met_at (suc i) job = Running job

abbrev pub is_going : Numbered → Bool
is_going a = eqb a.status (status_number Failure)

-- a vehicle that goes on takes the entry's answer; it still goes on if it missed the condition
abbrev pub asked : Numbered → Numbered → Evaluation → Numbered
asked met a Met = met
asked met a Missed = a
asked met a (Open mask) = numbered (Unsettled mask)

abbrev pub is_missed : Evaluation → Bool
is_missed Met = false
is_missed Missed = true
is_missed (Open mask) = false

abbrev pub one_if : Bool → ℕ
one_if true = 1
one_if false = 0

module _ (c : Condition) where
  -- does it stop there?
  unfoldable pub stops : Reading → Numbered → ℕ
  stops r a = if is_going a then one_if (not (is_missed (evaluated r c))) else 0

  module _ (met : Numbered) where
    -- one that stopped before keeps its answer
    unfoldable pub stepped : Reading → Numbered → Numbered
    stepped r a = if is_going a then asked met a (evaluated r c) else a

    -- one vehicle of the rows; the answer is 1 if it stops, and else 0
    pub record Asks (r : Reading) (v : ℕ) (before after : AnswerRows) (stopped : ℕ) : Type 0 where
      pub answer : after ≡ set_numbered before v (stepped r (numbered_at before v))
      pub count : stopped ≡ stops r (numbered_at before v)

    -- the first n vehicles; the answer is how many of them stop
    pub record AsksAll (held unread : List ℕ) (n : ℕ) (before after : AnswerRows) (stopped : ℕ) : Type 0 where
      pub answers : after ≡ over_rows (λ v. stepped (reading_at held unread v) (numbered_at before v)) n before
      pub count : stopped ≡ sum (λ v. stops (reading_at held unread v) (numbered_at before v)) n

-- the vehicle goes on, and is not read to lack a fact of an entry's first mask: only then the entry changes something for it
unfoldable pub may_meet : ℕ → Reading → ℕ → Bool
may_meet present r status = eqb status (status_number Failure) && subset present (union r.held r.unread)

-- from one vehicle on, none is such up to another
abbrev pub PassedOver : (present : ℕ) (held unread statuses : List ℕ) (first next : ℕ) → Type 0
PassedOver present held unread statuses first next =
    (v : ℕ) → first ≤ v → v < next → may_meet present (reading_at held unread v) (get_or statuses v 0) ≡ false

-- the next such vehicle, from one on, of the first n
abbrev pub NextAsked : (present : ℕ) (held unread statuses : List ℕ) (first n : ℕ) → Option ℕ → Type 0
NextAsked present held unread statuses first n (Some v) =
    (first ≤ v) × (v < n) × PassedOver present held unread statuses first v × (may_meet present (reading_at held unread v) (get_or statuses v 0) ≡ true)
NextAsked present held unread statuses first n None = PassedOver present held unread statuses first n

-- ---- what the walk keeps

module _ (c : Condition) (met : Numbered) (held unread : List ℕ) (t : AnswerRows) where
  -- what vehicle v comes to by an entry, and whether it stops there
  abbrev pub after_entry : ℕ → Numbered
  after_entry v = stepped c met (reading_at held unread v) (numbered_at t v)

  abbrev pub stops_at : ℕ → ℕ
  stops_at v = stops c (reading_at held unread v) (numbered_at t v)

-- ---- the entries so far

-- what an entry answers by itself
abbrev pub entry_status : Status → Evaluation → Status
entry_status met Met = met
entry_status met Missed = Failure
entry_status met (Open mask) = Unsettled mask

-- with an entry more, an answer stands unless it is Failure
abbrev pub next_status : Status → Evaluation → Status → Status
next_status met e Success = Success
next_status met e Failure = entry_status met e
next_status met e (Running job) = Running job
next_status met e (Unsettled mask) = Unsettled mask
next_status met e Waiting = Waiting

abbrev pub is_failure : Status → Bool
is_failure Success = false
is_failure Failure = true
is_failure (Running job) = false
is_failure (Unsettled mask) = false
is_failure Waiting = false

module _ (conditions absences actions : List ℕ) (r : Reading) where
  -- what the first n entries of a list answer: of none, Failure
  unfoldable pub answer_after : ℕ → Status
  answer_after zero = Failure
  answer_after (suc n) = next_status (met_at n (get_or actions n 0)) (evaluated r (condition_at conditions absences n)) (answer_after n)

-- the rows that a walk reads: a list's, and its vehicles'
pub record WalkedRows : Type 0 where
  pub conditions : List ℕ
  pub absences : List ℕ
  pub actions : List ℕ
  pub held : List ℕ
  pub unread : List ℕ

abbrev pub walked_rows : Entries → Readings → WalkedRows
walked_rows entries readings =
    record {
      conditions = entries.conditions.now;
      absences = entries.absences.now;
      actions = entries.actions.now;
      held = readings.held.now;
      unread = readings.unread.now;
    }

module _ (w : WalkedRows) where
  -- what the first n entries answer to vehicle v
  abbrev pub status_after : ℕ → ℕ → Status
  status_after n v = answer_after w.conditions w.absences w.actions (reading_at w.held w.unread v) n

  -- the rows of answers after n entries, of so many vehicles, and how many of them go on
  abbrev pub rows_after : ℕ → ℕ → AnswerRows → AnswerRows
  rows_after n vehicles t = over_rows (λ v. numbered (status_after n v)) vehicles t

  abbrev pub going_after : ℕ → ℕ → ℕ
  going_after n vehicles = sum (λ v. one_if (is_failure (status_after n v))) vehicles
