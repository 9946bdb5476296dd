-- The job card: document 01, "Job card", with stops 17 and 18 of "Stops, in checking order", whose place is 0. What its calls check first stands
-- in `card_calls`.
-- Definitions only.
use Rattle.std.specs.Prelude.{ℕ, ◌+◌, ◌*◌, ◌≤◌, ◌≡◌, Bool, ◌||◌, eqb, ltb, ℤ, pos, ◌-ℤ◌, if◌then◌else◌, Result, Err}
use Rattle.refusal.specs.declared.Refusal.{Refusal}
use Rattle.refusal.specs.Checked.{Checked, accepted, refused, and_then, answer_of}
use Rattle.reading.specs.declared.Reading.{Reading}
use Rattle.conditions.specs.OnReading.{applicable, finished}
use Rattle.job.specs.declared.Job.{Job}
use Rattle.job.specs.Job.{action_of}
use Rattle.job.specs.Validation.{max_seconds}
use Rattle.minutes.specs.Minutes.{minutes_of}
use Rattle.card.specs.declared.Card.{Card}

-- ---- a card and its masks

abbrev pub masks_of : Card → Reading
masks_of c = record { held = c.held; unread = c.unread }

-- "A new one has zero counts. Opening it takes a reading"
abbrev pub new_card : Reading → Card
new_card r = record { held = r.held; unread = r.unread; reports = 0; taken = 0; planned = 0 }

-- "a later outside reading replaces both masks": the count and the sums stay
abbrev pub with_masks : Reading → Card → Card
with_masks r c = record { held = r.held; unread = r.unread; reports = c.reports; taken = c.taken; planned = c.planned }

-- ---- a reported job

-- "the effect is applied, added and deleted facts become read, the count rises by 1, and taken and planned grow by the reported and listed seconds"
unfoldable pub with_report : Job → ℕ → Card → Card
with_report j taken c =
    record {
      held = (finished (action_of j) (masks_of c)).held;
      unread = (finished (action_of j) (masks_of c)).unread;
      reports = c.reports + 1;
      taken = c.taken + taken;
      planned = c.planned + j.seconds;
    }

abbrev pub max_reports : ℕ
max_reports = 65535

-- what one report adds to each sum at most: reported seconds have 16 bits, and a listed job is not longer than a table allows
abbrev pub max_taken : ℕ
max_taken = 65535

abbrev pub max_listed : ℕ
max_listed = max_seconds

-- 18: "The card has 65,535 reports, or one of its sums exceeds 65,535 × its count."; document 02, W3: "Number 18's limit for the planned sum
-- becomes 5,400 × count, and for taken seconds it remains as it was."
unfoldable pub exhausted : Card → Bool
exhausted c = eqb c.reports max_reports || (ltb (max_taken * c.reports) c.taken || ltb (max_listed * c.reports) c.planned)

-- neither sum exceeds its limit: 18 then arises from the count alone
pub record Bounded (c : Card) : Type 0 where
  pub taken_bounded : c.taken ≤ max_taken * c.reports
  pub planned_bounded : c.planned ≤ max_listed * c.reports

-- 17: "A need of the reported job is unread or absent."; document 02, W10: "One whose absent fact is held or unread is not applicable; its report is
-- 17". Then 18, of the card before the report.
unfoldable pub booked : Job → ℕ → Card → Checked Card
booked j taken c =
    if applicable (action_of j) (masks_of c) then (if exhausted c then refused 18 0 else accepted (with_report j taken c)) else refused 17 0

-- "The lateness is taken minus planned, with its sign, in whole minutes .. It is read off every card, sound or not."
unfoldable pub lateness_of : Card → ℤ
lateness_of c = minutes_of (pos c.taken -ℤ pos c.planned)

-- ---- what a call on a card promises

-- the answer that is due
abbrev pub answer_due : Checked Card → Checked (Unit {0})
answer_due due = and_then due λ c. accepted tt

-- the card after a call: "Every other refused call, an opening, report or reading included, writes to nothing that is lent, and the card stays the same."
abbrev pub card_after : Card → Checked Card → Card
card_after before (accepted after) = after
card_after before (refused n p) = before

-- of the card before and after it, and of its answer; `due` is the definition's
pub record Updated (due : Checked Card) (before after : Card) (answer : Result (Unit {0}) Refusal) : Type 0 where
  pub answers : answer_of answer ≡ answer_due due
  pub leaves : after ≡ card_after before due
  pub keeps : (x : Refusal) → answer ≡ Err x → after ≡ before
