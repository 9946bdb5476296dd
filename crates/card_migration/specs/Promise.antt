-- What is promised of a card that goes on under a new table: document 02, W14.
-- Definitions only.
use Rattle.std.specs.Prelude.{ℕ, ◌^◌, ◌<◌, ◌≡◌, ◌⊎◌, List, [], ◌∷◌, Ok, Result}
use Rattle.refusal.specs.declared.Refusal.{Refusal}
use Rattle.refusal.specs.Checked.{Checked, accepted, refused, and_then}
use Rattle.numbers.specs.Numbers.{AreBytes}
use Rattle.reading.specs.declared.Reading.{Reading}
use Rattle.tree.specs.Tick.{Verdict}
use Rattle.tree.specs.TickBytes.{tick_bytes}
use Rattle.card.specs.declared.Card.{Card}
use Rattle.card.specs.Card.{masks_of, new_card, card_after, Updated}
use Rattle.card_calls.specs.declared.JobReport.{JobReport}
use Rattle.card_calls.specs.Calls.{opened, outside_read, reported}
use Rattle.card_migration.specs.Migration.{migrated}

-- ---- the calls on a card

-- what a call asks, under a table: every call that takes a card, but for the lateness, which is of the sums
pub data Asks : Type 0 where
  to_open : Reading → Asks
  to_read : Reading → Asks
  -- "A report has a job and its taken seconds (16 bits)"
  to_report : (x : JobReport) → x.taken < 2 ^ 16 → Asks
  to_tick : (tree : List ℕ) → Asks
  -- to a further table
  to_migrate : (new map : List ℕ) → Asks

pub record Call : Type 0 where
  pub table : List ℕ
  pub is_bytes : AreBytes table
  pub asks : Asks

-- what it tells, "counts and sums apart": a tick's verdict, or that it is done
pub data Told : Type 0 where
  verdict : Verdict → Told
  done : Told

-- what it tells and the card after it, which a tick leaves as it is; or the refusal
abbrev pub called : List ℕ → Asks → Card → Checked (Told × Card)
called table (to_open r) c = and_then (opened table r) λ d. accepted (done, d)
called table (to_read r) c = and_then (outside_read table r c) λ d. accepted (done, d)
called table (to_report x h) c = and_then (reported table x c) λ d. accepted (done, d)
called table (to_tick tree) c = and_then (tick_bytes table tree (masks_of c)) λ v. accepted (verdict v, c)
called table (to_migrate new map) c = and_then (migrated table new map c) λ d. accepted (done, d)

abbrev pub answer_to : Call → Card → Checked Told
answer_to x c = and_then (called x.table x.asks c) λ t. accepted t.0

abbrev pub after_call : Call → Card → Card
after_call x c = card_after c (and_then (called x.table x.asks c) λ t. accepted t.1)

-- ---- "From then on, until number 18 arises, ticks and reports answer as for a card opened on that reading under the new table and given the same
-- calls, counts and sums apart."

-- Two cards are given the same calls: each answers the one as it answers the other, until the first card's answer is 18, and their masks are the same.
abbrev pub Alike : List Call → Card → Card → Type 0
Alike [] c d = masks_of c ≡ masks_of d
Alike (x ∷ calls) c d = (answer_to x c ≡ refused 18 0) ⊎ ((answer_to x c ≡ answer_to x d) × Alike calls (after_call x c) (after_call x d))

-- a card goes on under a table: one that is opened on its reading answers every list of calls as it does
pub record GoesOn (table : List ℕ) (c : Card) : Type 0 where
  pub fresh : opened table (masks_of c) ≡ accepted (new_card (masks_of c))
  pub alike : (calls : List Call) → Alike calls c (new_card (masks_of c))

-- of the card before and after it is migrated, and of the answer
pub record Migrates (old new map : List ℕ) (before after : Card) (answer : (Result (Unit {0}) Refusal)) : Type 0 where
  pub updates : Updated (migrated old new map before) before after answer
  pub goes_on : answer ≡ (Ok tt) → GoesOn new after
