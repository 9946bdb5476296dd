-- What a tick answers, in document 01's terms, and what it promises: "Ticking" and "Stops, in checking order"; document 02, W12.
-- Definitions only.
use Rattle.std.specs.Prelude.{ℕ, ◌≡◌, true, List, Result}
use Rattle.refusal.specs.declared.Refusal.{Refusal}
use Rattle.refusal.specs.Checked.{answer_of, Checked, accepted, and_then}
use Rattle.reading.specs.declared.Reading.{Reading}
use Rattle.table.specs.declared.Header.{Header}
use Rattle.tree.specs.declared.Status.{Status}
use Rattle.tree.specs.Tree.{Tree}
use Rattle.tree.specs.Tick.{Verdict}
use Rattle.tree.specs.TickBytes.{tick_checked, tick_bytes, answered, is_settled, SettledBy}

-- the answer of a tree that was read
abbrev pub answered_by : (Tree → Status) → Checked Tree → Checked Status
answered_by f x = and_then x λ t. accepted (f t)

-- ---- the promise

-- What a tick answers, on every reading: the definition's answer or refusal, and Success, Failure, Running or Waiting only where it is settled.
pub record AnswersBy (tick : Reading → Checked Verdict) (r : Reading) (ticked : Result Status Refusal) : Type 0 where
  pub answer : answer_of ticked ≡ answered (tick r)
  pub settled : (a : Status) → answer_of ticked ≡ accepted a → is_settled a ≡ true → SettledBy tick r a

-- from the bytes of a table and of a tree
abbrev pub Answers : List ℕ → List ℕ → Reading → Result Status Refusal → Type 0
Answers table tree = AnswersBy (tick_bytes table tree)

-- under a table that was read, with what its header tells of it, and a place for 8
abbrev pub AnswersUnder : Header → List ℕ → ℕ → Reading → Result Status Refusal → Type 0
AnswersUnder header tree place = AnswersBy (tick_checked header.facts header.jobs tree place)
