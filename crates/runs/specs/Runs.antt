-- What a run takes of a tick on the bytes of a table and of a tree: document 01, "Work on a vehicle"; document 02, W12.
-- Definitions only.
use Rattle.std.specs.Prelude.{ℕ, List}
use Rattle.refusal.specs.Checked.{Checked, accepted, refused}
use Rattle.reading.specs.Reading.{state}
use Rattle.planning.specs.Sequence.{Answer, success, running, other}
use Rattle.tree.specs.declared.Status.{Status}
use Rattle.tree.specs.declared.Status.TheVariants.{Success, Failure, Running, Unsettled, Waiting}
use Rattle.tree.specs.Tick.{Verdict}
use Rattle.tree.specs.TickBytes.{tick_bytes}

-- a node's answer, as far as a run asks
abbrev pub answer_of_status : Status → Answer ℕ
answer_of_status Success = success
answer_of_status Failure = other
answer_of_status (Running job) = running job
answer_of_status (Unsettled mask) = other
-- document 02, W12: it names no job, so that it ends demand 3's run of one tree
answer_of_status Waiting = other

-- "Any other answer, a refusal too, .. ends the run."
abbrev pub run_answer : Checked Verdict → Answer ℕ
run_answer (accepted v) = answer_of_status v.answer
run_answer (refused n p) = other

-- "Each tick gets the plan's table, the tree bytes that the plan wrote and none past them, and the state with unread 0."
abbrev pub tick_on : List ℕ → List ℕ → ℕ → Answer ℕ
tick_on table tree s = run_answer (tick_bytes table tree (state s))
