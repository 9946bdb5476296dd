-- What a run takes of two ticks on the same state, of two fitters' trees: document 02, W12, "in demand 3 the run of these trees ticks both on the same
-- state until neither names a job". A job is taken up only where one names it and the other waits, and the run ends well only where both answer Success.
-- Definitions only.
use Rattle.std.specs.Prelude.{ℕ}
use Rattle.refusal.specs.Checked.{Checked, accepted, refused}
use Rattle.planning.specs.Sequence.{Answer, success, running, other}
use Rattle.tree.specs.declared.Status.{Status}
use Rattle.tree.specs.declared.Status.TheVariants.{Success, Failure, Running, Unsettled, Waiting}

-- what the other is told while one waits, is given a job, or is done

abbrev beside_waiting : Status → Answer ℕ
beside_waiting Success = other
beside_waiting Failure = other
beside_waiting (Running job) = running job
beside_waiting (Unsettled mask) = other
beside_waiting Waiting = other

abbrev beside_job : (job : ℕ) → Status → Answer ℕ
beside_job job Success = other
beside_job job Failure = other
beside_job job (Running another) = other
beside_job job (Unsettled mask) = other
beside_job job Waiting = running job

abbrev beside_success : Status → Answer ℕ
beside_success Success = success
beside_success Failure = other
beside_success (Running job) = other
beside_success (Unsettled mask) = other
beside_success Waiting = other

abbrev pub joint_status : Status → Status → Answer ℕ
joint_status Success second = beside_success second
joint_status Failure second = other
joint_status (Running job) second = beside_job job second
joint_status (Unsettled mask) second = other
joint_status Waiting second = beside_waiting second

-- document 01: "Any other answer, a refusal too, .. ends the run."
abbrev pub joint : Checked Status → Checked Status → Answer ℕ
joint (accepted first) (accepted second) = joint_status first second
joint (accepted first) (refused number place) = other
joint (refused number place) second = other
