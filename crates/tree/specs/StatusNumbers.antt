-- A tick's answer in numbers, as include/bay.h and lent rows hold it: which status, and the job or mask that comes with it.
-- Definitions only.
use Rattle.std.specs.Prelude.{ℕ}
use Rattle.tree.specs.declared.Status.{Status}
use Rattle.tree.specs.declared.Status.TheVariants.{Success, Failure, Running, Unsettled, Waiting}

-- BAY_SUCCESS, BAY_FAILURE, BAY_RUNNING, BAY_UNSETTLED and BAY_WAITING. Document 02, W12: a waiting leaf "answers Running and names no job"; it has a
-- number of its own, so that no job number stands for none.
abbrev pub status_number : Status → ℕ
status_number Success = 0
status_number Failure = 1
status_number (Running job) = 2
status_number (Unsettled mask) = 3
status_number Waiting = 4

-- 0 where nothing comes with it
abbrev pub status_value : Status → ℕ
status_value Success = 0
status_value Failure = 0
status_value (Running job) = job
status_value (Unsettled mask) = mask
status_value Waiting = 0
