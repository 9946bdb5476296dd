-- The job table: document 01, "Commands"; document 02, W10. Its bytes: "A table is FACTS, then 0 to 128 JOBs numbered from 0, then GOAL, then END."
-- Definitions only.
use Rattle.std.specs.Prelude.{ℕ, ◌+◌, Bool, false, ◌||◌, List, [], ◌∷◌, ◌++◌, length, take}
use Rattle.commands.specs.Commands.{FACTS, GOAL, END_OF_TABLE, FACTS_SIZE}
use Rattle.numbers.specs.Numbers.{to_bytes}
use Rattle.job.specs.declared.Job.{Job}
use Rattle.job.specs.Job.{job_bytes}

pub record Table : Type 0 where
  pub facts : ℕ
  pub jobs : List Job
  pub goal : ℕ

abbrev pub max_facts : ℕ
max_facts = 64

abbrev pub max_jobs : ℕ
max_jobs = 128

unfoldable pub jobs_bytes : List Job → List ℕ
jobs_bytes [] = []
jobs_bytes (j ∷ js) = job_bytes j ++ jobs_bytes js

-- "once the table has a 0x21"
unfoldable pub has_pair : List Job → Bool
has_pair [] = false
has_pair (j ∷ js) = j.paired || has_pair js

unfoldable pub goal_bytes : ℕ → List ℕ
goal_bytes goal = GOAL ∷ to_bytes 8 goal ++ (END_OF_TABLE ∷ [])

unfoldable pub table_bytes : Table → List ℕ
table_bytes t = FACTS ∷ t.facts ∷ jobs_bytes t.jobs ++ goal_bytes t.goal

-- where job i stands: after FACTS and the jobs before it
unfoldable pub offset_of : List Job → ℕ → ℕ
offset_of js i = FACTS_SIZE + length (jobs_bytes (take i js))

-- where GOAL stands: after FACTS and all jobs
unfoldable pub goal_offset : Table → ℕ
goal_offset t = FACTS_SIZE + length (jobs_bytes t.jobs)
