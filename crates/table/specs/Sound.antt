-- What the table reader's checks come to: a table is sound where no stop of the papers arises in its bytes. And the same checks, made without bytes.
-- Definitions only.
use Rattle.std.specs.Prelude.{ℕ, zero, suc, ◌+◌, ◌^◌, ◌≤◌, ◌<◌, ◌≡◌, true, List, [], ◌∷◌, ◌++◌, length, get_or, if◌then◌else◌}
use Rattle.masks.specs.Sets.{within}
use Rattle.refusal.specs.Checked.{Checked, accepted, refused, and_then}
use Rattle.commands.specs.Commands.{FACTS_SIZE}
use Rattle.job.specs.declared.Job.{Job}
use Rattle.job.specs.Job.{no_job, job_size, StorableJob}
use Rattle.job.specs.Validation.{validated_job, SoundJob}
use Rattle.table.specs.Table.{Table, max_jobs}
use Rattle.table.specs.Read.{facts_in_range}

pub record Sound (t : Table) : Type 0 where
  pub facts_range_held : facts_in_range t.facts ≡ true
  pub few : length t.jobs ≤ max_jobs
  pub sound_jobs : (i : ℕ) → i < length t.jobs → SoundJob t.facts (get_or t.jobs i no_job)
  pub sound_goal : within t.facts t.goal ≡ true

-- the numbers of a table are those that its operands can hold
pub record Storable (t : Table) : Type 0 where
  pub facts_fit : t.facts < 256
  pub jobs_fit : (i : ℕ) → StorableJob (get_or t.jobs i no_job)
  pub goal_fits : t.goal < 2 ^ 64

-- the checks of a table, made without its bytes: of the JOBs `js` that were passed, and of those to come, the first of which would stand at the offset
unfoldable pub validated_from : ℕ → ℕ → ℕ → List Job → List Job → ℕ → Checked Table
validated_from facts goal left js [] at = if within facts goal then accepted (record { facts = facts; jobs = js; goal = goal }) else refused 5 at
validated_from facts goal zero js (k ∷ ks) at = refused 4 at
validated_from facts goal (suc left) js (k ∷ ks) at = and_then (validated_job facts at k) λ j. validated_from facts goal left (js ++ (j ∷ [])) ks (at + job_size k)

unfoldable pub validated_table : Table → Checked Table
validated_table t = if facts_in_range t.facts then validated_from t.facts t.goal max_jobs [] t.jobs FACTS_SIZE else refused 3 0
