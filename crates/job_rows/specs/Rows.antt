-- One part of each of a table's jobs, as it is loaded into a lent row.
-- Definitions only.
use Rattle.std.specs.Prelude.{ℕ, ◌<◌, ◌≡◌, List, ◌++◌, map, length, get_or, take, drop}
use Rattle.job.specs.declared.Job.{Job}
use Rattle.job.specs.Job.{no_job}

-- The parts of the first n jobs stand at the front of the row, and nothing past them is touched. `Part` says what a job's part is.
pub record Loads {A : Type 0} (Part : Job → A → Type 0) (jobs : List Job) (n : ℕ) (before after : List A) : Type 0 where
  pub sized : length after ≡ length before
  pub parts : (none : A) (i : ℕ) → i < n → Part (get_or jobs i no_job) (get_or after i none)
  pub past : drop n after ≡ drop n before

-- the numbers of the first i jobs stand at the front of the row, and nothing past them is touched
abbrev pub loaded : (Job → ℕ) → List Job → List ℕ → ℕ → List ℕ
loaded field jobs row i = map field (take i jobs) ++ drop i row
