-- Laws of the way along the parents.
-- Assumes nothing.
use Rattle.std.specs.Prelude.{ℕ, zero, suc, ◌+◌, ◌-◌, ◌*◌, ◌≤◌, ◌<◌, ◌≡◌, refl, List, [], ◌∷◌, map, length, get_or}
use Rattle.std.proofs.Common.{arith, sym, ap, ◌∙◌, subst}
use Rattle.std.proofs.lemmas.List.{length-map}
use Rattle.std.proofs.Math.ListN.{get_or-map}
use Rattle.job.specs.declared.Job.{Job}
use Rattle.job.specs.Job.{no_job}
use Rattle.job.specs.Validation.{max_seconds}
use Rattle.numbers.specs.Numbers.{AreBytes}
use Rattle.table.specs.Read.{read_table, jobs_of}
use Rattle.table.proofs.RoundTripLaws.{listed_in_time}
use Rattle.planning.specs.Listing.{path}
use Rattle.planning.proofs.PathLaws.{path_short, path_step}
use Rattle.planner.specs.Plan.{seconds_of}
use Rattle.planner.specs.Way.{linked, Linked, Traced, row_seconds, InTime}

-- document 02, W3: "whoever sums the times may rely on it". No row of jobs has more seconds than the longest job for each of them.
pub seconds_most : (row : List ℕ) → InTime row → (w : List ℕ) → row_seconds row w ≤ max_seconds * length w
seconds_most row t [] = omega arith
seconds_most row t (a ∷ w) = omega (arith, t a, seconds_most row t w)

-- so a way is bounded by the entry that it begins at, however the parents run
pub way_most : (row : List ℕ) → InTime row → (actions parents : List ℕ) (i : ℕ) → row_seconds row (path (linked actions parents) i) ≤ max_seconds * i
way_most row t actions parents i = omega (arith, seconds_most row t (path (linked actions parents) i), path_short (linked actions parents) i)

-- the row of a table's seconds sums as the table does
pub row_seconds_are : (jobs : List Job) (w : List ℕ) → row_seconds (map (λ j. j.seconds) jobs) w ≡ seconds_of jobs w
row_seconds_are jobs [] = refl
row_seconds_are jobs (a ∷ w) = rw (get_or-map (λ (j : Job). j.seconds) jobs a no_job, row_seconds_are jobs w)

-- which no job of a table exceeds
pub row_in_time : (s : List ℕ) → AreBytes s → InTime (map (λ j. j.seconds) (jobs_of (read_table s)))
row_in_time s b i = omega (arith, get_or-map (λ (j : Job). j.seconds) (jobs_of (read_table s)) i no_job, listed_in_time s b i)

-- a way that can be followed with the table's jobs can be summed by the row of their seconds
pub links_row : (jobs : List Job) (row : List ℕ) (n : ℕ) (actions parents depths : List ℕ) → row ≡ map (λ j. j.seconds) jobs
    → Traced (length jobs) n actions parents depths → Linked (length row) (suc (n - 1)) actions parents
links_row jobs row n actions parents depths e T =
    let size : length jobs ≡ length row = sym (ap length e ∙ length-map jobs (λ j. j.seconds)) in
    let entries : n ≡ suc (n - 1) = omega (arith, T.some) in
    subst (λ (k : ℕ). Linked (length row) k actions parents) entries (subst (λ (k : ℕ). Linked k n actions parents) size T.links)

module _ {count n : ℕ} {actions parents : List ℕ} (L : Linked count n actions parents) where
  -- an entry's seconds are those of its action, and then its parent's
  pub seconds_step : (row : List ℕ) (i : ℕ) → 0 < i → i < n
      → row_seconds row (path (linked actions parents) i) ≡ get_or row (get_or actions i 0) 0 + row_seconds row (path (linked actions parents) (get_or parents i 0))
  seconds_step row zero pos h = absurd (omega arith)
  seconds_step row (suc i) pos h = ap (row_seconds row) (path_step (linked actions parents) n L.earlier i h)

  pub link_earlier : (i : ℕ) → 0 < i → i < n → get_or parents i 0 < i
  link_earlier zero pos h = absurd (omega arith)
  link_earlier (suc i) pos h = L.earlier i h

  pub link_known : (i : ℕ) → 0 < i → i < n → get_or actions i 0 < count
  link_known zero pos h = absurd (omega arith)
  link_known (suc i) pos h = L.known i h
