-- Where each job of a table stands, and what is read there.
-- Assumes nothing.
use Rattle.std.specs.Prelude.{ℕ, suc, ◌+◌, ◌*◌, ◌≤◌, ◌<◌, ◌≡◌, refl, length, get_or, take, drop}
use Rattle.std.proofs.Common.{add-one, arith, ◌∙◌, length-append, length-take, length-drop, take-append-drop, drop-drop, drop_at, drop-cons, take-suc}
use Rattle.std.proofs.Math.Path.{sym, ap}
use mathlib.Core.List.{List, [], ◌∷◌, ◌++◌, append_assoc, append-nil}
use Rattle.std.proofs.Math.Seq.{take-length}
use Rattle.refusal.specs.Checked.{Checked, accepted, refused}
use Rattle.commands.specs.Commands.{FACTS_SIZE, PAIRED_JOB_SIZE}
use Rattle.numbers.specs.Numbers.{AreBytes}
use Rattle.job.specs.declared.Job.{Job}
use Rattle.job.specs.Job.{no_job, job_bytes, job_size, job_at, job_from}
use Rattle.job.proofs.JobLaws.{job_size_is, size_most, size_least, job_length, read_job}
use Rattle.table.specs.Table.{Table, jobs_bytes, goal_bytes, table_bytes, offset_of, goal_offset}
use Rattle.table.specs.Read.{read_table, jobs_of}
use Rattle.table.proofs.RoundTripLaws.{written_back, read_storable}

-- ---- offsets

pub jobs_append : (js ks : List Job) → jobs_bytes (js ++ ks) ≡ jobs_bytes js ++ jobs_bytes ks
unfolding jobs_bytes
jobs_append [] ks = refl
jobs_append (j ∷ js) ks = ap (λ (r : List ℕ). job_bytes j ++ r) (jobs_append js ks) ∙ sym (append_assoc (job_bytes j) (jobs_bytes js) (jobs_bytes ks))

parted : (js : List Job) (i : ℕ) → jobs_bytes js ≡ jobs_bytes (take i js) ++ jobs_bytes (drop i js)
parted js i = ap jobs_bytes (sym (take-append-drop i js)) ∙ jobs_append (take i js) (drop i js)

pub jobs_snoc : (js : List Job) (j : Job) → jobs_bytes (js ++ (j ∷ [])) ≡ jobs_bytes js ++ job_bytes j
unfolding jobs_bytes
jobs_snoc js j = jobs_append js (j ∷ []) ∙ ap (λ (r : List ℕ). jobs_bytes js ++ r) (append-nil (job_bytes j))

pub snoc_length : (js : List Job) (j : Job) → length (jobs_bytes (js ++ (j ∷ []))) ≡ length (jobs_bytes js) + job_size j
snoc_length js j = ap length (jobs_snoc js j) ∙ omega (arith, length-append (jobs_bytes js) (job_bytes j), job_length j)

pub first_offset : (js : List Job) → offset_of js 0 ≡ FACTS_SIZE
unfolding offset_of jobs_bytes
first_offset js = refl

pub next_offset : (js : List Job) (i : ℕ) → i < length js → offset_of js (suc i) ≡ offset_of js i + job_size (get_or js i no_job)
unfolding offset_of
next_offset js i h = rw (take-suc js i no_job h) (omega (arith, snoc_length (take i js) (get_or js i no_job)))

pub last_offset : (t : Table) → goal_offset t ≡ offset_of t.jobs (length t.jobs)
unfolding goal_offset offset_of
last_offset t = rw take-length

-- a table's jobs are few, so its offsets are small numbers
jobs_small : (js : List Job) → length (jobs_bytes js) ≤ PAIRED_JOB_SIZE * length js
unfolding jobs_bytes
jobs_small [] = omega arith
jobs_small (j ∷ js) = omega (arith, length-append (job_bytes j) (jobs_bytes js), job_length j, job_size_is j, size_most j.paired, jobs_small js)

pub offset_small : (js : List Job) (i : ℕ) → offset_of js i ≤ FACTS_SIZE + PAIRED_JOB_SIZE * i
unfolding offset_of
offset_small js i = omega (arith, jobs_small (take i js), length-take i js)

-- no job stands past GOAL
pub offset_within : (js : List Job) (i : ℕ) → offset_of js i ≤ FACTS_SIZE + length (jobs_bytes js)
unfolding offset_of
offset_within js i = omega (arith, length-append (jobs_bytes (take i js)) (jobs_bytes (drop i js)), ap length (parted js i))

-- ---- each job of the table, by its number

drop_jobs : (js : List Job) (rest : List ℕ) (i : ℕ) → drop (length (jobs_bytes (take i js))) (jobs_bytes js ++ rest) ≡ jobs_bytes (drop i js) ++ rest
drop_jobs js rest i =
    ap (λ (r : List ℕ). drop (length (jobs_bytes (take i js))) (r ++ rest)) (parted js i)
    ∙ rw append_assoc (drop_at (jobs_bytes (take i js)) (jobs_bytes (drop i js) ++ rest) (length (jobs_bytes (take i js))) refl)

module _ (s : List ℕ) (b : AreBytes s) (t : Table) (q : read_table s ≡ accepted t) (i : ℕ) (h : i < length t.jobs) where
  from_job : drop (offset_of t.jobs i) s ≡ job_bytes (get_or t.jobs i no_job) ++ (jobs_bytes (drop (suc i) t.jobs) ++ goal_bytes t.goal)
  unfolding offset_of table_bytes jobs_bytes
  from_job =
      ap (drop (offset_of t.jobs i)) (sym (written_back s b t q))
      ∙ sym (drop-drop (length (jobs_bytes (take i t.jobs))) FACTS_SIZE (table_bytes t))
      ∙ drop_jobs t.jobs (goal_bytes t.goal) i
      ∙ ap (λ (ks : List Job). jobs_bytes ks ++ goal_bytes t.goal) (drop-cons t.jobs i no_job h)
      ∙ append_assoc (job_bytes (get_or t.jobs i no_job)) _ _

  job_there : job_at s (offset_of t.jobs i) ≡ get_or t.jobs i no_job
  job_there = read_job s _ (offset_of t.jobs i) (get_or t.jobs i no_job) ((read_storable s b t q).jobs_fit i) from_job

  job_ends : offset_of t.jobs (suc i) ≤ length s
  job_ends =
      omega (
        arith,
        next_offset t.jobs i h,
        length-drop (offset_of t.jobs i) s,
        ap length from_job,
        length-append (job_bytes (get_or t.jobs i no_job)) (jobs_bytes (drop (suc i) t.jobs) ++ goal_bytes t.goal),
        job_length (get_or t.jobs i no_job),
        job_size_is (get_or t.jobs i no_job),
        size_least (get_or t.jobs i no_job).paired,
      )

-- job i of any bytes that have such a job, at its offset
pub record JobHere (s : List ℕ) (i at : ℕ) : Type 0 where
  pub is_job : job_at s at ≡ get_or (jobs_of (read_table s)) i no_job
  pub is_next : (job_from s at).next ≡ offset_of (jobs_of (read_table s)) (i + 1)
  pub ends : (job_from s at).next ≤ length s

pub job_here : (s : List ℕ) → AreBytes s → (i at : ℕ) → i < length (jobs_of (read_table s)) → at ≡ offset_of (jobs_of (read_table s)) i → JobHere s i at
job_here s b i at h e = rw e (of_table (read_table s) refl h)
  where
    of_table : (r : Checked Table) → read_table s ≡ r → i < length (jobs_of r) → JobHere s i (offset_of (jobs_of r) i)
    of_table (accepted t) q h =
        let there = job_there s b t q i h in
        let next : (job_from s (offset_of t.jobs i)).next ≡ offset_of t.jobs (suc i) = rw there (sym (next_offset t.jobs i h)) in
        record {
          is_job = rw q there;
          is_next = rw (q, add-one i) next;
          ends = rw next (job_ends s b t q i h);
        }
    of_table (refused n p) q h = absurd (omega arith)
