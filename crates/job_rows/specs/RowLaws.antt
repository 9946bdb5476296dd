-- One job more in a row, and all of them.
-- Assumes nothing.
use Rattle.std.specs.Prelude.{ℕ, zero, suc, ◌+◌, ◌≤◌, ◌<◌, ◌≡◌, refl, List, [], ◌∷◌, ◌++◌, map, length, get_or, take, drop, set}
use Rattle.std.proofs.Common.{add-one, arith, sym, ap, ◌∙◌, take_at, take-append-drop, length-take-le, length-set, drop-drop, get_or-set_same, get_or-set_other}
use Rattle.std.proofs.lemmas.List.{length-map, get_or-take, ext_get_or, drop-set-lt}
use Rattle.std.proofs.Math.Decide.{dec_le}
use Rattle.std.proofs.Math.ListN.{get_or-map}
use Rattle.std.proofs.Math.Seq.{take-length}
use Rattle.job.specs.declared.Job.{Job}
use Rattle.job.specs.Job.{no_job}
use Rattle.job_rows.specs.Rows.{Loads, loaded}

module _ {A : Type 0} {Part : Job → A → Type 0} {jobs : List Job} {n : ℕ} {before now : List A} (L : Loads Part jobs n before now) where
  -- lists that agree from n on agree from n + 1 on
  past_later : drop (n + 1) now ≡ drop (n + 1) before
  past_later = rw (drop-drop 1 n now, drop-drop 1 n before) at (ap (drop 1) L.past)

  pub loads_more : (job : Job) (x : A) → job ≡ get_or jobs n no_job → Part job x → n < length before → Loads Part jobs (n + 1) before (set now n x)
  loads_more job x is p h =
      record {
        sized = length-set now n x ∙ L.sized;
        parts = λ none i k. elim (dec_le n i) [
          | yes m ↦
              let here : i ≡ n = omega arith in
              rw (here, get_or-set_same now n x none (omega (arith, L.sized)), ← is) p
          | no m ↦ rw (get_or-set_other now n i x none (λ q. omega arith)) (L.parts none i (omega arith))
        ];
        past = drop-set-lt (n + 1) now n x (omega arith) ∙ past_later;
      }

  -- all of them
  pub loads_whole : (part : Job → A) → ((j : Job) (x : A) → Part j x → x ≡ part j) → n ≡ length jobs → n ≤ length before → take n now ≡ map part jobs
  loads_whole part is e h =
      let size : length (take n now) ≡ n = length-take-le n now (omega (arith, L.sized)) in
      ext_get_or (part no_job) (take n now) (map part jobs) (omega (arith, size, length-map jobs part)) (λ i k.
      get_or-take n now i (part no_job) (omega (arith, size))
      ∙ is (get_or jobs i no_job) (get_or now i (part no_job)) (L.parts (part no_job) i (omega (arith, size)))
      ∙ sym (get_or-map part jobs i no_job))

-- ---- a row of numbers

module _ (field : Job → ℕ) where
  load_next : (jobs : List Job) (row : List ℕ) (i : ℕ) → i < length jobs → i < length row
      → set (loaded field jobs row i) i (field (get_or jobs i no_job)) ≡ loaded field jobs row (suc i)
  load_next [] row i h k = absurd (omega arith)
  load_next (j ∷ jobs) [] i h k = absurd (omega arith)
  load_next (j ∷ jobs) (x ∷ row) zero h k = refl
  load_next (j ∷ jobs) (x ∷ row) (suc i) h k = ap (λ (l : List ℕ). field j ∷ l) (load_next jobs row i (omega arith) (omega arith))

  pub load_turn : (jobs : List Job) (row now : List ℕ) (i : ℕ) (j : Job) → now ≡ loaded field jobs row i → j ≡ get_or jobs i no_job
      → i < length jobs → i < length row → set now i (field j) ≡ loaded field jobs row (i + 1)
  load_turn jobs row now i j e k h r = rw (e, k, add-one i) (load_next jobs row i h r)

  -- all of them
  pub load_whole : (jobs : List Job) (row : List ℕ) (count : ℕ) → count ≡ length jobs → take count (loaded field jobs row count) ≡ map field jobs
  load_whole jobs row count e =
      let all : map field (take count jobs) ≡ map field jobs = ap (map field) (ap (λ (k : ℕ). take k jobs) e ∙ take-length jobs) in
      rw all (take_at (map field jobs) (drop count row) count (length-map jobs field ∙ sym e))

  -- a row into which they are loaded, in these terms
  module _ {jobs : List Job} {n : ℕ} {before now : List ℕ} (L : Loads (λ (j : Job) (x : ℕ). x ≡ field j) jobs n before now) where
    pub loads_loaded : n ≤ length jobs → n ≤ length before → now ≡ loaded field jobs before n
    loads_loaded h k =
        let size : length (take n now) ≡ n = length-take-le n now (omega (arith, L.sized)) in
        let few : length (take n jobs) ≡ n = length-take-le n jobs h in
        let front : take n now ≡ map field (take n jobs) =
        ext_get_or (field no_job) (take n now) (map field (take n jobs)) (omega (arith, size, few, length-map (take n jobs) field)) (λ i l.
        get_or-take n now i (field no_job) (omega (arith, size))
        ∙ L.parts (field no_job) i (omega (arith, size))
        ∙ ap field (sym (get_or-take n jobs i no_job (omega (arith, size))))
        ∙ sym (get_or-map field (take n jobs) i no_job)) in
        sym (take-append-drop n now) ∙ ap (λ (l : List ℕ). l ++ drop n now) front ∙ ap (λ (l : List ℕ). map field (take n jobs) ++ l) L.past
