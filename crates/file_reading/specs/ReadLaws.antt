-- What one read makes of a file, way by way. Equations are turned so that a function's answers chain with them.
-- Assumes nothing.
use Rattle.std.proofs.Common.{arith}
use Rattle.std.specs.Prelude.{◌≡◌, refl, Result, Ok, Err, ℕ, zero, suc, ◌+◌, ◌-◌, ◌≤◌, ◌<◌, min}
use Rattle.std.specs.declared.ops.ControlFlow.TheVariants.{Break, Continue}
use Rattle.file_reading.specs.Reads.{after_read}

module _ {E : Type 0} (done size : ℕ) where
  pub read_failed : (error : E) → Err error ≡ after_read done size (Err error)
  read_failed error = refl

  pub read_end : (got : ℕ) → got ≡ 0 → Ok (Break done) ≡ after_read {E = E} done size (Ok got)
  read_end zero e = refl
  read_end (suc n) e = absurd (omega arith)

  going : (got : ℕ) → (got ≡ 0 → ⊥) → after_read {E = E} done size (Ok got) ≡ Ok (Continue (done + min got (size - done)))
  going zero some = absurd (some refl)
  going (suc n) some = refl

  pub read_some : (got : ℕ) → (got ≡ 0 → ⊥) → got < size - done → Ok (Continue (done + got)) ≡ after_read {E = E} done size (Ok got)
  read_some got some h = let least : done + min got (size - done) ≡ done + got = omega arith in rw (going got some, least)

  pub read_full : (got : ℕ) → (got ≡ 0 → ⊥) → done ≤ size → size - done ≤ got → Ok (Continue size) ≡ after_read {E = E} done size (Ok got)
  read_full got some d h = let least : done + min got (size - done) ≡ size = omega arith in rw (going got some, least)

  -- what an answer tells the loop: the file ends where nothing more is read, and goes on past what is read, within the buffer
  pub ended : (got : Result ℕ E) (n : ℕ) → Ok (Break n) ≡ after_read done size got → (got ≡ Ok 0) × (n ≡ done)
  ended (Err error) n e = let z : ◌≡◌ {A = ℕ} 0 1 = cc in absurd (omega arith)
  ended (Ok zero) n e = let z : n ≡ done = cc in (refl, z)
  ended (Ok (suc k)) n e = let z : ◌≡◌ {A = ℕ} 0 1 = cc in absurd (omega arith)

  pub ended_within : (got : Result ℕ E) (n : ℕ) → Ok (Break n) ≡ after_read done size got → done ≤ size → n ≤ size
  ended_within got n e h = let (end, z) = ended got n e in omega arith

  pub went_on : (got : Result ℕ E) (n : ℕ) → Ok (Continue n) ≡ after_read done size got → (more : ℕ) × (got ≡ Ok more) × (0 < more) × (n ≡ done + min more (size - done))
  went_on (Err error) n e = let z : ◌≡◌ {A = ℕ} 0 1 = cc in absurd (omega arith)
  went_on (Ok zero) n e = let z : ◌≡◌ {A = ℕ} 0 1 = cc in absurd (omega arith)
  went_on (Ok (suc k)) n e = let z : n ≡ done + min (suc k) (size - done) = cc in (suc k, refl, omega arith, z)

  pub going_on : (got : Result ℕ E) (n : ℕ) → Ok (Continue n) ≡ after_read done size got → done < size → (done < n) × (n ≤ size)
  going_on got n e h = let (more, is, some, z) = went_on got n e in (omega arith, omega arith)
