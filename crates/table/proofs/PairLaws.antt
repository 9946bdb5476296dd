-- Tables with a 0x21, and those without.
-- Assumes nothing.
use Rattle.std.specs.Prelude.{ℕ, zero, suc, ◌≤◌, ◌≡◌, refl, Bool, true, false, ◌||◌, List, [], ◌∷◌, ◌++◌, length, get_or}
use Rattle.std.proofs.Common.{arith, ap, ◌∙◌}
use Rattle.job.specs.declared.Job.{Job}
use Rattle.job.specs.Job.{no_job}
use Rattle.table.specs.Table.{has_pair}

or_assoc : (x y z : Bool) → (x || (y || z)) ≡ ((x || y) || z)
or_assoc true y z = refl
or_assoc false y z = refl

or_false : (x : Bool) → (x || false) ≡ x
or_false true = refl
or_false false = refl

pub pair_snoc : (js : List Job) (j : Job) → has_pair (js ++ (j ∷ [])) ≡ (has_pair js || j.paired)
unfolding has_pair
pair_snoc [] j = or_false j.paired
pair_snoc (k ∷ js) j = ap (λ (b : Bool). k.paired || b) (pair_snoc js j) ∙ or_assoc k.paired (has_pair js) j.paired

-- a table with a 0x21 has a job
pub pair_some : (js : List Job) → has_pair js ≡ true → 1 ≤ length js
unfolding has_pair
pair_some [] e = let z : ◌≡◌ {A = ℕ} 0 1 = cc in absurd (omega arith)
pair_some (j ∷ js) e = omega arith

-- in one without, every job is a 0x20
pub pair_none : (js : List Job) → has_pair js ≡ false → (i : ℕ) → (get_or js i no_job).paired ≡ false
unfolding has_pair
pair_none [] e i = refl
pair_none (j ∷ js) e zero = left j.paired (has_pair js) e
  where
    left : (x y : Bool) → (x || y) ≡ false → x ≡ false
    left true y p = p
    left false y p = refl
pair_none (j ∷ js) e (suc i) = pair_none js (right j.paired (has_pair js) e) i
  where
    right : (x y : Bool) → (x || y) ≡ false → y ≡ false
    right true y p = let z : ◌≡◌ {A = ℕ} 0 1 = cc in absurd (omega arith)
    right false y p = p
