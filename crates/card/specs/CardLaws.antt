-- The job card's definitions, way by way: what each test leads to. Equations are turned so that a function's answers chain with them.
-- Assumes nothing.
use Rattle.std.specs.Prelude.{ℕ, ◌*◌, ◌≤◌, ◌<◌, eqb, ltb, Err, Ok}
use Rattle.std.proofs.Common.{arith}
use Rattle.std.proofs.Math.Path.{◌≡◌, refl}
use Rattle.std.proofs.Math.Bool.{true, false, or-true}
use Rattle.std.proofs.lemmas.Bool.{or_parts}
use borrow.Author.Tests.{lt-ltb, le-ltb, ltb-false, eqb-false, ne_eqb}
use Rattle.refusal.specs.declared.Refusal.{Refusal}
use Rattle.refusal.specs.Checked.{Checked, accepted, refused, refused_by}
use Rattle.reading.specs.declared.Reading.{Reading}
use Rattle.conditions.specs.OnReading.{applicable}
use Rattle.job.specs.declared.Job.{Job}
use Rattle.job.specs.Job.{action_of}
use Rattle.card.specs.declared.Card.{Card}
use Rattle.card.specs.Card.{masks_of, new_card, with_report, max_reports, max_taken, max_listed, exhausted, Bounded, booked, Updated}

-- ---- the two ways that a call ends

pub updated_refused : {c : Card} {x : Refusal} {due : Checked Card} → refused_by x ≡ due → Updated due c c (Err x)
updated_refused e = rw (← e) (record { answers = refl; leaves = refl; keeps = λ x q. refl })

pub updated_accepted : {c d : Card} {due : Checked Card} → accepted d ≡ due → Updated due c d (Ok tt)
updated_accepted e = rw (← e) (record { answers = refl; leaves = refl; keeps = λ x q. absurd (cc) })

-- ---- the count and the sums

pub new_bounded : (r : Reading) → Bounded (new_card r)
new_bounded r = record { taken_bounded = omega arith; planned_bounded = omega arith }

pub with_report_bounded : (j : Job) (taken : ℕ) (c : Card) → taken ≤ max_taken → j.seconds ≤ max_listed → Bounded c → Bounded (with_report j taken c)
unfolding with_report
with_report_bounded j taken c h k b = record { taken_bounded = omega arith; planned_bounded = omega arith }

module _ (c : Card) where
  pub room : exhausted c ≡ false → (c.reports ≡ max_reports → ⊥) × Bounded c
  unfolding exhausted
  room e =
      let n = or_parts (eqb c.reports max_reports) _ e in
      let m = or_parts (ltb (max_taken * c.reports) c.taken) _ n.1 in
      (eqb-false _ _ n.0, record { taken_bounded = ltb-false _ _ m.0; planned_bounded = ltb-false _ _ m.1 })

  pub not_exhausted : (c.reports ≡ max_reports → ⊥) → Bounded c → exhausted c ≡ false
  unfolding exhausted
  not_exhausted n b = rw (ne_eqb c.reports max_reports n, le-ltb _ _ b.taken_bounded, le-ltb _ _ b.planned_bounded)

  -- a planned sum above its limit is enough, whatever the count and the taken sum are
  pub planned_over : max_listed * c.reports < c.planned → exhausted c ≡ true
  unfolding exhausted
  planned_over h = rw (lt-ltb (max_listed * c.reports) c.planned h, or-true, or-true)

-- a new card takes a report
pub new_takes : (r : Reading) → exhausted (new_card r) ≡ false
new_takes r = not_exhausted (new_card r) (λ e. omega arith) (new_bounded r)

-- ---- a report

module _ (j : Job) (taken : ℕ) (c : Card) where
  pub booked_missing : applicable (action_of j) (masks_of c) ≡ false → refused 17 0 ≡ booked j taken c
  unfolding booked
  booked_missing e = rw e

  module _ (e : applicable (action_of j) (masks_of c) ≡ true) where
    pub booked_exhausted : exhausted c ≡ true → refused 18 0 ≡ booked j taken c
    unfolding booked
    booked_exhausted x = rw (e, x)

    pub booked_done : exhausted c ≡ false → accepted (with_report j taken c) ≡ booked j taken c
    unfolding booked
    booked_done x = rw (e, x)
