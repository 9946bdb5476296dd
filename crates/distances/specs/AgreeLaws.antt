-- The distances agree with the plan for the whole shift, and there is one row of them.
-- Assumes nothing.
use Rattle.std.specs.Prelude.{ℕ, ◌≡◌, Bool, List, ◌↔◌}
use Rattle.std.proofs.Common.{arith, sym, ◌∙◌}
use Rattle.conditions.specs.declared.Condition.{Condition}
use Rattle.planning.specs.Domain.{Domain}
use Rattle.planning.specs.Sequence.{Reaches}
use Rattle.planning.specs.Expansion.{Entry, exhausted, expand}
use Rattle.planning.specs.Demand.{CoveredBy}
use Rattle.planning.specs.Facts.{Actions, unit_domain, Separate}
use Rattle.planning.proofs.FactLaws.{fact_distance, fact_covered_iff}
use Rattle.distance_steps.specs.Distance.{Distance, fewest, none}
use Rattle.distances.specs.Measure.{Agrees}

-- a state has one distance
pub distance_unique : {State Condition Action : Type 0} (D : Domain State Condition Action) (s : State) (n m : ℕ) → Distance D s n → Distance D s m → n ≡ m
distance_unique D s n m (fewest w p e h) (fewest v q f k) = omega (arith, e, f, p.least v q.reaches, q.least w p.reaches)
distance_unique D s n m (fewest w p e h) (none q f) = absurd (q w p.reaches)
distance_unique D s n m (none p e) (fewest v q f k) = absurd (p v q.reaches)
distance_unique D s n m (none p e) (none q f) = e ∙ sym f

-- a list whose every entry is expanded
module _ (A : Actions) (goal : Condition) (separate : Separate A) (capacity : ℕ) (stop : Condition → Bool) (l : List (Entry Condition))
    (ended : expand (unit_domain A goal) A.count capacity stop ≡ exhausted l) where
  abbrev D : Domain ℕ Condition ℕ
  D = unit_domain A goal

  covered_iff : (s : ℕ) → CoveredBy D l s ↔ ((w : List ℕ) × Reaches D s w)
  covered_iff = fact_covered_iff A goal capacity stop separate l ended

  pub distance_agrees : (s n : ℕ) → Distance D s n → Agrees D l s n
  distance_agrees s n (fewest w p e h) =
      record {
        first_depth_is = λ i f. fact_distance A goal capacity stop separate l ended s i f n w p.reaches e (λ v r. omega (arith, e, p.least v r));
        none_met = ((λ z. absurd (omega (arith, z))), (λ c. absurd (c ((covered_iff s).1 (w, p.reaches)))));
      }
  distance_agrees s n (none p e) =
      let uncovered : CoveredBy D l s → ⊥ = λ c. let (w, r) = (covered_iff s).0 c in p w r in
      record {
        first_depth_is = λ i f. absurd (uncovered (record { at = i; inside = f.inside; met = f.met }));
        none_met = ((λ z. uncovered), (λ c. e));
      }
