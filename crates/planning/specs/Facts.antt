-- The domain of document 01, with the pairs of document 02, W10: states are sets of facts, conditions and actions are those of crate `conditions`,
-- and the actions are the jobs of a table, by their numbers.
-- Definitions only; FactLaws.antt has the laws and the theorems.
use Rattle.std.specs.Prelude.{◌≡◌, Bool, false, not, ◌&&◌, ℕ, ◌<◌, T, ltb}
use Rattle.masks.specs.Sets.{intersects}
use Rattle.conditions.specs.declared.Action.{Action}
use Rattle.conditions.specs.declared.Condition.{Condition}
use Rattle.conditions.specs.Condition.{weaker, consistent, satisfied, needed, applied, relevant, regressed, condition_within, ActionWithin}
use Rattle.planning.specs.Domain.{Domain}
use Rattle.planning.specs.Expansion.{Outcome, expand}

-- the actions below `count`, however a table holds them
pub record Actions : Type 0 where
  pub count : ℕ
  pub action : ℕ → Action

-- what each action costs, and the goal, stand apart: the same actions are planned for the fewest of them, or for the least of their seconds
abbrev pub fact_domain : Actions → (ℕ → ℕ) → Condition → Domain ℕ Condition ℕ
fact_domain A cost goal =
    record {
      satisfies = λ s c. satisfied c s;
      -- "It is applicable when all its needs are held", and "has its absent facts absent too"
      applicable = λ a s. ltb a A.count && satisfied (needed (A.action a)) s;
      result = λ a s. applied (A.action a) s;
      relevant = λ a c. ltb a A.count && relevant (A.action a) c;
      regress = λ a c. regressed (A.action a) c;
      -- "A pair that wants a fact both ways is dropped"
      satisfiable = consistent;
      weaker = weaker;
      cost = cost;
      goal = goal;
    }

-- each action counts as one
abbrev pub unit_domain : Actions → Condition → Domain ℕ Condition ℕ
unit_domain A goal = fact_domain A (λ a. 1) goal

-- the expansion of a goal, with the test of a condition that ends the list
abbrev pub fact_plan : Actions → Condition → ℕ → (Condition → Bool) → Outcome Condition
fact_plan A goal capacity stop = expand (unit_domain A goal) A.count capacity stop

-- document 01's plan: "The list stops at the first entry, 0 included, whose condition is part of the start", which is that the start meets it
abbrev pub start_plan : Actions → Condition → ℕ → ℕ → Outcome Condition
start_plan A goal capacity start = fact_plan A goal capacity (λ c. satisfied c start)

-- document 02, W2: a plan that "takes no start and stops only when all entries are expanded or number 10 arises"
abbrev pub shift_plan : Actions → Condition → ℕ → Outcome Condition
shift_plan A goal capacity = fact_plan A goal capacity (λ c. false)

-- no action adds a fact that it deletes: number 6
abbrev pub Separate : Actions → Type 0
Separate A = (a : ℕ) → a < A.count → T (not (intersects (A.action a).adds (A.action a).deletes))

-- nothing is to be absent, for any action or at the goal: the table has no 0x21
pub record Plain (A : Actions) (goal : Condition) : Type 0 where
  pub goal_plain : goal.absent ≡ 0
  pub actions_plain : (a : ℕ) → a < A.count → (A.action a).absent ≡ 0

-- the goal and the actions keep to the facts below f
pub record WithinFacts (f : ℕ) (A : Actions) (goal : Condition) : Type 0 where
  pub goal_within : T (condition_within f goal)
  pub actions_within : (a : ℕ) → a < A.count → ActionWithin f (A.action a)
