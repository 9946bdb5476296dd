-- What two answers come to, each with each, computed from the definition.
-- Assumes nothing.
use Rattle.std.specs.Prelude.{ℕ, ◌≡◌, refl, List, [], ◌∷◌, map}
use Rattle.refusal.specs.Checked.{Checked, accepted, refused}
use Rattle.planning.specs.Sequence.{Answer, success, running, other}
use Rattle.tree.specs.declared.Status.{Status}
use Rattle.tree.specs.declared.Status.TheVariants.{Success, Failure, Running, Unsettled, Waiting}
use Rattle.runs.specs.Joint.{joint}

-- each status, and a refusal
abbrev answers : List (Checked Status)
answers = accepted Success ∷ accepted Failure ∷ accepted (Running 3) ∷ accepted (Unsettled 1) ∷ accepted Waiting ∷ refused 8 0 ∷ []

-- the first fitter's from row to row, the second's within a row
abbrev together : List (List (Answer ℕ))
together = map (λ first. map (joint first) answers) answers

pub joined : together
    ≡ (success ∷ other ∷ other ∷ other ∷ other ∷ other ∷ [])
    ∷ (other ∷ other ∷ other ∷ other ∷ other ∷ other ∷ [])
    ∷ (other ∷ other ∷ other ∷ other ∷ running 3 ∷ other ∷ [])
    ∷ (other ∷ other ∷ other ∷ other ∷ other ∷ other ∷ [])
    ∷ (other ∷ other ∷ running 3 ∷ other ∷ other ∷ other ∷ [])
    ∷ (other ∷ other ∷ other ∷ other ∷ other ∷ other ∷ []) ∷ []
joined = refl
