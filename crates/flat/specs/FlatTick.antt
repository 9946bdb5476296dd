-- The tick of a list's tree, entry by entry, and what is said of its answers: document 01, "Ticking"; document 02, W12.
-- Definitions only.
use Rattle.std.specs.Prelude.{ℕ, ◌<◌, ◌≡◌, Bool, true, false, List, [], ◌∷◌, T, length, get_or}
use Rattle.reading.specs.declared.Reading.{Reading}
use Rattle.conditions.specs.declared.Evaluation.TheVariants.{Met, Missed, Open}
use Rattle.conditions.specs.declared.Condition.{Condition}
use Rattle.conditions.specs.Condition.{consistent, satisfied}
use Rattle.conditions.specs.OnReading.{evaluated, Confirmed}
use Rattle.planning.specs.Expansion.{Entry}
use Rattle.tree.specs.declared.Status.{Status}
use Rattle.tree.specs.declared.Status.TheVariants.{Success, Failure, Running, Unsettled, Waiting}
use Rattle.tree.specs.Tick.{Verdict}
use Rattle.flat.specs.TreeBytes.{condition_at, action_at, past_entry, root_condition_at}
use Rattle.flat.specs.FlatTree.{later_at, Each}

abbrev pub verdict : Status → ℕ → Verdict
verdict a leaf = record { answer = a; leaf = leaf }

-- what an action's leaf answers, to the one whose it is and to another: "one of them is given a job and the other waits"
abbrev pub leaf_status : (mine : Bool) → ℕ → Status
leaf_status true action = Running action
leaf_status false action = Waiting

module _ (mine : ℕ → Bool) (paired : Bool) (r : Reading) where
  -- the entries after the first, from an offset on; the leaf before them failed
  unfoldable pub later_verdict : ℕ → List (Entry Condition) → ℕ → Verdict
  later_verdict before [] at = verdict Failure before
  later_verdict before (x ∷ l) at =
      elim (evaluated r x.condition) [
        | Met ↦ verdict (leaf_status (mine x.action) x.action) (action_at paired x at)
        | Missed ↦ later_verdict (condition_at at) l (past_entry mine paired x at)
        | Open m ↦ verdict (Unsettled m) (condition_at at)
      ]

  -- a list of entry 0 and others
  unfoldable pub list_verdict : Entry Condition → List (Entry Condition) → Verdict
  list_verdict x l =
      elim (evaluated r x.condition) [
        | Met ↦ verdict Success (root_condition_at (length (x ∷ l)))
        | Missed ↦ later_verdict (root_condition_at (length (x ∷ l))) l (later_at paired (length (x ∷ l)) x)
        | Open m ↦ verdict (Unsettled m) (root_condition_at (length (x ∷ l)))
      ]

-- what a tick of the tree with all actions answers, as one sees it who has some of them
abbrev pub seen_by : (mine : ℕ → Bool) → Status → Status
seen_by mine Success = Success
seen_by mine Failure = Failure
seen_by mine (Running action) = leaf_status (mine action) action
seen_by mine (Unsettled mask) = Unsettled mask
seen_by mine Waiting = Waiting

-- ---- what is asked of the list

-- no listed condition wants a fact both ways: "A pair that wants a fact both ways is dropped"
abbrev pub Consistent : List (Entry Condition) → Type 0
Consistent = Each (λ x. T (consistent x.condition))

-- ---- entries by their places; `none` is what stands past the last one

module _ (none : Entry Condition) where
  -- the job is that of an entry whose condition is read, and met by what was read
  pub record Named (l : List (Entry Condition)) (r : Reading) (job : ℕ) : Type 0 where
    pub at : ℕ
    pub inside : at < length l
    pub is_action : (get_or l at none).action ≡ job
    pub confirmed : Confirmed r (get_or l at none).condition

  -- a state meets no listed condition
  abbrev pub NoneMet : List (Entry Condition) → ℕ → Type 0
  NoneMet l s = (i : ℕ) → i < length l → T (satisfied (get_or l i none).condition s) → ⊥
