-- Sweeps over a row of labels, one for each state, until they are the states' distances: what each function of them leaves in the row. A label is the
-- length of some sequence that reaches the goal from the state, or 65,535; a sweep lowers labels by where one action leads, forward.
-- Definitions only.
use Rattle.std.specs.Prelude.{◌≡◌, Bool, true, false, List, ℕ, suc, ◌+◌, ◌≤◌, ◌<◌, T, eqb, length, if◌then◌else◌}
use Rattle.base.specs.Lists.{sum}
use Rattle.conditions.specs.declared.Condition.{Condition}
use Rattle.planning.specs.Sequence.{Reaches}
use Rattle.planning.specs.Facts.{Actions}
use Rattle.distance_steps.specs.Distance.{no_distance, Distance}
use Rattle.distance_steps.specs.Steps.{label_of, D}

-- 1 for a state that has no label yet
abbrev pub none_at : List ℕ → ℕ → ℕ
none_at row s = if eqb (label_of row s) no_distance then 1 else 0

-- how many of the first n states have none
abbrev pub unlabelled : List ℕ → ℕ → ℕ
unlabelled row n = sum (none_at row) n

module _ (A : Actions) (goal : Condition) where
  -- ---- one state

  -- no action leads nearer than the state's own label says
  abbrev pub ClosedAt : List ℕ → ℕ → Type 0
  ClosedAt row s = (a : ℕ) → T ((D A goal).applicable a s) → label_of row s ≤ suc (label_of row ((D A goal).result a s))

  -- no sequence of at most so many actions is shorter than the state's label
  abbrev pub UpTo : ℕ → List ℕ → ℕ → Type 0
  UpTo most row s = (w : List ℕ) → Reaches (D A goal) s w → length w ≤ most → label_of row s ≤ length w

  -- ---- the row, after so many sweeps

  pub record Level (done : ℕ) (row : List ℕ) : Type 0 where
    -- each label is the length of a sequence
    pub sound : (s : ℕ) → s < length row → label_of row s < no_distance → (w : List ℕ) × Reaches (D A goal) s w × (length w ≡ label_of row s)
    -- and no sequence of at most `done` actions is shorter: what is so far away has its distance
    pub upto : (s : ℕ) → s < length row → UpTo done row s
    -- a label is less than the states that have one
    pub small : (s : ℕ) → s < length row → label_of row s < no_distance → label_of row s + unlabelled row (length row) < length row

  -- what is known where the state s is looked at
  pub record Looking (done : ℕ) (row : List ℕ) (s : ℕ) : Type 0 where
    pub level : Level done row
    pub inside : s < length row
    pub early : done < length row
    pub few : length row ≤ 32768
    pub word : (k : ℕ) → label_of row k ≤ no_distance
    pub stays : (a k : ℕ) → k < length row → T ((D A goal).applicable a k) → (D A goal).result a k < length row

  -- Within a sweep: the state s was looked at, and `changed` says whether it got a lower label. Where it did, there are more states than sweeps.
  pub record Improves (done s : ℕ) (before after : List ℕ) (changed : Bool) : Type 0 where
    pub level : Level done after
    pub sized : length after ≡ length before
    pub lowers : (k : ℕ) → label_of after k ≤ label_of before k
    pub next : UpTo (suc done) after s
    pub quiet : changed ≡ false → (after ≡ before) × ClosedAt after s
    pub moved : changed ≡ true → (suc done < length after) × (label_of after s < label_of before s)

  -- A sweep that came from the last state down to the state i, and is whole where i is 0. `changed` says whether some state got a lower label.
  pub record SweptTo (done i : ℕ) (before after : List ℕ) (changed : Bool) : Type 0 where
    pub level : Level done after
    pub sized : length after ≡ length before
    pub lowers : (k : ℕ) → label_of after k ≤ label_of before k
    pub next : (s : ℕ) → i ≤ s → s < length after → UpTo (suc done) after s
    pub quiet : changed ≡ false → (after ≡ before) × ((s : ℕ) → i ≤ s → s < length after → ClosedAt after s)
    pub moved : changed ≡ true → (suc done < length after) × (s : ℕ) × (label_of after s < label_of before s)

  -- ---- all sweeps

  -- each state's label stands for its distance
  pub record Distances (before after : List ℕ) : Type 0 where
    pub sized : length after ≡ length before
    pub each : (s : ℕ) → s < length after → Distance (D A goal) s (label_of after s)
