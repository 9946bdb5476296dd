-- The list of conditions that a plan makes, read by index, and what can be said of it: document 01, "Expansion" and "Work on a vehicle".
-- The length of the list stands apart, so that what is said of an entry does not change as the list grows.
-- Definitions only.
use Rattle.std.specs.Prelude.{◌≡◌, List, [], ◌∷◌, ℕ, zero, suc, ◌+◌, ◌≤◌, ◌<◌, T}
use Rattle.planning.specs.Domain.{Domain}
use Rattle.planning.specs.Sequence.{Answer, success, running, total, Shortest, Run}

pub record Listing (Condition Action : Type 0) : Type 0 where
  pub condition : ℕ → Condition
  pub action : ℕ → Action
  pub parent : ℕ → ℕ
  -- the cost of the actions from the entry to the goal: document 01's depth, where each action costs 1
  pub cost : ℕ → ℕ

module _ {Condition Action : Type 0} (P : Listing Condition Action) where
  -- the actions from entry i along the parents, at most `most` of them
  abbrev pub path_up_to : ℕ → ℕ → List Action
  path_up_to zero i = []
  path_up_to (suc most) zero = []
  path_up_to (suc most) (suc i) = P.action (suc i) ∷ path_up_to most (P.parent (suc i))

  -- document 01: the way "from the covering entry along parents to entry 0"; a parent is an earlier entry, so entry i has at most i actions to go
  abbrev pub path : ℕ → List Action
  path i = path_up_to i i

  -- what a tick is to answer where entry i is the first one met
  abbrev pub answer_at : ℕ → Answer Action
  answer_at zero = success
  answer_at (suc i) = running (P.action (suc i))

-- Of a list P, its first n entries:
module _ {State Condition Action : Type 0} (D : Domain State Condition Action) (P : Listing Condition Action) where
  -- c need not be stored: one of the entries has a weaker condition
  pub record Subsumed (n : ℕ) (c : Condition) : Type 0 where
    pub at : ℕ
    pub inside : at < n
    pub is_weaker : T (D.weaker (P.condition at) c)

  -- and that entry costs at most so much
  pub record SubsumedWithin (n most : ℕ) (c : Condition) : Type 0 where
    pub subsumed : Subsumed n c
    pub cheap : P.cost subsumed.at ≤ most

  -- "It is covered when it meets a condition of the list"
  pub record Covered (n : ℕ) (s : State) : Type 0 where
    pub at : ℕ
    pub inside : at < n
    pub met : T (D.satisfies s (P.condition at))

  pub record CoveredWithin (n most : ℕ) (s : State) : Type 0 where
    pub covered : Covered n s
    pub cheap : P.cost covered.at ≤ most

  -- entry i is the first one that s meets
  pub record First (n : ℕ) (s : State) (i : ℕ) : Type 0 where
    pub inside : i < n
    pub met : T (D.satisfies s (P.condition i))
    pub none_before : (k : ℕ) → k < i → T (D.satisfies s (P.condition k)) → ⊥

  -- entry i comes from its parent by its action
  pub record Derived (i : ℕ) : Type 0 where
    pub parent_before : P.parent i < i
    pub action_relevant : T (D.relevant (P.action i) (P.condition (P.parent i)))
    pub condition_regressed : P.condition i ≡ D.regress (P.action i) (P.condition (P.parent i))
    pub condition_satisfiable : T (D.satisfiable (P.condition i))
    pub cost_added : P.cost i ≡ D.cost (P.action i) + P.cost (P.parent i)
    -- What the action makes of the entries before the parent was listed before this entry. It is why the run keeps to the parents: the
    -- state after the action can meet no entry before the parent.
    pub settled : (j : ℕ) → j < P.parent i → T (D.relevant (P.action i) (P.condition j))
        → T (D.satisfiable (D.regress (P.action i) (P.condition j))) → Subsumed i (D.regress (P.action i) (P.condition j))

  -- the list begins with the goal, each later entry comes from its parent, and costs never fall
  pub record Good (n : ℕ) : Type 0 where
    pub nonempty : 0 < n
    pub goal_first : P.condition 0 ≡ D.goal
    pub goal_free : P.cost 0 ≡ 0
    pub derived : (i : ℕ) → 0 < i → i < n → Derived i
    pub rising : (i k : ℕ) → i ≤ k → k < n → P.cost i ≤ P.cost k

  -- no entry has a weaker one before it
  abbrev pub Fresh : ℕ → Type 0
  Fresh n = (i k : ℕ) → k < i → i < n → T (D.weaker (P.condition k) (P.condition i)) → ⊥

  -- the list is complete below a cost: whatever one more action makes of an entry for less than `bound` is subsumed at no higher cost
  abbrev pub Closed : ℕ → ℕ → Type 0
  Closed n bound =
      (j : ℕ) → j < n → (a : Action) → T (D.relevant a (P.condition j)) → T (D.satisfiable (D.regress a (P.condition j)))
      → D.cost a + P.cost j < bound → SubsumedWithin n (D.cost a + P.cost j) (D.regress a (P.condition j))

  -- The run from s takes the path of entry i; it reaches the goal at the entry's cost, and no sequence that reaches the goal costs less.
  pub record Optimal (tick : State → Answer Action) (s : State) (i : ℕ) : Type 0 where
    pub run : Run D tick s (path P i)
    pub shortest : Shortest D (total D) s (path P i)
    pub exact : total D (path P i) ≡ P.cost i
