-- The workshop's checklist, on the trailer's table and on that with one fact less: what each of the 243 readings of five facts gives on P1's tree, and
-- each of the 81 of four on the other's. The theorems behind it hold of every table (`planner`, Promise.antt); here they are seen on these.
-- Definitions only; Computed.antt and PairsComputed.antt compute them.
use Rattle.std.specs.Prelude.{ℕ, zero, suc, ◌+◌, ◌*◌, ◌^◌, Bool, true, false, not, ◌&&◌, ◌||◌, List, [], ◌∷◌, ◌++◌, map, eqb, length, take}
use Rattle.masks.specs.Sets.{subset, intersects, union}
use Rattle.refusal.specs.Checked.{Checked, accepted, refused}
use Rattle.reading.specs.declared.Reading.{Reading}
use Rattle.reading.specs.Reading.{state}
use Rattle.conditions.specs.declared.Condition.{Condition}
use Rattle.tree.specs.declared.Leaf.TheVariants.{Action}
use Rattle.tree.specs.declared.Status.{Status}
use Rattle.tree.specs.declared.Status.TheVariants.{Success, Failure, Running, Unsettled, Waiting}
use Rattle.tree.specs.Tree as Shape
use Rattle.tree.specs.ReadTree.{read_tree}
use Rattle.tree.specs.Tick.{Verdict, tick_tree}
use Rattle.tree.specs.TickBytes.{is_settled}
use Rattle.table.specs.Table.{Table}
use Rattle.planning.specs.Expansion.{Entry}
use Rattle.builder.specs.Plan.{job_of}
use Rattle.marked_cases.specs.Trailer.{trailer}
use Rattle.marked_cases.specs.OneFactLess.{one_fact_less}
use Rattle.marked_cases.specs.Cases.{reading, p1_plan, less_whole, less_tree}

-- ---- the readings, and the ways of filling in their unread facts

-- each fact is held, unread, or read and absent; `weight` is the bit of the first of the facts that are left
unfoldable pub readings_from : ℕ → ℕ → List Reading → List Reading
readings_from zero weight rs = rs
readings_from (suc left) weight rs =
    readings_from left (2 * weight)
    (rs ++ (map (λ r. reading (r.held + weight) r.unread) rs ++ map (λ r. reading r.held (r.unread + weight)) rs))

-- of so many facts
abbrev pub readings : ℕ → List Reading
readings facts = readings_from facts 1 (reading 0 0 ∷ [])

-- the states that fill in the unread facts of a reading: of all states, those that have each held fact and no absent one
abbrev states : ℕ → List ℕ
states zero = []
states (suc n) = n ∷ states n

abbrev completes : Reading → ℕ → Bool
completes r s = subset r.held s && subset s (union r.held r.unread)

abbrev every : {A : Type 0} → (A → Bool) → List A → Bool
every p [] = true
every p (x ∷ l) = p x && every p l

-- ---- the checklist, for a reading and what the tree answers

abbrev code_of : Status → ℕ
code_of Success = 0
code_of Failure = 1
code_of (Running job) = 4 * job + 2
code_of (Unsettled mask) = 4 * mask + 3
code_of Waiting = 4

abbrev same : Verdict → Verdict → Bool
same v w = eqb (code_of v.answer) (code_of w.answer) && eqb v.leaf w.leaf

abbrev is_failure : Status → Bool
is_failure Success = false
is_failure Failure = true
is_failure (Running job) = false
is_failure (Unsettled mask) = false
is_failure Waiting = false

-- each of these facts is read and held, and each of those is read and absent
abbrev read_held : ℕ → Reading → Bool
read_held facts r = subset facts r.held && not (intersects facts r.unread)

abbrev read_absent : ℕ → Reading → Bool
read_absent facts r = not (intersects facts (union r.held r.unread))

-- a state meets a listed condition
abbrev any_met : ℕ → List (Entry Condition) → Bool
any_met s [] = false
any_met s (x ∷ l) = (subset x.condition.present s && not (intersects x.condition.absent s)) || any_met s l

-- on a table, whose job 4 is the seal, which needs the circumferences `known`
module _ (t : Table) (known : ℕ) where
  -- "Wheel sensor read? No pulse count is not zero pulses." A settled answer stands in every filling-in.
  abbrev stands : Shape.Tree → Reading → Bool
  stands tree r =
      elim (is_settled (tick_tree r tree).answer) [
        | true ↦ every (λ s. elim (completes r s) [ true ↦ same (tick_tree (state s) tree) (tick_tree r tree) | false ↦ true ]) (states (2 ^ t.facts))
        | false ↦ true
      ]

  -- "Trailer still coupled?" A job is named only where all its needs are read and held in the reading just given, and its absent facts read and absent.
  abbrev needs_held : Status → Reading → Bool
  needs_held (Running job) r = read_held (job_of t job).needs r && read_absent (job_of t job).absent r
  needs_held Success r = true
  needs_held Failure r = true
  needs_held (Unsettled mask) r = true
  needs_held Waiting r = true

  -- "Both circumferences in before the seal?" Job 4 is named only where both are read and held.
  abbrev sealed : Status → Reading → Bool
  sealed (Running job) r = not (eqb job 4) || read_held known r
  sealed Success r = true
  sealed Failure r = true
  sealed (Unsettled mask) r = true
  sealed Waiting r = true

  -- "Vehicle sent away as impossible?" Where all facts are read, the tree fails exactly where no listed condition is met.
  abbrev fails_rightly : List (Entry Condition) → Status → Reading → Bool
  fails_rightly list a r = not (eqb r.unread 0) || (is_failure a && not (any_met r.held list)) || (not (is_failure a) && any_met r.held list)

  abbrev keeps : Shape.Tree → List (Entry Condition) → Reading → Bool
  keeps tree list r =
      stands tree r && (needs_held (tick_tree r tree).answer r && (sealed (tick_tree r tree).answer r && fails_rightly list (tick_tree r tree).answer r))

  -- a tree, read from its bytes
  abbrev tree_in : Checked Shape.Tree → Shape.Tree
  tree_in (accepted tree) = tree
  tree_in (refused n p) = Shape.leaf (Action 0) 0

  -- all readings keep it
  abbrev kept : List ℕ → List (Entry Condition) → Bool
  kept tree list = every (keeps (tree_in (read_tree tree t.facts (length t.jobs))) list) (readings t.facts)

abbrev pub checklist : Bool
checklist = kept trailer 0x0c p1_plan.tree p1_plan.list

abbrev pub less_checklist : Bool
less_checklist = kept one_fact_less 0x06 less_tree (take 7 less_whole)
