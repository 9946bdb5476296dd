-- The tick of a tree on a reading: document 01, "Ticking"; document 02, W12.
-- Definitions only.
use Rattle.std.specs.Prelude.{ℕ, Bool, true, false, List, [], ◌∷◌, get_or, if◌then◌else◌}
use Rattle.reading.specs.declared.Reading.{Reading}
use Rattle.conditions.specs.declared.Evaluation.{Evaluation}
use Rattle.conditions.specs.declared.Evaluation.TheVariants.{Met, Missed, Open}
use Rattle.conditions.specs.OnReading.{evaluated}
use Rattle.tree.specs.declared.Kind.{Kind}
use Rattle.tree.specs.declared.Kind.TheVariants.{Fallback, Sequence}
use Rattle.tree.specs.declared.Leaf.{Leaf}
use Rattle.tree.specs.declared.Leaf.TheVariants.{Condition, Action, Wait}
use Rattle.tree.specs.declared.Status.{Status}
use Rattle.tree.specs.declared.Status.TheVariants.{Success, Failure, Running, Unsettled, Waiting}
use Rattle.tree.specs.Tree.{Tree, Row, leaf, node, one, more}

-- "A condition fails if one of its facts is read and absent; otherwise it is unsettled, with the mask of its unread facts, if it has any; otherwise
-- it succeeds."
abbrev pub status_of : Evaluation → Status
status_of Met = Success
status_of Missed = Failure
status_of (Open unread) = Unsettled unread

abbrev pub leaf_answer : Reading → Leaf → Status
leaf_answer r (Condition c) = status_of (evaluated r c)
-- "A job leaf answers Running with its number."
leaf_answer r (Action job) = Running job
-- document 02, W12: "a waiting leaf .., which answers Running and names no job"
leaf_answer r Wait = Waiting

-- "Whether to go on is read from two rows of four, by node and by Success, Failure, Running, Unsettled."

abbrev pub kind_index : Kind → ℕ
kind_index Fallback = 0
kind_index Sequence = 1

abbrev pub status_index : Status → ℕ
status_index Success = 0
status_index Failure = 1
status_index (Running job) = 2
status_index (Unsettled mask) = 3
-- it "answers Running"
status_index Waiting = 2

abbrev pub goes_on : List (List Bool) → Kind → Status → Bool
goes_on rows kind answer = get_or (get_or rows (kind_index kind) []) (status_index answer) false

-- "A sequence .. goes on after Success; a fallback goes on after Failure"
abbrev pub continue_table : List (List Bool)
continue_table = (false ∷ true ∷ false ∷ false ∷ []) ∷ (true ∷ false ∷ false ∷ false ∷ []) ∷ []

-- the answer, and the offset of the leaf that decided it
pub record Verdict : Type 0 where
  pub answer : Status
  pub leaf : ℕ

-- A row is ticked "from the left .. ; the last child's answer stands if all were passed".
module _ (rows : List (List Bool)) (r : Reading) where
  unfoldable mutual
    pub tick_by : Tree → Verdict
    tick_by (leaf x at) = record { answer = leaf_answer r x; leaf = at }
    tick_by (node kind row) = tick_row row kind

    pub tick_row : Row → Kind → Verdict
    tick_row (one t) kind = tick_by t
    tick_row (more t row) kind = let rest = tick_row row kind in if goes_on rows kind (tick_by t).answer then rest else tick_by t

abbrev pub tick_tree : Reading → Tree → Verdict
tick_tree = tick_by continue_table
