-- What ticks promise, of any tree: a settled answer stands however the unread facts turn out, and so does the leaf that decided it; and where
-- nothing is unread, every answer is settled. Document 01, "Ticking".
-- Assumes nothing.
use Rattle.std.specs.Prelude.{ℕ, ◌≡◌, Bool, List, if◌then◌else◌}
use Rattle.std.proofs.Common.{arith, sym, ◌∙◌}
use Rattle.std.proofs.Math.Path.{refl}
use Rattle.std.proofs.Math.Bool.{true, false}
use Rattle.reading.specs.declared.Reading.{Reading}
use Rattle.reading.specs.Reading.{Completes, state}
use Rattle.conditions.specs.declared.Evaluation.{Evaluation}
use Rattle.conditions.specs.declared.Evaluation.TheVariants.{Met, Missed, Open}
use Rattle.conditions.specs.Condition.{satisfied}
use Rattle.conditions.specs.OnReading.{evaluated}
use Rattle.conditions.specs.OnReadingLaws.{evaluated_state, met_everywhere, missed_everywhere}
use Rattle.tree.specs.declared.Kind.{Kind}
use Rattle.tree.specs.declared.Kind.TheVariants.{Fallback, Sequence}
use Rattle.tree.specs.declared.Leaf.{Leaf}
use Rattle.tree.specs.declared.Leaf.TheVariants.{Condition, Action, Wait}
use Rattle.tree.specs.declared.Status.{Status}
use Rattle.tree.specs.declared.Status.TheVariants.{Success, Failure, Running, Unsettled, Waiting}
use Rattle.tree.specs.Tree.{Tree, Row, leaf, node, one, more}
use Rattle.tree.specs.Tick.{status_of, leaf_answer, goes_on, continue_table, tick_by, tick_row}
use Rattle.tree.specs.TickBytes.{is_settled}

clash : {P : Type 0} → ◌≡◌ {A = Bool} false true → P
clash e = let z : ◌≡◌ {A = ℕ} 0 1 = cc in absurd (omega arith)

-- ---- a row, way by way

module _ (rows : List (List Bool)) (r : Reading) (t : Tree) (row : Row) (kind : Kind) where
  pub row_on : goes_on rows kind (tick_by rows r t).answer ≡ true → tick_row rows r (more t row) kind ≡ tick_row rows r row kind
  unfolding tick_by
  row_on e = rw e

  pub row_stop : goes_on rows kind (tick_by rows r t).answer ≡ false → tick_row rows r (more t row) kind ≡ tick_by rows r t
  unfolding tick_by
  row_stop e = rw e

-- ---- one leaf

settled_leaf : (r : Reading) (s : ℕ) → Completes r s → (x : Leaf) → is_settled (leaf_answer r x) ≡ true → leaf_answer (state s) x ≡ leaf_answer r x
settled_leaf r s fills (Action job) h = refl
settled_leaf r s fills Wait h = refl
settled_leaf r s fills (Condition c) h = by_reading (evaluated r c) refl h
  where
    by_reading : (v : Evaluation) → evaluated r c ≡ v → is_settled (status_of v) ≡ true → status_of (evaluated (state s) c) ≡ status_of (evaluated r c)
    by_reading Met e h = rw (e, met_everywhere r s fills c e)
    by_reading Missed e h = rw (e, missed_everywhere r s fills c e)
    by_reading (Open m) e h = clash h

state_leaf : (s : ℕ) (x : Leaf) → is_settled (leaf_answer (state s) x) ≡ true
state_leaf s (Action job) = refl
state_leaf s Wait = refl
state_leaf s (Condition c) = rw (evaluated_state s c) (either (satisfied c s))
  where
    either : (b : Bool) → is_settled (status_of (if b then Met else Missed)) ≡ true
    either true = refl
    either false = refl

-- ---- any tree, and any rows that do not go on after Unsettled

module _ (rows : List (List Bool)) (stops : (kind : Kind) (mask : ℕ) → goes_on rows kind (Unsettled mask) ≡ false) (r : Reading) (s : ℕ) (fills : Completes r s) where
  -- what the tick went past was settled
  passed : (kind : Kind) (a : Status) → goes_on rows kind a ≡ true → is_settled a ≡ true
  passed kind Success e = refl
  passed kind Failure e = refl
  passed kind (Running job) e = refl
  passed kind (Unsettled mask) e = clash (sym (stops kind mask) ∙ e)
  passed kind Waiting e = refl

  settled_more : (t : Tree) (row : Row) (kind : Kind)
      → (is_settled (tick_by rows r t).answer ≡ true → tick_by rows (state s) t ≡ tick_by rows r t)
      → (is_settled (tick_row rows r row kind).answer ≡ true → tick_row rows (state s) row kind ≡ tick_row rows r row kind)
      → is_settled (tick_row rows r (more t row) kind).answer ≡ true → tick_row rows (state s) (more t row) kind ≡ tick_row rows r (more t row) kind
  unfolding tick_by
  settled_more t row kind first rest h = by_first (goes_on rows kind (tick_by rows r t).answer) refl
    where
      by_first : (g : Bool) → goes_on rows kind (tick_by rows r t).answer ≡ g → tick_row rows (state s) (more t row) kind ≡ tick_row rows r (more t row) kind
      by_first true e = let same = first (passed kind (tick_by rows r t).answer e) in rw (same, e) (rest (rw e at h))
      by_first false e = let same = first (rw e at h) in rw (same, e)

  mutual
    unfolding tick_by

    -- a settled tick: each way of filling in the unread facts leads to the same leaf, with the same answer
    pub settled_tree : (t : Tree) → is_settled (tick_by rows r t).answer ≡ true → tick_by rows (state s) t ≡ tick_by rows r t
    settled_tree (leaf x at) h = let e = settled_leaf r s fills x h in rw e
    settled_tree (node kind row) h = settled_row row kind h

    pub settled_row : (row : Row) (kind : Kind) → is_settled (tick_row rows r row kind).answer ≡ true → tick_row rows (state s) row kind ≡ tick_row rows r row kind
    settled_row (one t) kind h = settled_tree t h
    settled_row (more t row) kind h = settled_more t row kind (λ k. settled_tree t k) (λ k. settled_row row kind k) h

-- document 01's rows go on after Unsettled in no node
pub table_stops : (kind : Kind) (mask : ℕ) → goes_on continue_table kind (Unsettled mask) ≡ false
table_stops Fallback mask = refl
table_stops Sequence mask = refl

-- ---- a state, by any rows

module _ (rows : List (List Bool)) (s : ℕ) where
  state_more : (t : Tree) (row : Row) (kind : Kind) → is_settled (tick_by rows (state s) t).answer ≡ true → is_settled (tick_row rows (state s) row kind).answer ≡ true
      → is_settled (tick_row rows (state s) (more t row) kind).answer ≡ true
  unfolding tick_by
  state_more t row kind first rest = by_first (goes_on rows kind (tick_by rows (state s) t).answer) refl
    where
      by_first : (g : Bool) → goes_on rows kind (tick_by rows (state s) t).answer ≡ g → is_settled (tick_row rows (state s) (more t row) kind).answer ≡ true
      by_first true e = rw e rest
      by_first false e = rw e first

  mutual
    unfolding tick_by

    pub state_settled : (t : Tree) → is_settled (tick_by rows (state s) t).answer ≡ true
    state_settled (leaf x at) = state_leaf s x
    state_settled (node kind row) = state_row row kind

    pub state_row : (row : Row) (kind : Kind) → is_settled (tick_row rows (state s) row kind).answer ≡ true
    state_row (one t) kind = state_settled t
    state_row (more t row) kind = state_more t row kind (state_settled t) (state_row row kind)
