-- A tick from the bytes of a table and of a tree, and when its answer is settled: document 01, "Ticking" and "Stops, in checking order";
-- document 02, W12.
-- Definitions only.
use Rattle.std.specs.Prelude.{ℕ, ◌≡◌, Bool, true, false, List, length}
use Rattle.refusal.specs.Checked.{Checked, accepted, and_then}
use Rattle.reading.specs.declared.Reading.{Reading}
use Rattle.reading.specs.Reading.{checked_at, Completes, state}
use Rattle.table.specs.Read.{read_table}
use Rattle.tree.specs.declared.Status.{Status}
use Rattle.tree.specs.declared.Status.TheVariants.{Success, Failure, Running, Unsettled, Waiting}
use Rattle.tree.specs.ReadTree.{read_tree}
use Rattle.tree.specs.Tick.{Verdict, tick_tree}

-- a tree's bytes and a reading, for a table with so many facts and jobs; the place of 8 is its caller's
unfoldable pub tick_checked : (facts jobs : ℕ) → List ℕ → (place : ℕ) → Reading → Checked Verdict
tick_checked facts jobs tree place r = and_then (checked_at facts place r) λ s. and_then (read_tree tree facts jobs) λ t. accepted (tick_tree s t)

-- the table's own stops first, then the reading (8, with place 0), then the tree (13 to 15), to its last byte; then the tick
unfoldable pub tick_bytes : List ℕ → List ℕ → Reading → Checked Verdict
tick_bytes table tree r = and_then (read_table table) λ t. tick_checked t.facts (length t.jobs) tree 0 r

abbrev pub answered : Checked Verdict → Checked Status
answered r = and_then r λ v. accepted v.answer

-- ---- settled answers

abbrev pub is_settled : Status → Bool
is_settled Success = true
is_settled Failure = true
is_settled (Running job) = true
is_settled (Unsettled mask) = false
is_settled Waiting = true

-- However the unread facts turn out, the same leaf of the tree decides, and the answer is the same.
pub record SettledBy (tick : Reading → Checked Verdict) (r : Reading) (a : Status) : Type 0 where
  pub leaf : ℕ
  pub here : tick r ≡ accepted (record { answer = a; leaf = leaf })
  pub everywhere : (s : ℕ) → Completes r s → tick (state s) ≡ accepted (record { answer = a; leaf = leaf })

abbrev pub Settled : List ℕ → List ℕ → Reading → Status → Type 0
Settled table tree = SettledBy (tick_bytes table tree)
