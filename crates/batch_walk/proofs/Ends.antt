-- The walk ends where no vehicle goes on after an entry.
-- Assumes nothing.
use Rattle.std.proofs.Common.{ℕ, ◌+◌, ◌-◌, ◌<◌, ◌≤◌, ◌≡◌, get_or, arith}
use Rattle.conditions.specs.declared.Condition.{Condition}
use Rattle.conditions.specs.Condition.{condition_at}
use Rattle.flat.specs.TreeBytes.{tree_entries}
use Rattle.batch_walk.specs.declared.Numbered.{Numbered}
use Rattle.batch_walk.specs.Batch.{readings_of, AnswerRows, Walks}
use Rattle.batch_walk.specs.Steps.{numbered, met_at, AsksAll, WalkedRows, rows_after, going_after}
use Rattle.batch_walk.specs.StepLaws.{entry_rows, entry_going}
use Rattle.batch_walk.specs.WalkLaws.{going_reads, walked_on}

-- so it does where the next entry of a walk of n entries stops all of those that go on
abbrev pub Ends : (w : WalkedRows) (n vehicles i going : ℕ) (t now : AnswerRows) → Type 0
Ends w n vehicles i going t now =
    (c : Condition) (met : Numbered) (later : AnswerRows) (stopped : ℕ) → AsksAll c met w.held w.unread vehicles now later stopped
    → c ≡ condition_at w.conditions w.absences i → met ≡ numbered (met_at i (get_or w.actions i 0)) → i < n → going - stopped ≡ 0
    → Walks (tree_entries w.conditions w.absences w.actions n) (readings_of w.held w.unread vehicles) t later (i + 1)

pub ends : (w : WalkedRows) (n vehicles i going : ℕ) (t now : AnswerRows) → now ≡ rows_after w i vehicles t
    → 1 ≤ n → going ≡ going_after w i vehicles → 0 < going → Ends w n vehicles i going t now
ends w n vehicles i going t now e some count more c met later stopped s is gives inside none =
    walked_on w n vehicles some t (omega arith) (entry_rows w i vehicles t e is gives s) (going_reads w n vehicles i inside (omega arith))
    (omega (arith, count, entry_going w i vehicles t e is gives s))
