-- The promise of a recovery, with its answer in words.
-- Assumes nothing.
use Rattle.std.specs.Prelude.{◌≡◌, List, ℕ, get_or, Result}
use Rattle.std.proofs.Common.{ap, ◌∙◌}
use Rattle.expander.specs.Expands.{Columns}
use Rattle.plan_recovery.specs.Promise.{Recovers}
use Rattle.bay_words.specs.Words.{words}
use Rattle.bay_words.specs.WordLaws.{answered_by}
use Rattle.bay_recovery.specs.RecoveryWords.{list_words, RecoveryAnswered}
use Rattle.refusal.specs.Checked.{answer_of}
use Rattle.refusal.specs.declared.Refusal.{Refusal}

pub recovery_answered : {table tree : List ℕ} {before after : Columns} {answer : List ℕ} {r : (Result ℕ Refusal)} → Recovers table tree before after r
    → answer ≡ words 2 list_words (answer_of r) → RecoveryAnswered table tree before after answer (get_or answer 0 0)
recovery_answered recovers e =
    let told = recovers.writes.answer in
    record { writes = rw told at recovers.writes; answers = answered_by (e ∙ ap (words 2 list_words) told); restores = recovers.restores }
