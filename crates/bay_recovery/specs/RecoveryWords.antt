-- What the recovery of a list gives, in the words of include/bay.h.
-- Definitions only.
use Rattle.std.specs.Prelude.{◌≡◌, false, List, [], ◌∷◌, ℕ, length}
use Rattle.refusal.specs.Checked.{Checked, accepted, and_then}
use Rattle.conditions.specs.declared.Condition.{Condition}
use Rattle.table.specs.Table.{Table}
use Rattle.planning.specs.Expansion.{Entry}
use Rattle.expander.specs.Expands.{Columns, room}
use Rattle.tree_shows.specs.Shown.{sound_tree}
use Rattle.plan_recovery.specs.Recovery.{recovered, WritesBack}
use Rattle.plan_recovery.specs.Promise.{Restores}
use Rattle.bay_words.specs.Words.{words, Answered}

-- the entries
abbrev pub list_words : ℕ → List ℕ
list_words n = n ∷ []

-- the list that the definition gives, and how many entries are told of it
abbrev pub recovery_due : (table tree : List ℕ) → Columns → Checked (List (Entry Condition))
recovery_due table tree before = recovered table tree (room before false)

abbrev pub entries_due : (table tree : List ℕ) → Columns → Checked ℕ
entries_due table tree before = and_then (recovery_due table tree before) λ l. accepted (length l)

-- what a recovery promises of the lent list tables and of its answer; and what holds of every one
pub record RecoveryAnswered (table tree : List ℕ) (before after : Columns) (answer : List ℕ) (result : ℕ) : Type 0 where
  pub writes : WritesBack (recovery_due table tree before) before after (entries_due table tree before)
  pub answers : Answered (words 2 list_words (entries_due table tree before)) answer result
  pub restores : (t : Table) → sound_tree table tree ≡ accepted t → Restores t table tree (room before false) (recovery_due table tree before)
