-- The checks, one element after the other.
-- Assumes nothing.
use Rattle.std.specs.Prelude.{ℕ, ◌+◌, ◌≤◌, ◌<◌, ◌≡◌, Bool, ◌&&◌, List, [], leb, ltb, if◌then◌else◌}
use Rattle.std.proofs.Common.{sym, ap, ◌∙◌, below_more}
use Rattle.std.proofs.Math.Path.{refl}
use Rattle.std.proofs.Math.Bool.{true, false}
use borrow.Author.Tests.{eq-eqb, ne_eqb, le-leb, lt-leb}
use Rattle.base.specs.Lists.{length_prefix}
use Rattle.refusal.specs.Checked.{accepted, refused, checked_each}
use Rattle.refusal.specs.CheckedLaws.{each_passed, each_refused}
use Rattle.reading.specs.declared.Reading.{Reading}
use Rattle.reading.specs.Reading.{checked_at}
use Rattle.reading.specs.ReadingLaws.{checked_told}
use Rattle.conditions.specs.declared.Condition.{Condition}
use Rattle.conditions.specs.Condition.{condition_within}
use Rattle.planning.specs.Expansion.{Entry}
use Rattle.planning.specs.Columns.{max_entries, entry_at}
use Rattle.flat.specs.TreeBytes.{tree_entries}
use Rattle.batch_walk.specs.Batch.{reading_at, readings_of}
use Rattle.batch_checks.specs.Checks.{checked_readings, entry_fits, checked_entry, checked_list}

-- ---- readings

module _ (facts : ℕ) (held unread : List ℕ) where
  abbrev pub ReadingPasses : ℕ → Type 0
  ReadingPasses v = checked_at facts v (reading_at held unread v) ≡ accepted (reading_at held unread v)

  -- a reading that is sound is given back as it is
  pub next_reading : (v : ℕ) (s : Reading) → ((i : ℕ) → i < v → ReadingPasses i) → accepted s ≡ checked_at facts v (reading_at held unread v)
      → (i : ℕ) → i < v + 1 → ReadingPasses i
  next_reading v s h e = below_more ReadingPasses v h (sym e ∙ ap accepted (sym (checked_told facts (reading_at held unread v) v s (sym e)).1))

  pub readings_passed : (n : ℕ) → ((i : ℕ) → i < n → ReadingPasses i) → accepted (readings_of held unread n) ≡ checked_readings facts (readings_of held unread n)
  readings_passed n h = sym (each_passed (checked_at facts) (reading_at held unread) (reading_at held unread) n h)

  pub reading_refused : (n v number place : ℕ) → v < n → ((i : ℕ) → i < v → ReadingPasses i)
      → refused number place ≡ checked_at facts v (reading_at held unread v) → refused number place ≡ checked_readings facts (readings_of held unread n)
  reading_refused n v number place l h e =
      sym (each_refused (checked_at facts) (reading_at held unread) (reading_at held unread) v number place h (sym e) n l)

-- ---- one entry

module _ (facts jobs i : ℕ) (c : Condition) (job : ℕ) where
  pub entry_wide : false ≡ condition_within facts c → false ≡ entry_fits facts jobs i c job
  unfolding entry_fits
  entry_wide e = rw (← e)

  module _ (e : true ≡ condition_within facts c) where
    pub entry_first : i ≡ 0 → true ≡ entry_fits facts jobs i c job
    unfolding entry_fits
    entry_first h = rw (← e, eq-eqb i 0 h)

    pub entry_later : (i ≡ 0 → ⊥) → ltb job jobs ≡ entry_fits facts jobs i c job
    unfolding entry_fits
    entry_later h = rw (← e, ne_eqb i 0 h)

-- ---- entries

module _ (facts jobs : ℕ) (conditions absences actions : List ℕ) where
  abbrev entry : ℕ → Entry Condition
  entry i = entry_at conditions absences actions [] [] i

  abbrev pub EntryPasses : ℕ → Type 0
  EntryPasses i = entry_fits facts jobs i (entry i).condition (entry i).action ≡ true

  passes : (i : ℕ) → EntryPasses i → checked_entry facts jobs i (entry i) ≡ accepted (entry i)
  passes i e = rw e

  abbrev list : ℕ → List (Entry Condition)
  list n = tree_entries conditions absences actions n

  pub entries_passed : (n : ℕ) → ((j : ℕ) → j < n → EntryPasses j) → accepted (list n) ≡ checked_each (checked_entry facts jobs) 0 (list n)
  entries_passed n h = sym (each_passed (checked_entry facts jobs) entry entry n (λ j l. passes j (h j l)))

  pub entry_refused : (n i : ℕ) → i < n → ((j : ℕ) → j < i → EntryPasses j) → entry_fits facts jobs i (entry i).condition (entry i).action ≡ false
      → refused 15 i ≡ checked_each (checked_entry facts jobs) 0 (list n)
  entry_refused n i l h e = sym (each_refused (checked_entry facts jobs) entry entry i 15 i (λ j m. passes j (h j m)) (rw e) n l)

  -- ---- the list

  module _ (paired : Bool) (n : ℕ) where
    pub list_none : n ≡ 0 → refused 13 0 ≡ checked_list paired facts jobs (list n)
    unfolding checked_list
    list_none e = rw (length_prefix entry n, e)

    pub list_long : max_entries paired < n → refused 13 0 ≡ checked_list paired facts jobs (list n)
    unfolding checked_list
    list_long h = rw (length_prefix entry n, lt-leb n (max_entries paired) h) (by_first (leb 1 n))
      where
        by_first : (b : Bool) → refused 13 0 ≡ (if b && false then checked_each (checked_entry facts jobs) 0 (list n) else refused 13 0)
        by_first true = refl
        by_first false = refl

    pub list_sized : 1 ≤ n → n ≤ max_entries paired → checked_each (checked_entry facts jobs) 0 (list n) ≡ checked_list paired facts jobs (list n)
    unfolding checked_list
    list_sized h k = rw (length_prefix entry n, le-leb 1 n h, le-leb n (max_entries paired) k)
