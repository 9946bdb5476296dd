-- The calls on a job card, way by way: what each check leads to. Equations are turned so that a function's answers chain with them.
-- Assumes nothing.
use Rattle.std.specs.Prelude.{ℕ, ◌≡◌, true, List}
use Rattle.std.proofs.Common.{sym, ◌∙◌}
use Rattle.refusal.specs.Checked.{accepted, refused, and_then}
use Rattle.refusal.specs.CheckedLaws.{accepted_then, accepted_same}
use Rattle.reading.specs.declared.Reading.{Reading}
use Rattle.reading.specs.Reading.{sound, checked_at}
use Rattle.reading.specs.ReadingLaws.{checked_told}
use Rattle.job.specs.declared.Job.{Job}
use Rattle.table.specs.Table.{Table}
use Rattle.table.specs.Read.{read_table, named_job}
use Rattle.card.specs.declared.Card.{Card}
use Rattle.card.specs.Card.{masks_of, new_card, with_masks, booked}
use Rattle.card_calls.specs.declared.JobReport.{JobReport}
use Rattle.card_calls.specs.Calls.{table_for, opened, outside_read, reported}

-- ---- a table, and a reading under it

module _ (s : List ℕ) (place : ℕ) (r : Reading) where
  pub for_refused : {n p : ℕ} → refused n p ≡ read_table s → refused n p ≡ table_for s place r
  unfolding table_for
  for_refused e = rw (← e)

  module _ (t : Table) (e : accepted t ≡ read_table s) where
    pub for_sound : {q : Reading} → accepted q ≡ checked_at t.facts place r → accepted t ≡ table_for s place r
    unfolding table_for
    for_sound h = rw (← e, ← h)

    pub for_bad : {n p : ℕ} → refused n p ≡ checked_at t.facts place r → refused n p ≡ table_for s place r
    unfolding table_for
    for_bad h = rw (← e, ← h)

  -- the table is the one that was read, and the reading is sound under it
  pub for_told : (t : Table) → accepted t ≡ table_for s place r → (accepted t ≡ read_table s) × (sound t.facts r ≡ true)
  unfolding table_for
  for_told t e =
      let a = accepted_then (read_table s) (λ u. and_then (checked_at u.facts place r) λ _. accepted u) t (sym e) in
      let b = accepted_then (checked_at a.0.facts place r) (λ _. accepted a.0) t a.2 in
      let q : a.0 ≡ t = accepted_same b.2 in
      (sym (a.1 ∙ b.2), rw q at (checked_told a.0.facts r place b.0 b.1).0)

-- ---- opening, and an outside reading

module _ (s : List ℕ) (r : Reading) where
  pub opened_refused : {n p : ℕ} → refused n p ≡ table_for s 0 r → refused n p ≡ opened s r
  unfolding opened
  opened_refused e = rw (← e)

  pub opened_done : {t : Table} → accepted t ≡ table_for s 0 r → accepted (new_card r) ≡ opened s r
  unfolding opened
  opened_done e = rw (← e)

  pub outside_refused : (c : Card) {n p : ℕ} → refused n p ≡ table_for s 0 r → refused n p ≡ outside_read s r c
  unfolding outside_read
  outside_refused c e = rw (← e)

  pub outside_done : (c : Card) {t : Table} → accepted t ≡ table_for s 0 r → accepted (with_masks r c) ≡ outside_read s r c
  unfolding outside_read
  outside_done c e = rw (← e)

-- ---- a report

module _ (s : List ℕ) (x : JobReport) (c : Card) where
  pub report_refused : {n p : ℕ} → refused n p ≡ table_for s 0 (masks_of c) → refused n p ≡ reported s x c
  unfolding reported
  report_refused e = rw (← e)

  module _ (t : Table) (e : accepted t ≡ table_for s 0 (masks_of c)) where
    pub report_no_job : {n p : ℕ} → refused n p ≡ named_job t x.job 0 → refused n p ≡ reported s x c
    unfolding reported
    report_no_job h = rw (← e, ← h)

    pub report_job : {j : Job} → accepted j ≡ named_job t x.job 0 → booked j x.taken c ≡ reported s x c
    unfolding reported
    report_job h = rw (← e, ← h)
