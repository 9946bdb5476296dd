-- Why a card that goes on answers as a new one with its masks does: their masks stay the same, and the new one, whose sums are bounded and whose count
-- is not above the other's, is exhausted only where the other is.
-- Assumes nothing.
use Rattle.std.specs.Prelude.{ℕ, ◌^◌, ◌≤◌, ◌<◌, ◌≡◌, Bool, ◌⊎◌, List, [], ◌∷◌, length, get_or}
use Rattle.std.proofs.Common.{arith, sym, ◌∙◌, inl, inr, ⊎_elim, ltb-true}
use Rattle.std.proofs.Math.Path.{refl, ap}
use Rattle.std.proofs.Math.Bool.{true, false}
use Rattle.std.proofs.Math.Dec.{ltb}
use Rattle.refusal.specs.Checked.{Checked, accepted, refused, and_then}
use Rattle.numbers.specs.Numbers.{AreBytes}
use Rattle.reading.specs.declared.Reading.{Reading}
use Rattle.reading.specs.ReadingLaws.{checked_sound}
use Rattle.conditions.specs.OnReading.{applicable, finished}
use Rattle.job.specs.declared.Job.{Job}
use Rattle.job.specs.Job.{no_job, action_of}
use Rattle.table.specs.Table.{Table}
use Rattle.table.specs.Read.{read_table, named_job}
use Rattle.table.proofs.RoundTripLaws.{read_sound}
use Rattle.tree.specs.Tick.{Verdict}
use Rattle.tree.specs.TickBytes.{tick_bytes}
use Rattle.card.specs.declared.Card.{Card}
use Rattle.card.specs.Card.{masks_of, new_card, with_masks, with_report, max_reports, max_taken, max_listed, exhausted, Bounded, booked, card_after}
use Rattle.card.specs.CardLaws.{new_bounded, with_report_bounded, room, not_exhausted}
use Rattle.card_calls.specs.declared.JobReport.{JobReport}
use Rattle.card_calls.specs.Calls.{table_for, opened, outside_read, reported}
use Rattle.card_calls.specs.CallLaws.{for_told, for_sound, opened_done}
use Rattle.card_migration.specs.Migration.{migrated_masks, migrated}
use Rattle.card_migration.specs.MigrationLaws.{masks_sound}
use Rattle.card_migration.specs.Promise.{Asks, to_open, to_read, to_report, to_tick, to_migrate, Call, Told, done, called, after_call, Alike, GoesOn}

-- ---- what stays true of both cards

record Same (c d : Card) : Type 0 where
  masks : masks_of c ≡ masks_of d
  bounded : Bounded d
  fewer : d.reports ≤ c.reports
  counted : c.reports ≤ max_reports

new_same : (r : Reading) → Same (new_card r) (new_card r)
new_same r = record { masks = refl; bounded = new_bounded r; fewer = omega arith; counted = omega arith }

module _ (c d : Card) (s : Same c d) where
  masks_same : (r : Reading) → Same (with_masks r c) (with_masks r d)
  masks_same r =
      record {
        masks = refl;
        bounded = record { taken_bounded = s.bounded.taken_bounded; planned_bounded = s.bounded.planned_bounded };
        fewer = s.fewer;
        counted = s.counted;
      }

  -- a report that the first takes the second takes too
  second_takes : exhausted c ≡ false → exhausted d ≡ false
  second_takes e = let (below, b) = room c e in not_exhausted d (λ q. below (omega (arith, s.fewer, s.counted))) s.bounded

  report_same : (j : Job) (taken : ℕ) → exhausted c ≡ false → taken ≤ max_taken → j.seconds ≤ max_listed → Same (with_report j taken c) (with_report j taken d)
  unfolding with_report
  report_same j taken e h k =
      let (below, b) = room c e in
      let at_most : c.reports < max_reports = omega (arith, s.counted, below) in
      record {
        masks = ap (finished (action_of j)) s.masks;
        bounded = with_report_bounded j taken d h k s.bounded;
        fewer = omega (arith, s.fewer);
        counted = omega arith;
      }

-- ---- each call

-- Two calls come to the same answer, and to the same card but for its counts, or the first one's answer is 18.
abbrev Goes : Card → Card → Checked (Told × Card) → Checked (Told × Card) → Type 0
Goes c d first second =
    ((and_then first λ t. accepted t.0) ≡ refused 18 0)
    ⊎ (((and_then first λ t. accepted t.0) ≡ (and_then second λ t. accepted t.0))
    × Same (card_after c (and_then first λ t. accepted t.1)) (card_after d (and_then second λ t. accepted t.1)))

module _ (table : List ℕ) (c d : Card) (s : Same c d) where
  open_goes : (r : Reading) → Goes c d (called table (to_open r) c) (called table (to_open r) d)
  unfolding opened
  open_goes r = by (table_for table 0 r) refl
    where
      by : (q : Checked Table) → table_for table 0 r ≡ q → Goes c d (called table (to_open r) c) (called table (to_open r) d)
      by (accepted t) e = rw e (inr (refl, new_same r))
      by (refused n p) e = rw e (inr (refl, s))

  read_goes : (r : Reading) → Goes c d (called table (to_read r) c) (called table (to_read r) d)
  unfolding outside_read
  read_goes r = by (table_for table 0 r) refl
    where
      by : (q : Checked Table) → table_for table 0 r ≡ q → Goes c d (called table (to_read r) c) (called table (to_read r) d)
      by (accepted t) e = rw e (inr (refl, masks_same c d s r))
      by (refused n p) e = rw e (inr (refl, s))

  tick_goes : (tree : List ℕ) → Goes c d (called table (to_tick tree) c) (called table (to_tick tree) d)
  tick_goes tree = by (tick_bytes table tree (masks_of c)) refl (sym (ap (tick_bytes table tree) s.masks))
    where
      by : (q : Checked Verdict) → tick_bytes table tree (masks_of c) ≡ q → tick_bytes table tree (masks_of d) ≡ tick_bytes table tree (masks_of c)
          → Goes c d (called table (to_tick tree) c) (called table (to_tick tree) d)
      by (accepted v) e g = rw (g, e) (inr (refl, s))
      by (refused n p) e g = rw (g, e) (inr (refl, s))

  migrate_goes : (new map : List ℕ) → Goes c d (called table (to_migrate new map) c) (called table (to_migrate new map) d)
  unfolding migrated
  migrate_goes new map = by (migrated_masks table new map (masks_of c)) refl (sym (ap (migrated_masks table new map) s.masks))
    where
      by : (q : Checked Reading) → migrated_masks table new map (masks_of c) ≡ q → migrated_masks table new map (masks_of d) ≡ migrated_masks table new map (masks_of c)
          → Goes c d (called table (to_migrate new map) c) (called table (to_migrate new map) d)
      by (accepted r) e g = rw (g, e) (inr (refl, masks_same c d s r))
      by (refused n p) e g = rw (g, e) (inr (refl, s))

  -- a job of the table, on both cards
  module _ (x : JobReport) (h : x.taken < 2 ^ 16) where
    -- where the table and the masks are sound and the job is found
    abbrev booked_by : Job → Card → Checked (Told × Card)
    booked_by j e = and_then (booked j x.taken e) λ f. accepted (done, f)

    book_goes : (j : Job) → j.seconds ≤ max_listed → Goes c d (booked_by j c) (booked_by j d)
    unfolding booked
    book_goes j k = by_needs (applicable (action_of j) (masks_of c)) refl (sym (ap (applicable (action_of j)) s.masks))
      where
        by_room : applicable (action_of j) (masks_of c) ≡ true → applicable (action_of j) (masks_of d) ≡ true → (b : Bool) → exhausted c ≡ b → Goes c d (booked_by j c) (booked_by j d)
        by_room p q true e = rw (p, q, e) (inl refl)
        by_room p q false e = rw (p, q, e, second_takes c d s e) (inr (refl, report_same c d s j x.taken e (omega arith) k))

        by_needs : (b : Bool) → applicable (action_of j) (masks_of c) ≡ b → applicable (action_of j) (masks_of d) ≡ applicable (action_of j) (masks_of c)
            → Goes c d (booked_by j c) (booked_by j d)
        by_needs true p q = by_room p (q ∙ p) (exhausted c) refl
        by_needs false p q = rw (q, p) (inr (refl, s))

    report_goes : AreBytes table → Goes c d (called table (to_report x h) c) (called table (to_report x h) d)
    unfolding reported named_job
    report_goes bytes = by_table (table_for table 0 (masks_of c)) refl (sym (ap (table_for table 0) s.masks))
      where
        by_job : (t : Table) → accepted t ≡ read_table table → table_for table 0 (masks_of c) ≡ accepted t → table_for table 0 (masks_of d) ≡ accepted t
            → (b : Bool) → ltb x.job (length t.jobs) ≡ b → Goes c d (called table (to_report x h) c) (called table (to_report x h) d)
        by_job t read p q true e =
            rw (p, q, e) (book_goes (get_or t.jobs x.job no_job) ((read_sound table bytes t (sym read)).sound_jobs x.job (ltb-true _ _ e)).time_held)
        by_job t read p q false e = rw (p, q, e) (inr (refl, s))

        by_table : (q : Checked Table) → table_for table 0 (masks_of c) ≡ q → table_for table 0 (masks_of d) ≡ table_for table 0 (masks_of c) → Goes c d (called table (to_report x h) c) (called table (to_report x h) d)
        by_table (accepted t) p g = by_job t (for_told table 0 (masks_of c) t (sym p)).0 p (g ∙ p) (ltb x.job (length t.jobs)) refl
        by_table (refused n m) p g = rw (g, p) (inr (refl, s))

call_goes : (x : Call) (c d : Card) → Same c d → Goes c d (called x.table x.asks c) (called x.table x.asks d)
call_goes x c d s = by x.asks
  where
    by : (a : Asks) → Goes c d (called x.table a c) (called x.table a d)
    by (to_open r) = open_goes x.table c d s r
    by (to_read r) = read_goes x.table c d s r
    by (to_report y h) = report_goes x.table c d s y h x.is_bytes
    by (to_tick tree) = tick_goes x.table c d s tree
    by (to_migrate new map) = migrate_goes x.table c d s new map

-- ---- every list of calls

same_alike : (calls : List Call) (c d : Card) → Same c d → Alike calls c d
same_alike [] c d s = s.masks
same_alike (x ∷ calls) c d s = ⊎_elim inl (λ g. inr (g.0, same_alike calls (after_call x c) (after_call x d) g.1)) (call_goes x c d s)

-- a card whose masks were carried over goes on under the new table
pub migrated_goes_on : (old new map : List ℕ) (c : Card) → c.reports < 2 ^ 16 → (r : Reading) → accepted r ≡ migrated_masks old new map (masks_of c) → GoesOn new (with_masks r c)
migrated_goes_on old new map c h r e =
    let (u, read, is_sound) = masks_sound old new map (masks_of c) r e in
    record {
      fresh = sym (opened_done new r (for_sound new 0 r u read (checked_sound u.facts r 0 is_sound)));
      alike =
          λ calls. same_alike calls (with_masks r c) (new_card r)
          (record { masks = refl; bounded = new_bounded r; fewer = omega arith; counted = omega arith });
    }
