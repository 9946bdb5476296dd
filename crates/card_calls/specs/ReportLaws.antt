-- What reports make of a card: its masks stay sound and its sums within 18's bound, and on a fully read card a report is a finished job.
-- Assumes nothing.
use Rattle.std.specs.Prelude.{ℕ, ◌*◌, ◌^◌, ◌<◌, refl, Bool, List, T, ltb, length, get_or, if◌then◌else◌}
use native.Mathlib.Omega.{arith}
use Rattle.std.proofs.Math.Path.{◌≡◌}
use Rattle.std.proofs.Common.{sym, ap, ◌∙◌, true≢false, ltb-true}
use Rattle.std.proofs.Math.Bool.{true, false}
use Rattle.base.specs.Bools.{holds}
use Rattle.masks.specs.Sets.{intersects}
use Rattle.refusal.specs.Checked.{Checked, accepted, refused, and_then}
use Rattle.refusal.specs.CheckedLaws.{not_both, accepted_same, accepted_then, accepted_if, accepted_unless}
use Rattle.numbers.specs.Numbers.{AreBytes}
use Rattle.reading.specs.declared.Reading.{Reading}
use Rattle.reading.specs.Reading.{sound, state}
use Rattle.conditions.specs.Condition.{mentioned, needed, applied}
use Rattle.conditions.specs.OnReading.{applicable, finished}
use Rattle.conditions.specs.OnReadingLaws.{finished_state, finished_sound, unread_inapplicable}
use Rattle.job.specs.declared.Job.{Job}
use Rattle.job.specs.Job.{no_job, action_of}
use Rattle.table.specs.Table.{Table}
use Rattle.table.specs.Read.{read_table, named_job}
use Rattle.job.specs.Validation.{SoundJob}
use Rattle.job.proofs.ValidationLaws.{action_within}
use Rattle.table.proofs.ReadLaws.{named_job_is}
use Rattle.table.proofs.RoundTripLaws.{read_sound}
use Rattle.card.specs.declared.Card.{Card}
use Rattle.card.specs.Card.{masks_of, with_masks, with_report, max_reports, max_listed, exhausted, Bounded, booked, answer_due}
use Rattle.card.specs.CardLaws.{booked_missing, booked_exhausted, room, not_exhausted, planned_over, with_report_bounded}
use Rattle.card_calls.specs.declared.JobReport.{JobReport}
use Rattle.card_calls.specs.Calls.{table_for, outside_read, reported}
use Rattle.card_calls.specs.CallLaws.{for_told, report_job}

-- ---- a report that was accepted

pub record Accepted (s : List ℕ) (x : JobReport) (c d : Card) : Type 0 where
  pub table : Table
  pub is_table : read_table s ≡ accepted table
  pub masks_sound : T (sound table.facts (masks_of c))
  pub has_job : x.job < length table.jobs
  pub job : Job
  pub is_job : job ≡ get_or table.jobs x.job no_job
  pub needs_held : applicable (action_of job) (masks_of c) ≡ true
  pub has_room : exhausted c ≡ false
  pub is_card : d ≡ with_report job x.taken c

pub report_told : (s : List ℕ) (x : JobReport) (c d : Card) → reported s x c ≡ accepted d → Accepted s x c d
unfolding reported named_job booked
report_told s x c d e =
    let a = accepted_then (table_for s 0 (masks_of c)) (λ t. and_then (named_job t x.job 0) λ j. booked j x.taken c) d e in
    let t = a.0 in
    let b = accepted_then (named_job t x.job 0) (λ j. booked j x.taken c) d a.2 in
    let j = b.0 in
    let n = accepted_if (ltb x.job (length t.jobs)) (accepted (get_or t.jobs x.job no_job)) 16 0 j b.1 in
    let k = accepted_if (applicable (action_of j) (masks_of c)) (if exhausted c then refused 18 0 else accepted (with_report j x.taken c)) 17 0 d b.2 in
    let m = accepted_unless (exhausted c) (accepted (with_report j x.taken c)) 18 0 d k.1 in
    let u = for_told s 0 (masks_of c) t (sym a.1) in
    record {
      table = t;
      is_table = sym u.0;
      masks_sound = holds _ u.1;
      has_job = ltb-true _ _ n.0;
      job = j;
      is_job = sym (accepted_same n.1);
      needs_held = k.0;
      has_room = m.0;
      is_card = sym (accepted_same m.1);
    }

module _ (s : List ℕ) (x : JobReport) (c d : Card) (a : Accepted s x c d) where
  masks_then : masks_of d ≡ finished (action_of a.job) (masks_of c)
  unfolding with_report
  masks_then = rw a.is_card

  -- On a fully read card a report is a finished job: its effect on the state, and nothing is unread after it.
  pub report_finishes : c.unread ≡ 0 → masks_of d ≡ state (applied (action_of a.job) c.held)
  report_finishes u = let e : masks_of c ≡ state c.held = rw u in masks_then ∙ ap (finished (action_of a.job)) e ∙ finished_state (action_of a.job) c.held

  module _ (b : AreBytes s) where
    ok : SoundJob a.table.facts a.job
    ok = rw a.is_job ((read_sound s b a.table a.is_table).sound_jobs x.job a.has_job)

    -- The card's masks stay sound: no report leads to 8.
    pub report_sound : T (sound a.table.facts (masks_of d))
    report_sound = rw masks_then (finished_sound (action_of a.job) (masks_of c) a.table.facts (action_within ok) a.masks_sound)

    -- Its sums stay within 18's bound: 18 then arises only once 65,535 reports were made.
    pub report_bounded : x.taken < 2 ^ 16 → Bounded d
    report_bounded h =
        rw a.is_card (with_report_bounded a.job x.taken c (omega arith) ok.time_held (room c a.has_room).1)

-- ---- a report that was refused

module _ (s : List ℕ) (x : JobReport) (c : Card) (t : Table) (e : accepted t ≡ table_for s 0 (masks_of c)) where
  -- A report of a job with an unread need, or an unread absent fact, is 17.
  pub report_unread : x.job < length t.jobs → T (intersects (mentioned (needed (action_of (get_or t.jobs x.job no_job)))) c.unread) → reported s x c ≡ refused 17 0
  report_unread h n =
      let sound_masks = holds (sound t.facts (masks_of c)) (for_told s 0 (masks_of c) t e).1 in
      let missing = unread_inapplicable (action_of (get_or t.jobs x.job no_job)) (masks_of c) t.facts sound_masks n in
      sym (booked_missing _ _ c missing ∙ report_job s x c t e (named_job_is t x.job 0 h))

  -- Where the sums are bounded and fewer than 65,535 reports were made, no report is 18.
  pub report_room : Bounded c → (c.reports ≡ max_reports → ⊥) → reported s x c ≡ refused 18 0 → ⊥
  unfolding reported named_job booked
  report_room b n r = by_job (ltb x.job (length t.jobs)) (rw (← e, not_exhausted c n b) at r)
    where
      by_needs : (a : Bool) (d : Card) → (if a then accepted d else refused 17 0) ≡ refused 18 0 → ⊥
      by_needs true d q = not_both (sym q)
      by_needs false d q = let z : ◌≡◌ {A = ℕ} 17 18 = cc in omega arith

      by_job : (k : Bool) → and_then (if k then accepted (get_or t.jobs x.job no_job) else refused 16 0)
          (λ j. if applicable (action_of j) (masks_of c) then accepted (with_report j x.taken c) else refused 17 0) ≡ refused 18 0 → ⊥
      by_job true q = by_needs (applicable (action_of (get_or t.jobs x.job no_job)) (masks_of c)) _ q
      by_job false q = let z : ◌≡◌ {A = ℕ} 16 18 = cc in omega arith

-- ---- a card filled under an older table, before document 02's W3: its planned sum may be above the limit

module _ (c : Card) (over : max_listed * c.reports < c.planned) where
  -- No report is accepted any more, whatever the table.
  pub older_refused : (s : List ℕ) (x : JobReport) (d : Card) → reported s x c ≡ accepted d → ⊥
  older_refused s x d e = true≢false (sym (planned_over c over) ∙ (report_told s x c d e).has_room)

  -- Its next report, of a job whose needs are held, is 18.
  pub older_exhausted : (s : List ℕ) (x : JobReport) (t : Table) → accepted t ≡ table_for s 0 (masks_of c) → x.job < length t.jobs
      → applicable (action_of (get_or t.jobs x.job no_job)) (masks_of c) ≡ true → reported s x c ≡ refused 18 0
  older_exhausted s x t e h n = sym (booked_exhausted _ _ c n (planned_over c over) ∙ report_job s x c t e (named_job_is t x.job 0 h))

-- ---- an outside reading

-- Its answer is the same for every card: neither the old masks (8) nor the count and the sums (18) are judged.
pub outside_any_card : (s : List ℕ) (r : Reading) (c d : Card) → answer_due (outside_read s r c) ≡ answer_due (outside_read s r d)
unfolding outside_read
outside_any_card s r c d = same (table_for s 0 r)
  where
    same : (q : Checked Table) → answer_due (and_then q λ t. accepted (with_masks r c)) ≡ answer_due (and_then q λ t. accepted (with_masks r d))
    same (accepted t) = refl
    same (refused n p) = refl
