-- The checks of a job, way by way, and what they leave.
-- Assumes nothing.
use Rattle.std.specs.Prelude.{ℕ, ◌≤◌, ◌<◌, ◌≡◌, refl, Bool, true, false, not, ◌&&◌, T}
use borrow.Author.Tests.{lt-leb, le-leb, leb-true}
use Rattle.base.specs.Bools.{holds, fails, and_intro, and_left, and_right, neither_left}
use Rattle.masks.specs.Sets.{intersects, union, within}
use Rattle.masks.specs.Laws.{within_both}
use Rattle.refusal.specs.Checked.{accepted, refused}
use Rattle.refusal.specs.CheckedLaws.{accepted_same, accepted_if, accepted_unless}
use Rattle.conditions.specs.Condition.{ActionWithin}
use Rattle.job.specs.declared.Job.{Job}
use Rattle.job.specs.Job.{action_of}
use Rattle.job.specs.Validation.{max_seconds, in_range, overlaps, contradicts, in_time, validated_job, SoundJob}

-- all masks are tested at once
pub all_within : (facts : ℕ) (j : Job)
    → within facts (union (union j.needs j.absent) (union j.adds j.deletes)) ≡ in_range facts j
all_within facts j =
    rw (within_both facts (union j.needs j.absent) _, within_both facts j.needs _, within_both facts j.adds _)
    (and_assoc (within facts j.needs) (within facts j.absent) _)
  where
    and_assoc : (x y z : Bool) → ((x && y) && z) ≡ (x && (y && z))
    and_assoc true y z = refl
    and_assoc false y z = refl

module _ (facts at : ℕ) (j : Job) where
  pub validated_out : in_range facts j ≡ false → refused 5 at ≡ validated_job facts at j
  unfolding validated_job
  validated_out e = rw e

  module _ (e : in_range facts j ≡ true) where
    pub validated_overlap : overlaps j ≡ true → refused 6 at ≡ validated_job facts at j
    unfolding validated_job
    validated_overlap o = rw (e, o)

    module _ (o : overlaps j ≡ false) where
      pub validated_long : max_seconds < j.seconds → refused 19 at ≡ validated_job facts at j
      unfolding validated_job
      validated_long l = rw (e, o, lt-leb j.seconds max_seconds l)

      module _ (l : j.seconds ≤ max_seconds) where
        pub validated_contradicts : contradicts j ≡ true → refused 22 at ≡ validated_job facts at j
        unfolding validated_job
        validated_contradicts c = rw (e, o, le-leb j.seconds max_seconds l, c)

        pub validated_sound : contradicts j ≡ false → accepted j ≡ validated_job facts at j
        unfolding validated_job
        validated_sound c = rw (e, o, le-leb j.seconds max_seconds l, c)

pub validated_told : (facts at : ℕ) (k j : Job) → validated_job facts at k ≡ accepted j → (k ≡ j) × SoundJob facts k
unfolding validated_job
validated_told facts at k j e =
    let r = accepted_if (in_range facts k) _ 5 at j e in
    let o = accepted_unless (overlaps k) _ 6 at j r.1 in
    let l = accepted_if (in_time k) _ 19 at j o.1 in
    let c = accepted_unless (contradicts k) _ 22 at j l.1 in
    (accepted_same c.1, record { range_held = r.0; apart = o.0; time_held = leb-true _ _ l.0; one_way = c.0 })

-- a sound job's action keeps to the table's facts
pub action_within : {facts : ℕ} {j : Job} → SoundJob facts j → ActionWithin facts (action_of j)
action_within {facts} {j} s =
    let masks = holds _ s.range_held in
    let others = and_right (within facts j.needs) _ masks in
    record {
      needs_within = and_intro (within facts j.needs) _ (and_left (within facts j.needs) _ masks) (and_left (within facts j.absent) _ others);
      adds_within = and_left (within facts j.adds) _ (and_right (within facts j.absent) _ others);
    }

-- and adds no fact that it deletes
pub effects_separate : {facts : ℕ} {j : Job} → SoundJob facts j → T (not (intersects j.adds j.deletes))
effects_separate {facts} {j} s = neither_left (intersects j.adds j.deletes) _ (fails _ s.apart)
