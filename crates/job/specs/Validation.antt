-- The checks that the papers make of one job: document 01, "Stops, in checking order", 5 and 6; document 02, W3, 19, and W10, 22.
-- Definitions only.
use Rattle.std.specs.Prelude.{ℕ, ◌≤◌, ◌≡◌, Bool, true, false, ◌&&◌, ◌||◌, leb, if◌then◌else◌}
use Rattle.masks.specs.Sets.{intersects, within}
use Rattle.refusal.specs.Checked.{Checked, accepted, refused}
use Rattle.job.specs.declared.Job.{Job}

-- document 02, W3: "the longest listed job is 5,400 seconds. That becomes the limit of the seconds field"
abbrev pub max_seconds : ℕ
max_seconds = 5400

-- no mask of the job has a bit at or above F
abbrev pub in_range : ℕ → Job → Bool
in_range facts j = within facts j.needs && (within facts j.absent && (within facts j.adds && within facts j.deletes))

-- its adds share a fact with its deletes or its needs
abbrev pub overlaps : Job → Bool
overlaps j = intersects j.adds j.deletes || intersects j.adds j.needs

-- document 02, W10: "A job whose needs and absent facts meet"
abbrev pub contradicts : Job → Bool
contradicts j = intersects j.needs j.absent

-- it is listed with no more seconds than a job may be
abbrev pub in_time : Job → Bool
in_time j = leb j.seconds max_seconds

-- 5: "A table mask has a bit at or above F." 6: "A job's adds share a fact with its deletes or its needs." 19: document 02, W3, "A longer job is
-- refused as 19 with the command's offset, judged after 6." 22: W10, "refused as 22 with the command's offset after 19".
unfoldable pub validated_job : ℕ → ℕ → Job → Checked Job
validated_job facts at j =
    if in_range facts j
    then (if overlaps j then refused 6 at else (if in_time j then (if contradicts j then refused 22 at else accepted j) else refused 19 at))
    else refused 5 at

-- what the checks come to
pub record SoundJob (facts : ℕ) (j : Job) : Type 0 where
  pub range_held : in_range facts j ≡ true
  pub apart : overlaps j ≡ false
  pub time_held : j.seconds ≤ max_seconds
  pub one_way : contradicts j ≡ false
