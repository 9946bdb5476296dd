-- Cards of document 01's trailer, computed from the definitions.
-- Assumes nothing.
use Rattle.std.specs.Prelude.{ℕ, ◌≡◌, refl, true, false, [], ◌∷◌, map, pos, negsuc}
use Rattle.masks.specs.Sets.{subset, intersects, union, difference}
use Rattle.refusal.specs.Checked.{accepted, refused}
use Rattle.conditions.specs.Condition.{applied}
use Rattle.conditions.specs.OnReading.{applicable, finished}
use Rattle.job.specs.declared.Job.{Job}
use Rattle.minutes.specs.Minutes.{nearest, minutes_of}
use Rattle.card.specs.declared.Card.{Card}
use Rattle.card.specs.Card.{new_card, with_report, exhausted, booked, lateness_of}

abbrev card : ℕ → ℕ → ℕ → ℕ → ℕ → Card
card h u n t p = record { held = h; unread = u; reports = n; taken = t; planned = p }

-- jobs 1 uncouple, 3 measure loaded and 4 seal
abbrev uncouple : Job
uncouple = record { needs = 0x02; absent = 0; adds = 0x01; deletes = 0x02; seconds = 240; paired = false }

abbrev measure : Job
measure = record { needs = 0x02; absent = 0; adds = 0x08; deletes = 0x00; seconds = 600; paired = false }

abbrev seal : Job
seal = record { needs = 0x0c; absent = 0; adds = 0x10; deletes = 0x00; seconds = 150; paired = false }

-- a new card with the trailer on and fact 3 unread; measured in 630 seconds: half a minute late, which is no minute; uncoupled in 200: on time
pub two_reports : booked measure 630 (new_card (record { held = 0x02; unread = 0x08 })) ≡ accepted (card 0x0a 0 1 630 600)
unfolding booked applicable exhausted with_report finished applied subset intersects union difference
two_reports = refl

pub then_uncoupled : booked uncouple 200 (card 0x0a 0 1 630 600) ≡ accepted (card 0x09 0 2 830 840)
unfolding booked applicable exhausted with_report finished applied subset intersects union difference
then_uncoupled = refl

-- 17 comes before 18; 18 by the count, and by each sum one past its bound: a planned sum above it stems from a table of longer jobs, read before
-- document 02's W3
pub stops : map (booked measure 1) (card 0x00 0x02 65535 0 0 ∷ card 0x02 0 65535 0 0 ∷ card 0x02 0 1 65536 0 ∷ card 0x02 0 1 0 5401 ∷ card 0x02 0 0 1 0 ∷ [])
    ≡ refused 17 0 ∷ refused 18 0 ∷ refused 18 0 ∷ refused 18 0 ∷ refused 18 0 ∷ []
unfolding booked applicable exhausted with_report finished applied subset intersects union difference
stops = refl

-- document 02, W10, "One whose absent fact is held or unread is not applicable; its report is 17": couple, which needs fact 1 absent and adds it
abbrev couple : Job
couple = record { needs = 0; absent = 0x02; adds = 0x02; deletes = 0; seconds = 300; paired = true }

pub absent_asked : map (booked couple 310) (card 0x02 0 0 0 0 ∷ card 0 0x02 0 0 0 ∷ card 0 0x02 65535 0 0 ∷ card 0 0 65535 0 0 ∷ card 0x04 0x08 0 0 0 ∷ [])
    ≡ refused 17 0 ∷ refused 17 0 ∷ refused 17 0 ∷ refused 18 0 ∷ accepted (card 0x06 0x08 1 310 300) ∷ []
unfolding booked applicable exhausted with_report finished applied subset intersects union difference
absent_asked = refl

pub at_the_bounds : map (booked seal 65535) (card 0x0c 0 1 65535 5400 ∷ card 0x0c 0 65534 4294770690 353883600 ∷ [])
    ≡ accepted (card 0x1c 0 2 131070 5550) ∷ accepted (card 0x1c 0 65535 4294836225 353883750) ∷ []
unfolding booked applicable exhausted with_report finished applied subset intersects union difference
at_the_bounds = refl

-- half a minute late and early, which is no minute, and a second more; a minute and a half and two and a half, which are two; the ends
pub lates : map lateness_of
    (card 0 0 1 630 600 ∷ card 0 0 2 830 840 ∷ card 0 0 1 570 600 ∷ card 0 0 1 631 600 ∷ card 0 0 1 569 600
    ∷ card 0 0 1 690 600 ∷ card 0 0 1 510 600 ∷ card 0 0 1 750 600 ∷ card 0 0 1 450 600 ∷ card 0 0 0 0 4294967295 ∷ card 0 0 0 4294967295 0 ∷ [])
    ≡ pos 0 ∷ pos 0 ∷ pos 0 ∷ pos 1 ∷ negsuc 0 ∷ pos 2 ∷ negsuc 1 ∷ pos 2 ∷ negsuc 1 ∷ negsuc 71582787 ∷ pos 71582788 ∷ []
unfolding lateness_of minutes_of nearest
lates = refl
