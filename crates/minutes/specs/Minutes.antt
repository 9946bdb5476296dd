-- Whole minutes of the lateness on a job card and of the time of a way, "in minutes rounded alike" (document 01). Document 02, W1: "to the
-- nearest minute with an exact half going to the even one", in place of document 01's half away from zero.
-- Assumes nothing.
use Rattle.std.specs.Prelude.{ℕ, suc, ◌+◌, ◌/◌, ◌%◌, eqb, leb, ℤ, pos, negsuc, neg_ℤ, if◌then◌else◌}

-- the nearest minute of a number of seconds without its sign: past the half the rest of a minute counts as a whole one; an exact half goes
-- from an odd number of minutes to the next and leaves an even number as it is
unfoldable pub nearest : ℕ → ℕ
nearest seconds =
    if leb 31 (seconds % 60) then suc (seconds / 60)
    else if eqb (seconds % 60) 30 then seconds / 60 + seconds / 60 % 2
    else seconds / 60

-- "below zero as above it": the sign is taken off, the rest rounded, and the sign put back
unfoldable pub minutes_of : ℤ → ℤ
minutes_of (pos n) = pos (nearest n)
minutes_of (negsuc n) = neg_ℤ (pos (nearest (suc n)))
