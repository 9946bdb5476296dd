-- `reading::check_reading` meets its contract.
use Rattle.std.proofs.Common.{arith}
use Rattle.reading.specs.ReadingLaws.{checked_sound, checked_bad}
use Rattle.reading.proofs.check_reading.Goals as goal

pub returns-then-not-is_sound : goal.returns-then-not-is_sound
returns-then-not-is_sound c = grind (arith, checked_bad)

pub returns : goal.returns
returns c = grind (arith, checked_sound)
