-- The loop's invariant: the licences before this one are sound.
use Rattle.licences.proofs.LicenceLaws.{SoundTo}
use Rattle.licences.proofs.check_licences.Given as goal

abbrev pub invariant-loop-i : goal.invariant-loop-i
invariant-loop-i l = SoundTo l.jobs l.licences l.i
