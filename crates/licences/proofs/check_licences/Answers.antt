-- `licences::check_licences` meets its contract.
use Rattle.std.proofs.Common.{arith}
use Rattle.std.proofs.lemmas.Grind.{common_steps}
use Rattle.licences.proofs.LicenceLaws.{other_length, sound_next, all_sound, first_bad}
use Rattle.licences.proofs.check_licences.Goals as goal

pub returns-then-licences-jobs : goal.returns-then-licences-jobs
returns-then-licences-jobs c = grind (arith, common_steps, other_length)

pub returns-then-not-is_licence : goal.returns-then-not-is_licence
returns-then-not-is_licence c = grind (arith, common_steps, first_bad)

pub loop-i-preserved : goal.loop-i-preserved
loop-i-preserved c = grind (arith, common_steps, sound_next)

pub returns : goal.returns
returns c = grind (arith, common_steps, all_sound)
