-- `bay_card::bay_report` meets its contract.
use mathlib.Core.Path.{◌≡◌, refl}
use mathlib.Core.Bool.{true, false}
use native.Mathlib.Omega.{arith}
use Prim.Native.Nat.{◌≤◌, ◌<◌}
use lib.Dec.{ltb}
use borrow.Author.Tests.{lt-ltb, le-ltb}
use Rattle.bay_words.specs.WordLaws.{answered_by}
use Rattle.bay_card.specs.CardWordLaws.{step_stored}
use Rattle.bay_card.proofs.bay_report.Goals as goal
use Rattle.bay_card.proofs.bay_report.Lts as Lts
use Rattle.bay_card.proofs.bay_report.Tie as Tie
use Rattle.bay_card.proofs.bay_report.Reads as Reads

abbrev AtAfterAnswer : Type 0
AtAfterAnswer = Lts.After-answer Tie.the-claims Reads.Pre Reads.Post

abbrev AtAfterReported : Type 0
AtAfterReported = Lts.After-reported Tie.the-claims Reads.Pre Reads.Post

abbrev AtAfterStore : Type 0
AtAfterStore = Lts.After-store Tie.the-claims Reads.Pre Reads.Post

abbrev AtElse1 : Type 0
AtElse1 = Lts.Else1 Tie.the-claims Reads.Pre Reads.Post

-- ---- the seconds are too many

abbrev Refused : Type 0
Refused = AtAfterAnswer

too_many : (c : Refused) → ltb c.before.before.before.args.seconds 65536 ≡ false
too_many c = let m : 65536 ≤ c.args.seconds = omega (arith, c.if-seconds-gt-MAX_TAKEN.true) in le-ltb _ _ m

pub returns-then-seconds-gt-MAX_TAKEN : goal.returns-then-seconds-gt-MAX_TAKEN
returns-then-seconds-gt-MAX_TAKEN c = rw (too_many c.before) (record { card = refl; answers = answered_by refl })

-- ---- they are a report's

abbrev Judged : Type 0
Judged = AtElse1

pub overflow_cast-taken : goal.overflow_cast-taken
overflow_cast-taken c = omega (arith, c.if-seconds-gt-MAX_TAKEN.false)

range_held : (c : Judged) → ltb c.before.before.args.seconds 65536 ≡ true
range_held c = let m : c.args.seconds < 65536 = omega (arith, c.if-seconds-gt-MAX_TAKEN.false) in lt-ltb _ _ m

abbrev Reported : Type 0
Reported = AtAfterReported

abbrev step_of : AtAfterStore → Reported
step_of c = c.before.before.before.before.before.before.before

abbrev judged_of : Reported → Judged
judged_of c = c.before.before.before.before.before.before

pub returns : goal.returns
returns c = rw (range_held (judged_of (step_of c.before))) (step_stored (step_of c.before).reported-reported.ensures c.store.ensures)
