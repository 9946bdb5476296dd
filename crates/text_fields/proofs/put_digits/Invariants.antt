-- `text_fields::put_digits` meets its contract. The loop's invariant: some of the digits are put, and `power` is what the next one stands for.
-- The measure is that power.
use mathlib.Core.Path.{◌≡◌}
use Prim.Native.Nat.{ℕ, suc, ◌^◌}
use lib.ListN.{length}
use Rattle.text_fields.specs.DigitLaws.{Spelled}
use Rattle.text_fields.proofs.put_digits.Given as goal

abbrev pub invariant-loop-power : goal.invariant-loop-power
invariant-loop-power l =
    (length l.out ≡ length l.initial.out) × ((k : ℕ) → l.highest ≡ l.base ^ k → Spelled l.n l.base l.power (suc k) l.initial.out l.out l.at l.next)

abbrev pub decreases-loop-power : goal.decreases-loop-power
decreases-loop-power l = l.power
