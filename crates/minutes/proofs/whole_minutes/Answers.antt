-- A sum of 32 bits is a number of 64 bits that is not below zero, and its minutes are no more than its seconds.
use native.Mathlib.Omega.{arith}
use Prim.Native.Nat.{◌<◌, ◌^◌}
use mir.Syntax.{w64}
use mir.Val.{SFits}
use mir.Facts.{to_z-of_z, to_z_pos}
use Rattle.minutes.specs.Minutes.{minutes_of}
use Rattle.minutes.proofs.MinutesLaws.{nearest_le}
use Rattle.minutes.proofs.whole_minutes.Goals as goal

pub overflow_cast-result : goal.overflow_cast-result
unfolding minutes_of
overflow_cast-result c =
    let f : SFits w64 c.signed_minutes.result = record { sfits = c.signed_minutes.type_inv } in
    let h : c.args.seconds < 2 ^ 63 = omega arith in
    rw (to_z-of_z f, rw (to_z_pos w64 h) at c.signed_minutes.ensures) (tt, record { fits = omega (arith, nearest_le c.args.seconds) })

pub returns : goal.returns
unfolding minutes_of
returns c =
    let f : SFits w64 c.signed_minutes.result = record { sfits = c.signed_minutes.type_inv } in
    let h : c.args.seconds < 2 ^ 63 = omega arith in
    rw (to_z-of_z f, rw (to_z_pos w64 h) at c.signed_minutes.ensures)
