-- `commands::width_of` meets its contract: each byte has its width in the table, and a byte that is none of them has no command.
use mathlib.Core.Path.{◌≡◌, sym}
use mathlib.Core.Bool.{false}
use Prim.Native.Nat.{ℕ}
use borrow.Author.Tests.{ne_eqb}
use lib.Dec.{eqb}
use Rattle.commands.specs.Commands.{FACTS, JOB, PAIRED_JOB, GOAL, END_OF_TABLE, FALLBACK, SEQUENCE, CONDITION, JOB_LEAF, PAIR, WAITING, END_OF_TREE, width_of}
use Rattle.commands.proofs.width_of.Goals as goal

pub returns-in-16 : goal.returns-in-16
unfolding width_of
returns-in-16 c = rw c.in-16.is

pub returns-in-32 : goal.returns-in-32
unfolding width_of
returns-in-32 c = rw c.in-32.is

pub returns-in-48 : goal.returns-in-48
unfolding width_of
returns-in-48 c = rw c.in-48.is

pub returns-in-63 : goal.returns-in-63
unfolding width_of
returns-in-63 c = rw c.in-63.is

pub returns-in-65 : goal.returns-in-65
unfolding width_of
returns-in-65 c = rw c.in-65.is

pub returns-in-66 : goal.returns-in-66
unfolding width_of
returns-in-66 c = rw c.in-66.is

pub returns-in-67 : goal.returns-in-67
unfolding width_of
returns-in-67 c = rw c.in-67.is

pub returns-in-68 : goal.returns-in-68
unfolding width_of
returns-in-68 c = rw c.in-68.is

pub returns-in-79 : goal.returns-in-79
unfolding width_of
returns-in-79 c = rw c.in-79.is

pub returns-in-33 : goal.returns-in-33
unfolding width_of
returns-in-33 c = rw c.in-33.is

pub returns-in-69 : goal.returns-in-69
unfolding width_of
returns-in-69 c = rw c.in-69.is

pub returns-in-70 : goal.returns-in-70
unfolding width_of
returns-in-70 c = rw c.in-70.is

another : {b : ℕ} (k : ℕ) → (b ≡ k → ⊥) → eqb k b ≡ false
another {b} k n = ne_eqb k b (λ e. n (sym e))

pub returns-in_default : goal.returns-in_default
unfolding width_of
returns-in_default c =
    let r = c.in_default.in_default-own.rest in
    rw (
      another FACTS r.0.0.0.0.0.0.0.0.0.0.0.1,
      another JOB r.0.0.0.0.0.0.0.0.0.0.1,
      another GOAL r.0.0.0.0.0.0.0.0.0.1,
      another END_OF_TABLE r.0.0.0.0.0.0.0.0.1,
      another FALLBACK r.0.0.0.0.0.0.0.1,
      another SEQUENCE r.0.0.0.0.0.0.1,
      another CONDITION r.0.0.0.0.0.1,
      another JOB_LEAF r.0.0.0.0.1,
      another END_OF_TREE r.0.0.0.1,
      another PAIRED_JOB r.0.0.1,
      another PAIR r.0.1,
      another WAITING r.1,
    )
