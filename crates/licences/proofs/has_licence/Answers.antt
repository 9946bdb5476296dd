-- `licences::has_licence` meets its contract: past the row's end stands the first fitter's licence.
use mathlib.Core.Path.{ap}
use Prim.Native.Nat.{ℕ}
use lib.Dec.{eqb}
use lib.ListN.{get_or-eq_default}
use Rattle.base.specs.Lists.{get_d_inside}
use Rattle.licences.specs.Licences.{FIRST}
use Rattle.licences.proofs.has_licence.Goals as goal

pub returns-then-i-licences : goal.returns-then-i-licences
returns-then-i-licences c = let a = c.before.before.args in rw (get_or-eq_default a.licences.now FIRST c.before.if-i-licences.true)

pub returns : goal.returns
returns c =
    let a = c.before.before.before.args in
    ap (λ (k : ℕ). eqb k a.licence) (get_d_inside a.licences.now a.job 0 FIRST c.before.before.if-i-licences.false)
