-- `job::job_with` meets its contract: the operands stand where the definition reads them.
use Prim.Native.Nat.{◌+◌}
use native.Mathlib.Omega.{arith}
use mathlib.Core.Path.{◌≡◌, refl}
use Rattle.commands.specs.Commands.{EFFECTS_WIDTH}
use Rattle.job.proofs.JobLaws.{with_parts}
use Rattle.job.proofs.job_with.Goals as goal

pub returns : goal.returns
returns c =
    let a = c.args in
    let next : a.at + a.adds_at + EFFECTS_WIDTH ≡ a.at + (a.adds_at + EFFECTS_WIDTH) = omega arith in
    let job = with_parts a.paired a.absent a.adds_at _ a.at _ refl refl c.read_u64-needs.ensures c.read_u64-adds.ensures
    c.read_u64-deletes.ensures c.read_u16-seconds.ensures in
    λ i. record { value = job i; next = next i }
