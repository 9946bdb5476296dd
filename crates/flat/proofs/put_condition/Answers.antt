-- `flat::put_condition` meets its contract: the command and its mask, and of a pair the second mask after it.
use Rattle.std.proofs.Common.{arith}
use Rattle.std.proofs.lemmas.Grind.{common_steps}
use Rattle.numbers.specs.Numbers.{to_bytes}
use Rattle.flat.specs.TreeBytes.{condition_bytes}
use Rattle.flat.specs.TreeBytesLaws.{puts_then}
use Rattle.flat.proofs.put_condition.Goals as goal

pub returns : goal.returns
unfolding condition_bytes to_bytes
returns c =
    rw c.if-not-paired.false
    (puts_then c.put_mask-absent_at.ensures (record { written = c.write_u64.ensures; past = grind (arith, common_steps) }))
