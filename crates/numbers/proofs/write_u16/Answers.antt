-- `numbers::write_u16` meets its contract.
use Rattle.std.proofs.Common.{refl, arith}
use Rattle.numbers.proofs.StdBytes.{std_writes}
use Rattle.numbers.proofs.write_u16.Goals as goal

pub returns : goal.returns
returns c = rw (c.copy_from_slice.ensures.after, c.to_le_bytes.ensures) (std_writes 2 _ _ _ _ _ refl c.requires (omega arith))
