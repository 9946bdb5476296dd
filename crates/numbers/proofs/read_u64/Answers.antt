-- `numbers::read_u64` meets its contract.
use Rattle.std.proofs.Common.{arith}
use Rattle.std.proofs.lemmas.List.{get_or-take, get_or-drop}
use Rattle.numbers.proofs.StdBytes.{eight_bytes}
use Rattle.numbers.proofs.read_u64.Goals as goal

pub returns : goal.returns
returns c = grind (arith, get_or-take, get_or-drop, eight_bytes)
