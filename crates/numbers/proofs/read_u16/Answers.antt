-- `numbers::read_u16` meets its contract.
use Rattle.std.proofs.Common.{arith}
use Rattle.std.proofs.lemmas.List.{get_or-take, get_or-drop}
use Rattle.numbers.proofs.StdBytes.{two_bytes}
use Rattle.numbers.proofs.read_u16.Goals as goal

pub returns : goal.returns
returns c = grind (arith, get_or-take, get_or-drop, two_bytes)
