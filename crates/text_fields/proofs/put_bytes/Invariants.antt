-- `text_fields::put_bytes` meets its contract. The loop's invariant: the bytes passed are put.
use Rattle.std.proofs.Common.{take}
use Rattle.text_fields.specs.Puts.{Put}
use Rattle.text_fields.proofs.put_bytes.Given as goal

abbrev pub invariant-loop-byte : goal.invariant-loop-byte
invariant-loop-byte l = Put l.initial.out l.out l.at l.next (take l.byte-index l.bytes)
