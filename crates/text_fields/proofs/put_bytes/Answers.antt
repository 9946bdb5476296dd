-- `text_fields::put_bytes` meets its contract.
use Rattle.std.proofs.Common.{add-one}
use lib.Seq.{take-suc}
use Rattle.text_fields.specs.PutLaws.{put_then}
use Rattle.text_fields.proofs.put_bytes.Goals as goal

pub loop-byte-preserved : goal.loop-byte-preserved
loop-byte-preserved c =
    rw (add-one, take-suc c.args.bytes.now c.loop-byte.byte-index 0 c.loop-byte-test.true) (put_then c.loop-byte.invariant c.put_byte-next.ensures)
