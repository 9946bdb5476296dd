-- A job of either kind begins with its command's byte and its needs, and closes with its effects.
use Rattle.std.proofs.Common.{arith}
use Rattle.std.proofs.Math.ListN.{length-set}
use Rattle.table_writer.specs.WriteLaws.{plain_size, paired_size, least_size, plain_stored, paired_stored}
use Rattle.table_writer.proofs.put_job.Goals as goal

pub bounds-out-at : goal.bounds-out-at
bounds-out-at c = omega (arith, least_size c.args.job)

pub write_u64-requires : goal.write_u64-requires
write_u64-requires c = simp length-set (omega (arith, least_size c.args.job))

pub write_u64-requires-then-job : goal.write_u64-requires-then-job
write_u64-requires-then-job c = omega (arith, paired_size c.args.job c.if-job.true, simp length-set at c.write_u64.auto.s)

pub put_effects-requires : goal.put_effects-requires
put_effects-requires c = omega (arith, paired_size c.args.job c.if-job.true, simp length-set at c.write_u64.auto.s, c.write_u64-then-job.auto.s)

pub returns-then-job : goal.returns-then-job
returns-then-job c =
    let p = paired_size c.args.job c.if-job.true in
    (omega (arith, p, c.put_effects.ensures.0), paired_stored _ _ _ _ c.args.job c.write_u64.ensures c.command_of.ensures _ _ c.if-job.true c.write_u64-then-job.ensures c.put_effects.ensures.1)

pub put_effects-requires-2 : goal.put_effects-requires-2
put_effects-requires-2 c = omega (arith, least_size c.args.job, simp length-set at c.write_u64.auto.s)

pub returns : goal.returns
returns c =
    let p = plain_size c.args.job c.if-job.false in
    (omega (arith, p, c.put_effects-2.ensures.0), plain_stored _ _ _ _ c.args.job c.write_u64.ensures c.command_of.ensures _ c.if-job.false c.put_effects-2.ensures.1)
