use Rattle.std.proofs.Common.{◌*◌, ◌+◌, arith}
use Rattle.shadow_codes.proofs.Clashes.{no_clash_more}
use Rattle.shadow_codes.proofs.lanes.front_without_clash.Goals as goal

pub loop-block-preserved : goal.loop-block-preserved
loop-block-preserved c =
    no_clash_more (32 * c.loop-block.block) 32 (32 * (c.loop-block.block + 1)) c.args.reads.now c.args.writes.now (omega arith) c.requires c.loop-block.invariant (c.has_clash.ensures c.if-has_clash.false)
