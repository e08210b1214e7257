use Rattle.std.proofs.Common.{◌+◌, length, ap, arith}
use Rattle.ir_code.specs.Blocks.{edges_of}
use Rattle.ir_code.proofs.Assembling.{blocks_more, flat_more, longer}
use Rattle.ir_code.proofs.Fits.{blocks_fit_more}
use Rattle.ir_code.proofs.functions.blocks_of.Goals as goal

pub loop-block-preserved : goal.loop-block-preserved
loop-block-preserved c =
    let more = longer c.loop-block.edges (edges_of c.args.lookups.now c.args.scope.now c.block-item.result) c.block_of.new.edges c.in_ok-code.ensures.edges in
    record {
      code = blocks_more c.args.module.now c.args.lookups.now c.args.scope.now c.args.all.now c.loop-block.block-index c.block-item.result c.loop-block.first (length c.loop-block.edges) (c.loop-block.first + c.len-first.result) (length c.block_of.new.edges) c.loop-block.blocks c.push.new.self c.in_ok-code.code _
          c.loop-block-test.true c.block-item.is c.in_ok-code.ensures.code c.in_ok-push.ensures.ok (ap (λ n. c.loop-block.first + n) c.len-first.ensures) more c.loop-block.invariant.code;
      edges = flat_more (edges_of c.args.lookups.now c.args.scope.now) c.args.all.now c.loop-block.block-index c.block-item.result c.loop-block.edges c.block_of.new.edges _ c.loop-block-test.true c.block-item.is c.in_ok-code.ensures.edges c.loop-block.invariant.edges;
      first = let n = c.len-first.ensures in let lt = c.in_ok-code.ensures.count in omega arith;
      fits = blocks_fit_more c.loop-block.blocks c.push.new.self c.in_ok-code.code c.in_ok-push.ensures.ok c.in_ok-code.ensures.fits c.loop-block.invariant.fits;
    }
