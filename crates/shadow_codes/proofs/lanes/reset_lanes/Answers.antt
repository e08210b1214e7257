use Rattle.std.proofs.Common.{ℕ, List, ◌*◌, ◌+◌, map, ap, ◌∙◌, arith}
use lib.Lanes.{chunk, put_chunk}
use Rattle.shadow_codes.specs.Codes.{reset_code}
use Rattle.shadow_codes.proofs.Blocks.{block_more}
use Rattle.shadow_codes.proofs.lanes.reset_lanes.Goals as goal

pub loop-block-preserved : goal.loop-block-preserved
loop-block-preserved c =
    let at : ℕ = 32 * c.loop-block.block in
    c.reset_block.ensures ∙ ap (λ (xs : List ℕ). put_chunk at xs (map reset_code (chunk at 32 xs))) c.loop-block.invariant
    ∙ block_more reset_code at 32 (32 * (c.loop-block.block + 1)) c.args.codes.now (omega arith) (omega arith)
