use Rattle.std.proofs.Common.{true, arith}
use Rattle.std.specs.Prelude.{nat_eq, not, ◌||◌}
use Rattle.std.specs.List.{list_all}
use Rattle.ir_rules.specs.Forms.{targets}
use Rattle.ir_checker.specs.Keys.{key_of}
use Rattle.ir_checker.specs.Entering.{list_at}
use Rattle.ir_checker.proofs.EnterLemmas.{all_step, all_done}
use Rattle.ir_checker.proofs.edges.with_blocks.Goals as goal

pub loop-block-preserved : goal.loop-block-preserved
loop-block-preserved c = λ q p.
    all_step (λ b. list_all (λ i. list_all (λ k. not (nat_eq q (key_of c.args.names.now c.args.zero k)) || p (key_of c.args.names.now c.args.zero b.label)) (targets i)) b.instructions) c.args.blocks.now c.loop-block.block-index c.block-item.result c.block-item.result
    true (list_all p (list_at c.loop-block.to q)) _ (omega arith) c.block-item.is
    (rw (c.as_slice.ensures, c.key_of-from.ensures) at (c.in_ok-to.ensures q p)) (c.loop-block.invariant q p)

pub returns : goal.returns
returns c = λ q p.
    all_done (λ b. list_all (λ i. list_all (λ k. not (nat_eq q (key_of c.args.names.now c.args.zero k)) || p (key_of c.args.names.now c.args.zero b.label)) (targets i)) b.instructions) c.args.blocks.now c.loop-block.block-index true _ (omega arith) (c.loop-block.invariant q p)
