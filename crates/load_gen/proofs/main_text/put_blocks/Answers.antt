use Rattle.load_gen.specs.Module.{block_text}
use Rattle.load_gen.proofs.Texts.{each_none, one_more}
use Rattle.load_gen.proofs.main_text.put_blocks.Goals as goal

pub loop-j-init : goal.loop-j-init
loop-j-init c = each_none (λ j. block_text j) c.args.to.now

pub loop-j-preserved : goal.loop-j-preserved
loop-j-preserved c = one_more (λ j. block_text j) c.loop-j.j c.args.to.now c.loop-j.to c.put_block.new.to c.loop-j.invariant c.in_ok-put_block.ensures
