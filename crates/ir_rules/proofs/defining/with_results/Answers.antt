use Rattle.std.proofs.Common.{ap, ◌∙◌}
use Rattle.ir_rules.specs.Forms.{result_of}
use Rattle.ir_rules.proofs.DefiningLemmas.{pushed}
use Rattle.ir_rules.proofs.defining.with_results.Goals as goal

pub loop-instruction-preserved : goal.loop-instruction-preserved
loop-instruction-preserved c =
    pushed result_of c.args.all c.loop-instruction.all c.in_ok-all.all c.args.instructions.now c.loop-instruction.instruction-index c.instruction-item.result c.result_of.result c.loop-instruction-test.true c.loop-instruction.invariant
    (c.result_of.ensures ∙ ap result_of c.instruction-item.is) c.in_ok-all.ensures
