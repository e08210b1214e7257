use Rattle.std.proofs.Common.{[], ◌++◌, ap, ◌∙◌}
use Rattle.std.specs.List.{cons_option}
use Rattle.ir_code.specs.Blocks.{result_of}
use Rattle.ir_code.proofs.Filtering.{filter_more}
use Rattle.ir_code.proofs.registers.add_results.Goals as goal

pub loop-instruction-preserved : goal.loop-instruction-preserved
loop-instruction-preserved c = filter_more (result_of c.args.lookups.now) c.args.instructions.now c.loop-instruction.instruction-index c.instruction-item.result c.args.registers c.loop-instruction.registers _ c.loop-instruction-test.true c.loop-instruction.invariant
    (c.in_ok-registers.ensures ∙ ap (λ x. c.loop-instruction.registers ++ cons_option (result_of c.args.lookups.now x) []) c.instruction-item.is)
