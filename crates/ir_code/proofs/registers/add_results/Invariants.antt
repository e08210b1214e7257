use Rattle.std.proofs.Common.{◌≡◌, ◌++◌, take}
use Rattle.std.specs.List.{filter_map}
use Rattle.ir_code.specs.Blocks.{result_of}
use Rattle.ir_code.proofs.registers.add_results.Given as goal

abbrev pub invariant-loop-instruction : goal.invariant-loop-instruction
invariant-loop-instruction l = l.registers ≡ l.initial.registers ++ filter_map (result_of l.lookups) (take l.instruction-index l.instructions)
