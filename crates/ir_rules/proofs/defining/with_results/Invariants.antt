use Rattle.std.proofs.Common.{◌≡◌, ◌++◌, take}
use Rattle.std.specs.List.{filter_map}
use Rattle.ir_rules.specs.Forms.{result_of}
use Rattle.ir_rules.proofs.defining.with_results.Given as goal

abbrev pub invariant-loop-instruction : goal.invariant-loop-instruction
invariant-loop-instruction l = l.all ≡ l.initial.all ++ filter_map result_of (take l.instruction-index l.instructions)
