use Rattle.std.proofs.Common.{◌≡◌, ◌++◌, drop}
use Rattle.ir_code.specs.Blocks.{joins_of}
use Rattle.ir_code.proofs.joins.joins.Given as goal

abbrev pub invariant-loop-instruction : goal.invariant-loop-instruction
invariant-loop-instruction l = l.joins ++ joins_of (drop l.instruction-index l.instructions) ≡ joins_of l.instructions
