use Rattle.std.proofs.Common.{◌≡◌, ◌++◌, map, take}
use Rattle.ir_code.specs.Places.{exit_at}
use Rattle.ir_code.specs.Blocks.{op_of}
use Rattle.ir_code.proofs.ops.with_ops.Given as goal

abbrev pub invariant-loop-instruction : goal.invariant-loop-instruction
invariant-loop-instruction l = l.ops ≡ l.initial.ops ++ map (op_of l.«module» l.lookups l.scope (exit_at l.scope.labels l.exits.targets l.exits.first)) (take l.instruction-index l.instructions)
