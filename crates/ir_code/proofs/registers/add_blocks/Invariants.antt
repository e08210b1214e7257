use Rattle.std.proofs.Common.{◌≡◌, ◌++◌, take}
use Rattle.std.specs.List.{filter_map, flat_map}
use Rattle.ir_code.specs.Blocks.{result_of}
use Rattle.ir_code.proofs.registers.add_blocks.Given as goal

abbrev pub invariant-loop-block : goal.invariant-loop-block
invariant-loop-block l = l.registers ≡ l.initial.registers ++ flat_map (λ b. filter_map (result_of l.lookups) b.instructions) (take l.block-index l.blocks)
