use Rattle.std.proofs.Common.{[], take}
use Rattle.std.specs.List.{flat_map}
use Rattle.ir_code.specs.Blocks.{exits_of}
use Rattle.ir_code.specs.Adding.{Adds}
use Rattle.ir_code.proofs.edges.add_edges.Given as goal

abbrev pub invariant-loop-instruction : goal.invariant-loop-instruction
invariant-loop-instruction l = Adds l.lookups l.scope l.label (flat_map exits_of (take l.instruction-index l.instructions)) l.initial.edges [] l.edges l.targets
