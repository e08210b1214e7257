use Rattle.ir_code.specs.Blocks.{move_of}
use Rattle.ir_code.proofs.Every.{KeptTo}
use Rattle.ir_code.proofs.joins.moves.Given as goal

abbrev pub invariant-loop-join : goal.invariant-loop-join
invariant-loop-join l = KeptTo (move_of l.lookups l.registers l.label) l.joins l.join-index l.moves
