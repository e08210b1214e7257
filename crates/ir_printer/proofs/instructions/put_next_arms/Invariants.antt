use Rattle.std.proofs.Common.{◌≡◌, ◌++◌, map, drop}
use Rattle.ir_tree.specs.Shown.{shown_arm}
use Rattle.ir_printer.specs.Pieces.{bytes_of, led}
use Rattle.ir_printer.specs.Instructions.{arm_pieces}
use Rattle.ir_printer.proofs.instructions.put_next_arms.Given as goal

abbrev pub invariant-loop-arm : goal.invariant-loop-arm
invariant-loop-arm l =
    l.to ++ bytes_of (led (map arm_pieces (map (shown_arm l.names) (drop l.arm-index l.arms)))) ≡ l.initial.to ++ bytes_of (led (map arm_pieces (map (shown_arm l.names) l.arms)))
