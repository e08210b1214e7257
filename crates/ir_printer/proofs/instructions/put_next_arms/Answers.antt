use Rattle.std.proofs.Common.{◌++◌, map, refl}
use Rattle.ir_tree.specs.Shown.{shown_arm}
use Rattle.ir_printer.specs.Pieces.{bytes_of, led}
use Rattle.ir_printer.specs.Instructions.{arm_pieces}
use Rattle.ir_printer.proofs.Spelled.{led_step}
use Rattle.ir_printer.proofs.instructions.put_next_arms.Goals as goal

pub loop-arm-preserved : goal.loop-arm-preserved
loop-arm-preserved c =
    led_step arm_pieces (shown_arm c.args.names.now) c.args.arms.now c.loop-arm.arm-index _ _ c.loop-arm.to c.put_next_arm.new.to
    (c.args.to.now ++ bytes_of (led (map arm_pieces (map (shown_arm c.args.names.now) c.args.arms.now)))) c.loop-arm-test.true refl c.in_ok-put_next_arm.ensures c.loop-arm.invariant
