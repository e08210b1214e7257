use Rattle.ir_tree.specs.Shown.{shown_arm}
use Rattle.ir_printer.specs.Pieces.{comma}
use Rattle.ir_printer.specs.Instructions.{arm_pieces}
use Rattle.ir_printer.proofs.Spelled.{put_last}
use Rattle.ir_printer.proofs.instructions.put_next_arm.Goals as goal

pub returns : goal.returns
returns c =
    put_last c.put_arm.result c.args.to.now c.append.new.self c.put_arm.new.to (comma) (arm_pieces (shown_arm c.args.names.now c.args.arm))
    (c.in_ok-append.ensures.ok) c.put_arm.ensures
