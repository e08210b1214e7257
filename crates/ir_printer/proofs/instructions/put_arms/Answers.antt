use Rattle.ir_tree.specs.Shown.{shown_arm}
use Rattle.ir_printer.specs.Instructions.{arm_pieces}
use Rattle.ir_printer.proofs.Spelled.{separated_first}
use Rattle.ir_printer.proofs.instructions.put_arms.Goals as goal

pub returns-in_ok-put_arm-in-len1-up : goal.returns-in_ok-put_arm-in-len1-up
returns-in_ok-put_arm-in-len1-up c =
    separated_first arm_pieces (shown_arm c.args.names.now) c.args.arms.now _ c.put_next_arms.result c.args.to.now c.put_arm.new.to c.put_next_arms.new.to c.in-len1-up.len_at_least c.in_ok-put_arm-in-len1-up.ensures c.put_next_arms.ensures
