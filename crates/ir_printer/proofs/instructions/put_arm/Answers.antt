use Rattle.std.proofs.Common.{◌++◌, ◌∷◌, []}
use Rattle.ir_tree.specs.Naming.{name_at}
use Rattle.ir_tree.specs.Shown.{shown_operand}
use Rattle.ir_printer.specs.Pieces.{Blank, Mark, Local, comma}
use Rattle.ir_printer.specs.Instructions.{reading}
use Rattle.ir_printer.proofs.Spelled.{put_then, put_last}
use Rattle.ir_printer.proofs.instructions.put_arm.Goals as goal

pub returns : goal.returns
returns c =
    put_last c.append-3.result c.args.to.now c.put_local.new.to c.append-3.new.self (Mark 91 ∷ [] ++ (reading (shown_operand c.args.names.now c.args.arm.value)) ++ (comma) ++ (Local (name_at c.args.names.now c.args.arm.from) ∷ [])) (Blank ∷ Mark 93 ∷ [])
    (put_then c.args.to.now c.append-2.new.self c.put_local.new.to (Mark 91 ∷ [] ++ (reading (shown_operand c.args.names.now c.args.arm.value)) ++ (comma)) (Local (name_at c.args.names.now c.args.arm.from) ∷ []) (put_then c.args.to.now c.put_reading.new.to c.append-2.new.self (Mark 91 ∷ [] ++ (reading (shown_operand c.args.names.now c.args.arm.value))) (comma) (put_then c.args.to.now c.append.new.self c.put_reading.new.to (Mark 91 ∷ []) (reading (shown_operand c.args.names.now c.args.arm.value)) (c.in_ok-append.ensures.ok) c.in_ok-put_reading.ensures) c.in_ok-append-2.ensures.ok) c.in_ok-put_local.ensures) c.append-3.ensures.ok
