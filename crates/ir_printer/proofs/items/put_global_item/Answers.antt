use Rattle.std.proofs.Common.{◌++◌, ◌∷◌, []}
use Rattle.ir_tree.specs.Naming.{name_at, type_at, constant_at}
use Rattle.ir_printer.specs.Pieces.{Blank, LineEnd}
use Rattle.ir_printer.specs.Operands.{constant_pieces}
use Rattle.ir_printer.specs.Instructions.{typed}
use Rattle.ir_printer.specs.Items.{global_start}
use Rattle.ir_printer.proofs.Spelled.{put_then, put_last}
use Rattle.ir_printer.proofs.items.put_global_item.Goals as goal

pub returns : goal.returns
returns c =
    put_last c.append-2.result c.args.to.now c.put_constant.new.to c.append-2.new.self (global_start (name_at c.args.names.now c.args.global.name) c.args.global.constant ++ (typed (type_at c.args.names.now c.args.global.of)) ++ (Blank ∷ []) ++ (constant_pieces (constant_at c.args.names.now c.args.global.init))) (LineEnd ∷ [])
    (put_then c.args.to.now c.append.new.self c.put_constant.new.to (global_start (name_at c.args.names.now c.args.global.name) c.args.global.constant ++ (typed (type_at c.args.names.now c.args.global.of)) ++ (Blank ∷ [])) (constant_pieces (constant_at c.args.names.now c.args.global.init)) (put_then c.args.to.now c.put_typed.new.to c.append.new.self (global_start (name_at c.args.names.now c.args.global.name) c.args.global.constant ++ (typed (type_at c.args.names.now c.args.global.of))) (Blank ∷ []) (put_then c.args.to.now c.put_global_start.new.to c.put_typed.new.to (global_start (name_at c.args.names.now c.args.global.name) c.args.global.constant) (typed (type_at c.args.names.now c.args.global.of)) (c.in_ok-put_global_start.ensures) c.in_ok-put_typed.ensures) c.in_ok-append.ensures.ok) c.in_ok-put_constant.ensures) c.append-2.ensures.ok
