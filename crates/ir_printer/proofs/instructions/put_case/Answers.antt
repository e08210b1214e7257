use Rattle.std.proofs.Common.{◌++◌, ◌∷◌, []}
use Rattle.ir_tree.specs.Naming.{name_at, type_at, constant_at}
use Rattle.ir_printer.specs.Pieces.{Blank}
use Rattle.ir_printer.specs.Operands.{type_pieces, constant_pieces}
use Rattle.ir_printer.specs.Instructions.{next_label}
use Rattle.ir_printer.proofs.Spelled.{put_then, put_last}
use Rattle.ir_printer.proofs.instructions.put_case.Goals as goal

pub returns : goal.returns
returns c =
    put_last c.append-2.result c.args.to.now c.put_next_label.new.to c.append-2.new.self (type_pieces (type_at c.args.names.now c.args.of) ++ (Blank ∷ []) ++ (constant_pieces (constant_at c.args.names.now c.args.case.value)) ++ (next_label (name_at c.args.names.now c.args.case.to))) (Blank ∷ [])
    (put_then c.args.to.now c.put_constant.new.to c.put_next_label.new.to (type_pieces (type_at c.args.names.now c.args.of) ++ (Blank ∷ []) ++ (constant_pieces (constant_at c.args.names.now c.args.case.value))) (next_label (name_at c.args.names.now c.args.case.to)) (put_then c.args.to.now c.append.new.self c.put_constant.new.to (type_pieces (type_at c.args.names.now c.args.of) ++ (Blank ∷ [])) (constant_pieces (constant_at c.args.names.now c.args.case.value)) (put_then c.args.to.now c.put_type.new.to c.append.new.self (type_pieces (type_at c.args.names.now c.args.of)) (Blank ∷ []) (c.in_ok-put_type.ensures) c.in_ok-append.ensures.ok) c.in_ok-put_constant.ensures) c.in_ok-put_next_label.ensures) c.append-2.ensures.ok
