use Rattle.std.proofs.Common.{◌++◌, ◌∷◌, [], map}
use Rattle.ir_tree.specs.Naming.{name_at, type_at}
use Rattle.ir_tree.specs.Shown.{shown_param}
use Rattle.ir_printer.specs.Pieces.{Blank, Mark, Global}
use Rattle.ir_printer.specs.Operands.{type_pieces}
use Rattle.ir_printer.specs.Items.{params_pieces}
use Rattle.ir_printer.proofs.Spelled.{put_then, put_last}
use Rattle.ir_printer.proofs.items.put_head.Goals as goal

pub returns : goal.returns
returns c =
    put_last c.append-3.result c.args.to.now c.put_params.new.to c.append-3.new.self (type_pieces (type_at c.args.names.now c.args.function.now.result) ++ (Blank ∷ []) ++ (Global (name_at c.args.names.now c.args.function.now.name) ∷ []) ++ (Mark 40 ∷ []) ++ (params_pieces (map (shown_param c.args.names.now) c.args.function.now.params) c.args.function.now.variadic)) (Mark 41 ∷ [])
    (put_then c.args.to.now c.append-2.new.self c.put_params.new.to (type_pieces (type_at c.args.names.now c.args.function.now.result) ++ (Blank ∷ []) ++ (Global (name_at c.args.names.now c.args.function.now.name) ∷ []) ++ (Mark 40 ∷ [])) (params_pieces (map (shown_param c.args.names.now) c.args.function.now.params) c.args.function.now.variadic) (put_then c.args.to.now c.put_global.new.to c.append-2.new.self (type_pieces (type_at c.args.names.now c.args.function.now.result) ++ (Blank ∷ []) ++ (Global (name_at c.args.names.now c.args.function.now.name) ∷ [])) (Mark 40 ∷ []) (put_then c.args.to.now c.append.new.self c.put_global.new.to (type_pieces (type_at c.args.names.now c.args.function.now.result) ++ (Blank ∷ [])) (Global (name_at c.args.names.now c.args.function.now.name) ∷ []) (put_then c.args.to.now c.put_type.new.to c.append.new.self (type_pieces (type_at c.args.names.now c.args.function.now.result)) (Blank ∷ []) (c.in_ok-put_type.ensures) c.in_ok-append.ensures.ok) c.in_ok-put_global.ensures) c.in_ok-append-2.ensures.ok) (rw c.as_slice.ensures at c.in_ok-put_params.ensures)) c.append-3.ensures.ok
