use Rattle.std.proofs.Common.{◌++◌, ◌∷◌, [], map}
use Rattle.ir_tree.specs.Shown.{shown_argument, shown_callee}
use Rattle.ir_printer.specs.Pieces.{Blank, Mark, separated}
use Rattle.ir_printer.specs.Operands.{argument_pieces}
use Rattle.ir_printer.specs.Instructions.{callee_piece}
use Rattle.ir_printer.proofs.Spelled.{put_then, put_last}
use Rattle.ir_printer.proofs.instructions.put_called.Goals as goal

pub returns : goal.returns
returns c =
    put_last c.append-3.result c.args.to.now c.put_arguments.new.to c.append-3.new.self (Blank ∷ [] ++ (callee_piece (shown_callee c.args.names.now c.args.callee) ∷ []) ++ (Mark 40 ∷ []) ++ (separated (map argument_pieces (map (shown_argument c.args.names.now) c.args.arguments.now)))) (Mark 41 ∷ [])
    (put_then c.args.to.now c.append-2.new.self c.put_arguments.new.to (Blank ∷ [] ++ (callee_piece (shown_callee c.args.names.now c.args.callee) ∷ []) ++ (Mark 40 ∷ [])) (separated (map argument_pieces (map (shown_argument c.args.names.now) c.args.arguments.now))) (put_then c.args.to.now c.put_callee.new.to c.append-2.new.self (Blank ∷ [] ++ (callee_piece (shown_callee c.args.names.now c.args.callee) ∷ [])) (Mark 40 ∷ []) (put_then c.args.to.now c.append.new.self c.put_callee.new.to (Blank ∷ []) (callee_piece (shown_callee c.args.names.now c.args.callee) ∷ []) (c.in_ok-append.ensures.ok) c.in_ok-put_callee.ensures) c.in_ok-append-2.ensures.ok) c.in_ok-put_arguments.ensures) c.append-3.ensures.ok
