use Rattle.std.proofs.Common.{◌++◌, ◌∷◌, [], map}
use Rattle.std.specs.Prelude.{codes, option_map}
use Rattle.ir_tree.specs.Naming.{name_at, type_at}
use Rattle.ir_tree.specs.Shown.{shown, shown_argument, shown_callee}
use Rattle.ir_printer.specs.Pieces.{Word}
use Rattle.ir_printer.specs.Instructions.{typed, result_pieces, variadic_pieces, called_pieces, instruction_pieces}
use Rattle.ir_printer.proofs.Spelled.{put_then, put_last}
use Rattle.ir_printer.proofs.instructions.put_call.Goals as goal

pub returns : goal.returns
unfolding instruction_pieces shown
returns c =
    put_last c.put_called.result c.args.to.now c.put_variadic.new.to c.put_called.new.to (result_pieces (option_map (name_at c.args.names.now) c.args.name) ++ (Word (codes "call") ∷ []) ++ (typed (type_at c.args.names.now c.args.of)) ++ (variadic_pieces c.args.variadic)) (called_pieces (shown_callee c.args.names.now c.args.callee) (map (shown_argument c.args.names.now) c.args.arguments.now))
    (put_then c.args.to.now c.put_typed.new.to c.put_variadic.new.to (result_pieces (option_map (name_at c.args.names.now) c.args.name) ++ (Word (codes "call") ∷ []) ++ (typed (type_at c.args.names.now c.args.of))) (variadic_pieces c.args.variadic) (put_then c.args.to.now c.append.new.self c.put_typed.new.to (result_pieces (option_map (name_at c.args.names.now) c.args.name) ++ (Word (codes "call") ∷ [])) (typed (type_at c.args.names.now c.args.of)) (put_then c.args.to.now c.put_result.new.to c.append.new.self (result_pieces (option_map (name_at c.args.names.now) c.args.name)) (Word (codes "call") ∷ []) (c.in_ok-put_result.ensures) c.in_ok-append.ensures.ok) c.in_ok-put_typed.ensures) c.in_ok-put_variadic.ensures) c.put_called.ensures
