use Rattle.std.proofs.Common.{◌++◌, ◌∷◌, []}
use Rattle.std.specs.Prelude.{codes}
use Rattle.ir_tree.specs.Naming.{type_at}
use Rattle.ir_tree.specs.Shown.{shown, shown_operand}
use Rattle.ir_printer.specs.Pieces.{Word}
use Rattle.ir_printer.specs.Instructions.{value_pieces, next_pointer, instruction_pieces}
use Rattle.ir_printer.proofs.Spelled.{put_then, put_last}
use Rattle.ir_printer.proofs.instructions.put_store.Goals as goal

pub returns : goal.returns
unfolding instruction_pieces shown
returns c =
    put_last c.put_next_pointer.result c.args.to.now c.put_value.new.to c.put_next_pointer.new.to (Word (codes "store") ∷ [] ++ (value_pieces (type_at c.args.names.now c.args.of) (shown_operand c.args.names.now c.args.value))) (next_pointer (shown_operand c.args.names.now c.args.pointer))
    (put_then c.args.to.now c.append.new.self c.put_value.new.to (Word (codes "store") ∷ []) (value_pieces (type_at c.args.names.now c.args.of) (shown_operand c.args.names.now c.args.value)) (c.in_ok-append.ensures.ok) c.in_ok-put_value.ensures) c.put_next_pointer.ensures
