use Rattle.std.proofs.Common.{◌++◌, ◌∷◌}
use Rattle.std.specs.Prelude.{codes}
use Rattle.ir_tree.specs.Naming.{name_at, type_at}
use Rattle.ir_tree.specs.Shown.{shown, shown_operand}
use Rattle.ir_printer.specs.Pieces.{Blank, Word}
use Rattle.ir_printer.specs.Instructions.{cast_word, cast_flags, assigned, typed, value_pieces, instruction_pieces}
use Rattle.ir_printer.proofs.Spelled.{put_then, put_last}
use Rattle.ir_printer.proofs.instructions.put_cast.Goals as goal

pub returns : goal.returns
unfolding instruction_pieces shown
returns c =
    put_last c.put_target.result c.args.to.now c.put_value.new.to c.put_target.new.to (assigned (name_at c.args.names.now c.args.name) (cast_word c.args.op) ++ (cast_flags c.args.op c.args.flags) ++ (value_pieces (type_at c.args.names.now c.args.of) (shown_operand c.args.names.now c.args.value))) (Blank ∷ Word (codes "to") ∷ typed (type_at c.args.names.now c.args.target))
    (put_then c.args.to.now c.put_cast_flags.new.to c.put_value.new.to (assigned (name_at c.args.names.now c.args.name) (cast_word c.args.op) ++ (cast_flags c.args.op c.args.flags)) (value_pieces (type_at c.args.names.now c.args.of) (shown_operand c.args.names.now c.args.value)) (put_then c.args.to.now c.put_assigned.new.to c.put_cast_flags.new.to (assigned (name_at c.args.names.now c.args.name) (cast_word c.args.op)) (cast_flags c.args.op c.args.flags) ((rw c.cast_word.ensures at c.in_ok-put_assigned.ensures)) c.in_ok-put_cast_flags.ensures) c.in_ok-put_value.ensures) c.put_target.ensures
