use Rattle.std.proofs.Common.{◌++◌, ◌∷◌, []}
use Rattle.std.specs.Prelude.{codes}
use Rattle.ir_tree.specs.Naming.{name_at, type_at}
use Rattle.ir_tree.specs.Shown.{shown, shown_operand}
use Rattle.ir_printer.specs.Pieces.{Blank, Word}
use Rattle.ir_printer.specs.Instructions.{predicate_word, assigned, operands_pieces, instruction_pieces}
use Rattle.ir_printer.proofs.Spelled.{put_then, put_last}
use Rattle.ir_printer.proofs.instructions.put_compare.Goals as goal

pub returns : goal.returns
unfolding instruction_pieces shown
returns c =
    put_last c.put_operands.result c.args.to.now c.put_predicate.new.to c.put_operands.new.to (assigned (name_at c.args.names.now c.args.name) (codes "icmp") ++ (Blank ∷ Word (predicate_word c.args.pred) ∷ [])) (operands_pieces (type_at c.args.names.now c.args.of) (shown_operand c.args.names.now c.args.left) (shown_operand c.args.names.now c.args.right))
    (put_then c.args.to.now c.put_assigned.new.to c.put_predicate.new.to (assigned (name_at c.args.names.now c.args.name) (codes "icmp")) (Blank ∷ Word (predicate_word c.args.pred) ∷ []) (c.in_ok-put_assigned.ensures) c.in_ok-put_predicate.ensures) c.put_operands.ensures
