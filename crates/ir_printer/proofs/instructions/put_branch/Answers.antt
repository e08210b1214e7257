use Rattle.std.proofs.Common.{◌++◌, ◌∷◌, []}
use Rattle.std.specs.Prelude.{codes}
use Rattle.ir_tree.specs.Naming.{name_at}
use Rattle.ir_tree.specs.Shown.{shown, shown_operand}
use Rattle.ir_printer.specs.Pieces.{Word}
use Rattle.ir_printer.specs.Instructions.{condition_pieces, next_label, instruction_pieces}
use Rattle.ir_printer.proofs.Spelled.{put_then, put_last}
use Rattle.ir_printer.proofs.instructions.put_branch.Goals as goal

pub returns : goal.returns
unfolding instruction_pieces shown
returns c =
    put_last c.put_next_label-2.result c.args.to.now c.put_next_label.new.to c.put_next_label-2.new.to (Word (codes "br") ∷ [] ++ (condition_pieces (shown_operand c.args.names.now c.args.condition)) ++ (next_label (name_at c.args.names.now c.args.on_true))) (next_label (name_at c.args.names.now c.args.on_false))
    (put_then c.args.to.now c.put_condition.new.to c.put_next_label.new.to (Word (codes "br") ∷ [] ++ (condition_pieces (shown_operand c.args.names.now c.args.condition))) (next_label (name_at c.args.names.now c.args.on_true)) (put_then c.args.to.now c.append.new.self c.put_condition.new.to (Word (codes "br") ∷ []) (condition_pieces (shown_operand c.args.names.now c.args.condition)) (c.in_ok-append.ensures.ok) c.in_ok-put_condition.ensures) c.in_ok-put_next_label.ensures) c.put_next_label-2.ensures
