use Rattle.std.proofs.Common.{◌++◌, ◌∷◌, [], map}
use Rattle.std.specs.Prelude.{codes}
use Rattle.ir_tree.specs.Naming.{name_at, type_at}
use Rattle.ir_tree.specs.Shown.{shown, shown_operand, shown_case}
use Rattle.ir_printer.specs.Pieces.{Blank, Word, Mark, joined}
use Rattle.ir_printer.specs.Instructions.{value_pieces, next_label, case_pieces, instruction_pieces}
use Rattle.ir_printer.proofs.Spelled.{put_then, put_last}
use Rattle.ir_printer.proofs.instructions.put_switch.Goals as goal

pub returns : goal.returns
unfolding instruction_pieces shown
returns c =
    put_last c.append-3.result c.args.to.now c.put_cases.new.to c.append-3.new.self (Word (codes "switch") ∷ [] ++ (value_pieces (type_at c.args.names.now c.args.of) (shown_operand c.args.names.now c.args.value)) ++ (next_label (name_at c.args.names.now c.args.default)) ++ (Blank ∷ Mark 91 ∷ Blank ∷ []) ++ (joined (map (case_pieces (type_at c.args.names.now c.args.of)) (map (shown_case c.args.names.now) c.args.cases.now)))) (Mark 93 ∷ [])
    (put_then c.args.to.now c.append-2.new.self c.put_cases.new.to (Word (codes "switch") ∷ [] ++ (value_pieces (type_at c.args.names.now c.args.of) (shown_operand c.args.names.now c.args.value)) ++ (next_label (name_at c.args.names.now c.args.default)) ++ (Blank ∷ Mark 91 ∷ Blank ∷ [])) (joined (map (case_pieces (type_at c.args.names.now c.args.of)) (map (shown_case c.args.names.now) c.args.cases.now))) (put_then c.args.to.now c.put_next_label.new.to c.append-2.new.self (Word (codes "switch") ∷ [] ++ (value_pieces (type_at c.args.names.now c.args.of) (shown_operand c.args.names.now c.args.value)) ++ (next_label (name_at c.args.names.now c.args.default))) (Blank ∷ Mark 91 ∷ Blank ∷ []) (put_then c.args.to.now c.put_value.new.to c.put_next_label.new.to (Word (codes "switch") ∷ [] ++ (value_pieces (type_at c.args.names.now c.args.of) (shown_operand c.args.names.now c.args.value))) (next_label (name_at c.args.names.now c.args.default)) (put_then c.args.to.now c.append.new.self c.put_value.new.to (Word (codes "switch") ∷ []) (value_pieces (type_at c.args.names.now c.args.of) (shown_operand c.args.names.now c.args.value)) (c.in_ok-append.ensures.ok) c.in_ok-put_value.ensures) c.in_ok-put_next_label.ensures) c.in_ok-append-2.ensures.ok) c.in_ok-put_cases.ensures) c.append-3.ensures.ok
