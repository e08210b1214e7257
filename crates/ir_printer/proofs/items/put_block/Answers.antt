use Rattle.std.proofs.Common.{◌++◌, ◌∷◌, [], map}
use Rattle.ir_tree.specs.Naming.{name_at}
use Rattle.ir_tree.specs.Shown.{shown}
use Rattle.ir_printer.specs.Pieces.{LineEnd, Label, joined}
use Rattle.ir_printer.specs.Items.{instruction_line}
use Rattle.ir_printer.proofs.Spelled.{put_then, put_last}
use Rattle.ir_printer.proofs.items.put_block.Goals as goal

pub returns : goal.returns
returns c =
    put_last c.put_lines.result c.args.to.now c.append.new.self c.put_lines.new.to (Label (name_at c.args.names.now c.args.block.now.label) ∷ [] ++ (LineEnd ∷ [])) (joined (map instruction_line (map (shown c.args.names.now) c.args.block.now.instructions)))
    (put_then c.args.to.now c.put_label.new.to c.append.new.self (Label (name_at c.args.names.now c.args.block.now.label) ∷ []) (LineEnd ∷ []) (c.in_ok-put_label.ensures) c.in_ok-append.ensures.ok) (rw c.as_slice.ensures at c.put_lines.ensures)
