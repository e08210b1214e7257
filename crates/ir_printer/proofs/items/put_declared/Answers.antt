use Rattle.std.proofs.Common.{◌++◌, ◌∷◌, []}
use Rattle.std.specs.Prelude.{codes}
use Rattle.ir_tree.specs.Shown.{shown_function}
use Rattle.ir_printer.specs.Pieces.{Blank, LineEnd, Word}
use Rattle.ir_printer.specs.Items.{head_pieces}
use Rattle.ir_printer.proofs.Spelled.{put_then, put_last}
use Rattle.ir_printer.proofs.items.put_declared.Goals as goal

pub returns : goal.returns
returns c =
    put_last c.append-2.result c.args.to.now c.put_head.new.to c.append-2.new.self (Word (codes "declare") ∷ Blank ∷ [] ++ (head_pieces (shown_function c.args.names.now c.args.function.now))) (LineEnd ∷ [])
    (put_then c.args.to.now c.append.new.self c.put_head.new.to (Word (codes "declare") ∷ Blank ∷ []) (head_pieces (shown_function c.args.names.now c.args.function.now)) (c.in_ok-append.ensures.ok) c.in_ok-put_head.ensures) c.append-2.ensures.ok
