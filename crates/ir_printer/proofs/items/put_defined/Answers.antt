use Rattle.std.proofs.Common.{◌++◌, ◌∷◌, [], map}
use Rattle.std.specs.Prelude.{codes}
use Rattle.ir_tree.specs.Shown.{shown_function}
use Rattle.ir_printer.specs.Pieces.{Blank, LineEnd, Word, Mark, joined}
use Rattle.ir_tree.specs.Shown.{shown_block}
use Rattle.ir_printer.specs.Items.{head_pieces, block_pieces}
use Rattle.ir_printer.proofs.Spelled.{put_then, put_last}
use Rattle.ir_printer.proofs.items.put_defined.Goals as goal

pub returns : goal.returns
returns c =
    put_last c.append-3.result c.args.to.now c.put_blocks.new.to c.append-3.new.self (Word (codes "define") ∷ Blank ∷ [] ++ (head_pieces (shown_function c.args.names.now c.args.function.now)) ++ (Blank ∷ Mark 123 ∷ LineEnd ∷ []) ++ (joined (map block_pieces (map (shown_block c.args.names.now) c.args.function.now.blocks)))) (Mark 125 ∷ LineEnd ∷ [])
    (put_then c.args.to.now c.append-2.new.self c.put_blocks.new.to (Word (codes "define") ∷ Blank ∷ [] ++ (head_pieces (shown_function c.args.names.now c.args.function.now)) ++ (Blank ∷ Mark 123 ∷ LineEnd ∷ [])) (joined (map block_pieces (map (shown_block c.args.names.now) c.args.function.now.blocks))) (put_then c.args.to.now c.put_head.new.to c.append-2.new.self (Word (codes "define") ∷ Blank ∷ [] ++ (head_pieces (shown_function c.args.names.now c.args.function.now))) (Blank ∷ Mark 123 ∷ LineEnd ∷ []) (put_then c.args.to.now c.append.new.self c.put_head.new.to (Word (codes "define") ∷ Blank ∷ []) (head_pieces (shown_function c.args.names.now c.args.function.now)) (c.in_ok-append.ensures.ok) c.in_ok-put_head.ensures) c.in_ok-append-2.ensures.ok) (rw c.as_slice.ensures at c.in_ok-put_blocks.ensures)) c.append-3.ensures.ok
