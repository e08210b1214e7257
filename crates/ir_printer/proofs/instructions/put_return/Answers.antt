use Rattle.std.proofs.Common.{◌∷◌, []}
use Rattle.std.specs.Prelude.{codes, option_map}
use Rattle.ir_tree.specs.Shown.{shown, shown_argument}
use Rattle.ir_printer.specs.Pieces.{Blank, Word}
use Rattle.ir_printer.specs.Instructions.{returned_pieces, instruction_pieces}
use Rattle.ir_printer.proofs.Spelled.{put_last}
use Rattle.ir_printer.proofs.instructions.put_return.Goals as goal

pub returns : goal.returns
unfolding instruction_pieces shown
returns c =
    put_last c.put_returned.result c.args.to.now c.append.new.self c.put_returned.new.to (Word (codes "ret") ∷ Blank ∷ []) (returned_pieces (option_map (shown_argument c.args.names.now) c.args.value))
    (c.in_ok-append.ensures.ok) c.put_returned.ensures
