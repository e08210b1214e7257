use Rattle.std.proofs.Common.{◌++◌, ◌∷◌, []}
use Rattle.ir_tree.specs.Shown.{shown}
use Rattle.ir_printer.specs.Pieces.{Blank, LineEnd}
use Rattle.ir_printer.specs.Instructions.{instruction_pieces}
use Rattle.ir_printer.proofs.Spelled.{put_then, put_last}
use Rattle.ir_printer.proofs.items.put_line.Goals as goal

pub returns : goal.returns
returns c =
    put_last c.append-2.result c.args.to.now c.put_instruction.new.to c.append-2.new.self (Blank ∷ Blank ∷ [] ++ (instruction_pieces (shown c.args.names.now c.args.it.now))) (LineEnd ∷ [])
    (put_then c.args.to.now c.append.new.self c.put_instruction.new.to (Blank ∷ Blank ∷ []) (instruction_pieces (shown c.args.names.now c.args.it.now)) (c.in_ok-append.ensures.ok) c.in_ok-put_instruction.ensures) c.append-2.ensures.ok
