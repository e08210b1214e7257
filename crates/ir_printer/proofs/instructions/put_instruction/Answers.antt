use Rattle.ir_tree.specs.Shown.{shown}
use Rattle.ir_printer.specs.Instructions.{instruction_pieces}
use Rattle.ir_printer.proofs.instructions.put_instruction.Goals as goal

pub returns-in-Unreachable : goal.returns-in-Unreachable
unfolding instruction_pieces shown
returns-in-Unreachable c = rw c.in-Unreachable.is c.append.ensures.ok
