use Rattle.std.proofs.Common.{◌≡◌, length}
use Rattle.ir_instr.specs.Calls.{attributes_at}
use Rattle.ir_instr.proofs.calls.attributes.Given as goal

abbrev pub invariant-loop-lexeme : goal.invariant-loop-lexeme
invariant-loop-lexeme l = attributes_at l.cursor ≡ attributes_at l.fn.cursor

abbrev pub decreases-loop-lexeme : goal.decreases-loop-lexeme
decreases-loop-lexeme l = length l.cursor
