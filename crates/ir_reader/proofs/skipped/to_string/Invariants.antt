use Rattle.std.proofs.Common.{◌≡◌, length}
use Rattle.ir_grammar.specs.PassedItems.{to_string}
use Rattle.ir_reader.proofs.skipped.to_string.Given as goal

abbrev pub invariant-loop-lexeme : goal.invariant-loop-lexeme
invariant-loop-lexeme l = to_string l.cursor ≡ to_string l.fn.cursor

abbrev pub decreases-loop-lexeme : goal.decreases-loop-lexeme
decreases-loop-lexeme l = length l.cursor
