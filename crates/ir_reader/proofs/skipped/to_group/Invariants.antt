use Rattle.std.proofs.Common.{◌≡◌, length}
use Rattle.ir_grammar.specs.PassedItems.{to_group}
use Rattle.ir_reader.proofs.skipped.to_group.Given as goal

abbrev pub invariant-loop-lexeme : goal.invariant-loop-lexeme
invariant-loop-lexeme l = to_group l.cursor ≡ to_group l.fn.cursor

abbrev pub decreases-loop-lexeme : goal.decreases-loop-lexeme
decreases-loop-lexeme l = length l.cursor
