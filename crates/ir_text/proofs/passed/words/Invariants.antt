use Rattle.std.proofs.Common.{◌≡◌, length}
use Rattle.ir_text.specs.Passed.{words_at}
use Rattle.ir_text.specs.Stopping.{stops_of}
use Rattle.ir_text.proofs.passed.words.Given as goal

abbrev pub invariant-loop-lexeme : goal.invariant-loop-lexeme
invariant-loop-lexeme l = words_at (stops_of l.at) l.cursor ≡ words_at (stops_of l.at) l.fn.cursor

abbrev pub decreases-loop-lexeme : goal.decreases-loop-lexeme
decreases-loop-lexeme l = length l.cursor
