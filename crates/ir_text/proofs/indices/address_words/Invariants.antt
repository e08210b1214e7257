use Rattle.std.proofs.Common.{◌≡◌, ◌≤◌, length}
use Rattle.ir_text.specs.Reading.{token_by}
use Rattle.ir_text.specs.Passed.{skipped}
use Rattle.ir_text.specs.Indices.{is_address_word, address_word}
use Rattle.ir_text.proofs.indices.address_words.Given as goal

abbrev pub invariant-loop-lexeme : goal.invariant-loop-lexeme
invariant-loop-lexeme l = record {
  same : skipped is_address_word (token_by address_word) l.fn.cursor ≡ skipped is_address_word (token_by address_word) l.cursor;
  shorter : length l.cursor ≤ length l.fn.cursor;
}

abbrev pub decreases-loop-lexeme : goal.decreases-loop-lexeme
decreases-loop-lexeme l = length l.cursor
