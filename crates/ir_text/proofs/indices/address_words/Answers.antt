use Rattle.std.proofs.Common.{◌≡◌, ◌-◌, ◌∙◌, length, arith, sym, ap}
use Rattle.std.proofs.lemmas.List.{length-drop}
use Rattle.ir_text.proofs.IndexLaws.{word_on, word_end, word_out}
use Rattle.ir_text.proofs.indices.address_words.Goals as goal

pub loop-lexeme-preserved : goal.loop-lexeme-preserved
loop-lexeme-preserved c = record {
  same = c.loop-lexeme.invariant.same ∙ rw c.skip.ensures (word_on c.loop-lexeme.cursor c.in-Some.lexeme c.in-Some.ensures (sym c.is_address_word.ensures ∙ c.if-not-is_address_word.false));
  shorter =
      let size : length c.skip.new.self ≡ length c.loop-lexeme.cursor - 1 = ap length c.skip.ensures ∙ length-drop 1 c.loop-lexeme.cursor in
      let before = c.loop-lexeme.invariant.shorter in
      omega arith;
}

pub returns-clause-reads : goal.returns-clause-reads
returns-clause-reads c = c.loop-lexeme.invariant.same ∙ word_out c.loop-lexeme.cursor c.in_default.ensures

pub returns-then-not-is_address_word-clause-reads : goal.returns-then-not-is_address_word-clause-reads
returns-then-not-is_address_word-clause-reads c = c.loop-lexeme.invariant.same ∙ word_end c.loop-lexeme.cursor c.in-Some.lexeme c.in-Some.ensures (sym c.is_address_word.ensures ∙ c.if-not-is_address_word.true)
