use Rattle.std.proofs.Common.{sym, ◌∙◌}
use Rattle.ir_reader.proofs.Skipping.{string_here, string_on, string_none}
use Rattle.ir_reader.proofs.skipped.to_string.Goals as goal

pub returns-then-is_string : goal.returns-then-is_string
returns-then-is_string c = sym c.loop-lexeme.invariant ∙ string_here c.loop-lexeme.cursor c.next.new.self c.in-Some.lexeme c.in-Some.ensures (sym c.is_string.ensures ∙ c.if-is_string.true)

pub loop-lexeme-preserved : goal.loop-lexeme-preserved
loop-lexeme-preserved c = string_on c.loop-lexeme.cursor c.next.new.self c.in-Some.lexeme c.in-Some.ensures (sym c.is_string.ensures ∙ c.if-is_string.false) ∙ c.loop-lexeme.invariant

pub returns : goal.returns
returns c = sym c.loop-lexeme.invariant ∙ string_none c.loop-lexeme.cursor c.in_default.ensures.0
