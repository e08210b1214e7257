use Rattle.std.proofs.Common.{sym, ◌∙◌}
use Rattle.ir_reader.proofs.Skipping.{group_here, group_on, group_none}
use Rattle.ir_reader.proofs.skipped.to_group.Goals as goal

pub returns-then-opens : goal.returns-then-opens
returns-then-opens c = rw (sym c.loop-lexeme.invariant ∙ group_here c.loop-lexeme.cursor c.next.new.self c.in-Some.lexeme c.in-Some.ensures (sym c.opens.ensures ∙ c.if-opens.true)) c.group.ensures

pub loop-lexeme-preserved : goal.loop-lexeme-preserved
loop-lexeme-preserved c = group_on c.loop-lexeme.cursor c.next.new.self c.in-Some.lexeme c.in-Some.ensures (sym c.opens.ensures ∙ c.if-opens.false) ∙ c.loop-lexeme.invariant

pub returns : goal.returns
returns c = sym c.loop-lexeme.invariant ∙ group_none c.loop-lexeme.cursor c.in_default.ensures.0
