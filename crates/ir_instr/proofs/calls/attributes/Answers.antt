use Rattle.std.proofs.Common.{◌+◌, ◌≤◌, length, arith, sym, ◌∙◌}
use Rattle.std.proofs.lemmas.Result.{err_from_is_err_and}
use Rattle.ir_instr.proofs.AttributeTurns.{attributes_on, attributes_fail, attributes_end, attributes_out, attributes_less}
use Rattle.ir_instr.proofs.calls.attributes.Goals as goal

pub returns : goal.returns
returns c = attributes_out c.loop-lexeme.cursor _ c.in_default.ensures c.loop-lexeme.invariant

pub returns-then-not-is_attribute : goal.returns-then-not-is_attribute
returns-then-not-is_attribute c = attributes_end c.loop-lexeme.cursor c.in-Some.lexeme _ c.in-Some.ensures (sym c.is_attribute.ensures ∙ c.if-not-is_attribute.true) c.loop-lexeme.invariant

pub loop-lexeme-smaller : goal.loop-lexeme-smaller
loop-lexeme-smaller c =
    let read = rw c.skip.ensures at c.in_ok-attribute.ensures in
    let less : 1 + length c.attribute.new.cursor ≤ length c.loop-lexeme.cursor = attributes_less c.loop-lexeme.cursor c.attribute.new.cursor c.in-Some.lexeme c.in-Some.ensures (sym c.is_attribute.ensures ∙ c.if-not-is_attribute.false) read in
    omega arith

pub loop-lexeme-preserved : goal.loop-lexeme-preserved
loop-lexeme-preserved c =
    let read = rw c.skip.ensures at c.in_ok-attribute.ensures in
    attributes_on c.loop-lexeme.cursor c.attribute.new.cursor c.in-Some.lexeme _ c.in-Some.ensures (sym c.is_attribute.ensures ∙ c.if-not-is_attribute.false) read c.loop-lexeme.invariant

pub returns-in_err-attribute : goal.returns-in_err-attribute
returns-in_err-attribute c =
    let p = err_from_is_err_and c.from_residual.result c.from_residual.ensures.1 in
    let read = rw c.skip.ensures at c.in_err-attribute.ensures in
    rw (p.1, p.2) (attributes_fail c.in_err-attribute.field-0.0 c.loop-lexeme.cursor c.in-Some.lexeme _ c.in-Some.ensures (sym c.is_attribute.ensures ∙ c.if-not-is_attribute.false) read c.loop-lexeme.invariant)
