use Rattle.std.proofs.Common.{◌+◌, ◌≤◌, length, arith, sym, ◌∙◌}
use Rattle.std.proofs.lemmas.Result.{err_from_is_err_and}
use Rattle.ir_text.specs.Stopping.{stops_of}
use Rattle.ir_text.proofs.Eaten.{words_on, words_fail, words_end, words_out, words_less}
use Rattle.ir_text.proofs.passed.words.Goals as goal

pub returns : goal.returns
returns c = words_out (stops_of c.args.at.now) c.loop-lexeme.cursor _ c.in_default.ensures c.loop-lexeme.invariant

pub returns-then-not-may_pass : goal.returns-then-not-may_pass
returns-then-not-may_pass c = words_end (stops_of c.args.at.now) c.loop-lexeme.cursor c.in-Some.lexeme _ c.in-Some.ensures (sym c.may_pass.ensures ∙ c.if-not-may_pass.true) c.loop-lexeme.invariant

pub loop-lexeme-smaller : goal.loop-lexeme-smaller
loop-lexeme-smaller c =
    let read = rw c.skip.ensures at c.in_ok-passed.ensures in
    let less : 1 + length c.passed.new.cursor ≤ length c.loop-lexeme.cursor = words_less (stops_of c.args.at.now) c.loop-lexeme.cursor c.passed.new.cursor c.in-Some.lexeme c.in-Some.ensures (sym c.may_pass.ensures ∙ c.if-not-may_pass.false) read in
    omega arith

pub loop-lexeme-preserved : goal.loop-lexeme-preserved
loop-lexeme-preserved c =
    let read = rw c.skip.ensures at c.in_ok-passed.ensures in
    words_on (stops_of c.args.at.now) c.loop-lexeme.cursor c.passed.new.cursor c.in-Some.lexeme _ c.in-Some.ensures (sym c.may_pass.ensures ∙ c.if-not-may_pass.false) read c.loop-lexeme.invariant

pub returns-in_err-passed : goal.returns-in_err-passed
returns-in_err-passed c =
    let p = err_from_is_err_and c.from_residual.result c.from_residual.ensures.1 in
    let read = rw c.skip.ensures at c.in_err-passed.ensures in
    rw (p.1, p.2) (words_fail (stops_of c.args.at.now) c.in_err-passed.field-0.0 c.loop-lexeme.cursor c.in-Some.lexeme _ c.in-Some.ensures (sym c.may_pass.ensures ∙ c.if-not-may_pass.false) read c.loop-lexeme.invariant)
