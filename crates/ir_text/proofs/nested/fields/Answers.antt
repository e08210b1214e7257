use Rattle.std.proofs.Common.{◌∙◌, sym}
use Rattle.std.proofs.lemmas.Result.{err_from_is_err_and}
use Rattle.ir_text.proofs.NestedSteps.{fields_shut, fields_open, fails_is}
use Rattle.ir_text.proofs.nested.fields.Goals as goal

pub returns-in_err-closed-clause-steps : goal.returns-in_err-closed-clause-steps
returns-in_err-closed-clause-steps c = λ later known grows.
    let p = err_from_is_err_and c.from_residual.result c.from_residual.ensures.1 in
    let shut = rw c.new-none.ensures at c.in_err-closed.ensures.reads later known grows in
    rw (p.1, p.2) (fails_is _ _ _ (fields_shut known c.args.is_packed c.args.cursor.now (sym c.sees.ensures ∙ c.if-sees.true)) shut)

pub returns-then-sees-clause-steps : goal.returns-then-sees-clause-steps
returns-then-sees-clause-steps c = λ later known grows.
    let shut = rw c.new-none.ensures at c.in_ok-closed.ensures.reads later known grows in
    fields_shut known c.args.is_packed c.args.cursor.now (sym c.sees.ensures ∙ c.if-sees.true) ∙ shut

pub returns-clause-steps : goal.returns-clause-steps
returns-clause-steps c = λ later known grows. rw c.new-none.ensures (fields_open known c.args.is_packed c.args.cursor.now (sym c.sees.ensures ∙ c.if-sees.false))
