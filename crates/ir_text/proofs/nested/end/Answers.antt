use Rattle.std.proofs.Common.{◌∙◌, sym}
use Rattle.std.proofs.lemmas.Result.{err_from_is_err_and}
use Rattle.ir_tree.specs.Naming.{type_at}
use Rattle.ir_text.proofs.NestedSteps.{goes_on, ends_at, fails_is}
use Rattle.ir_text.proofs.nested.end.Goals as goal

pub returns-then-eat-clause-steps : goal.returns-then-eat-clause-steps
returns-then-eat-clause-steps c = λ later known grows.
    rw (c.in-Struct.is, c.in_ok-push-in-Struct.ensures.ok, c.if-eat.ensures.new) (goes_on known (type_at later) c.in-Struct.packed c.in-Struct.fields c.args.inside c.args.cursor.now (sym c.if-eat.ensures.sees))

pub returns-in_err-closed-in-Struct-clause-steps : goal.returns-in_err-closed-in-Struct-clause-steps
returns-in_err-closed-in-Struct-clause-steps c = λ later known grows.
    let p = err_from_is_err_and c.from_residual-in_err-closed-in-Struct.result c.from_residual-in_err-closed-in-Struct.ensures.1 in
    let close = rw (c.if-eat.ensures.new, c.in_ok-push-in-Struct.ensures.ok) at c.in_err-closed-in-Struct.ensures.reads later known grows in
    rw (p.1, p.2, c.in-Struct.is) (fails_is _ _ _ (ends_at known (type_at later) c.in-Struct.packed c.in-Struct.fields c.args.inside c.args.cursor.now (sym c.if-eat.ensures.sees)) close)

pub returns-in_ok-closed-in-Struct-clause-steps : goal.returns-in_ok-closed-in-Struct-clause-steps
returns-in_ok-closed-in-Struct-clause-steps c = λ later known grows.
    let close = rw (c.if-eat.ensures.new, c.in_ok-push-in-Struct.ensures.ok) at c.in_ok-closed-in-Struct.ensures.reads later known grows in
    rw c.in-Struct.is (ends_at known (type_at later) c.in-Struct.packed c.in-Struct.fields c.args.inside c.args.cursor.now (sym c.if-eat.ensures.sees) ∙ close)
