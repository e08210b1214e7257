use Rattle.std.proofs.Common.{◌∙◌, refl, sym}
use Rattle.std.proofs.lemmas.Result.{err_from_is_err_and}
use Rattle.ir_text.specs.Named.{known_of}
use Rattle.ir_text.proofs.NestedSteps.{opens_nothing, opens_array, opens_struct, opens_packed, opens_simple, bind_fails, fails_is}
use Rattle.ir_text.proofs.nested.begin.Goals as goal

pub returns-in_err-lexeme-clause-steps : goal.returns-in_err-lexeme-clause-steps
returns-in_err-lexeme-clause-steps c = λ later grows.
    let p = err_from_is_err_and c.from_residual.result c.from_residual.ensures.1 in
    rw (p.1, p.2, c.in_err-lexeme.ensures.1) (opens_nothing (known_of later c.args.known.now) _ c.in_err-lexeme.ensures.0)

pub returns-in_err-many-clause-steps : goal.returns-in_err-many-clause-steps
returns-in_err-many-clause-steps c = λ later grows.
    let p = err_from_is_err_and c.from_residual-in_err-many.result c.from_residual-in_err-many.ensures.1 in
    rw (p.1, p.2) (fails_is _ _ _ (opens_array (known_of later c.args.known.now) _ _ c.in_ok-lexeme.lexeme c.in_ok-lexeme.ensures (sym c.is_mark.ensures ∙ c.if-is_mark.true)) (bind_fails _ _ _ c.in_err-many.ensures.reads))

pub returns-then-is_mark-clause-steps : goal.returns-then-is_mark-clause-steps
returns-then-is_mark-clause-steps c = λ later grows.
    opens_array (known_of later c.args.known.now) _ _ c.in_ok-lexeme.lexeme c.in_ok-lexeme.ensures (sym c.is_mark.ensures ∙ c.if-is_mark.true) ∙ rw c.in_ok-many.ensures.reads refl

pub returns-then-is_mark-2-clause-steps : goal.returns-then-is_mark-2-clause-steps
returns-then-is_mark-2-clause-steps c = λ later grows.
    rw (opens_struct (known_of later c.args.known.now) _ _ c.in_ok-lexeme.lexeme c.in_ok-lexeme.ensures (sym c.is_mark.ensures ∙ c.if-is_mark.false) (sym c.is_mark-2.ensures ∙ c.if-is_mark-2.true)) (c.fields.ensures.steps later (known_of later c.args.known.now) grows)

pub returns-in_err-mark-clause-steps : goal.returns-in_err-mark-clause-steps
returns-in_err-mark-clause-steps c = λ later grows.
    let p = err_from_is_err_and c.from_residual-in_err-mark.result c.from_residual-in_err-mark.ensures.1 in
    rw (p.1, p.2) (fails_is _ _ _ (opens_packed (known_of later c.args.known.now) _ _ c.in_ok-lexeme.lexeme c.in_ok-lexeme.ensures (sym c.is_mark.ensures ∙ c.if-is_mark.false) (sym c.is_mark-2.ensures ∙ c.if-is_mark-2.false) (sym c.is_mark-3.ensures ∙ c.if-is_mark-3.true)) (bind_fails _ _ _ c.in_err-mark.ensures.reads))

pub returns-then-is_mark-3-clause-steps : goal.returns-then-is_mark-3-clause-steps
returns-then-is_mark-3-clause-steps c = λ later grows.
    rw (opens_packed (known_of later c.args.known.now) _ _ c.in_ok-lexeme.lexeme c.in_ok-lexeme.ensures (sym c.is_mark.ensures ∙ c.if-is_mark.false) (sym c.is_mark-2.ensures ∙ c.if-is_mark-2.false) (sym c.is_mark-3.ensures ∙ c.if-is_mark-3.true), c.in_ok-mark.ensures.reads)
    (c.fields-then-is_mark-3.ensures.steps later (known_of later c.args.known.now) grows)

pub returns-in_err-simple-clause-steps : goal.returns-in_err-simple-clause-steps
returns-in_err-simple-clause-steps c = λ later grows.
    let p = err_from_is_err_and c.from_residual-in_err-simple.result c.from_residual-in_err-simple.ensures.1 in
    rw (p.1, p.2) (fails_is _ _ _ (opens_simple (known_of later c.args.known.now) _ _ c.in_ok-lexeme.lexeme c.in_ok-lexeme.ensures (sym c.is_mark.ensures ∙ c.if-is_mark.false) (sym c.is_mark-2.ensures ∙ c.if-is_mark-2.false) (sym c.is_mark-3.ensures ∙ c.if-is_mark-3.false)) (c.in_err-simple.ensures.reads later _ grows))

pub returns-clause-steps : goal.returns-clause-steps
returns-clause-steps c = λ later grows.
    opens_simple (known_of later c.args.known.now) _ _ c.in_ok-lexeme.lexeme c.in_ok-lexeme.ensures (sym c.is_mark.ensures ∙ c.if-is_mark.false) (sym c.is_mark-2.ensures ∙ c.if-is_mark-2.false) (sym c.is_mark-3.ensures ∙ c.if-is_mark-3.false) ∙ c.in_ok-simple.ensures.reads later _ grows
