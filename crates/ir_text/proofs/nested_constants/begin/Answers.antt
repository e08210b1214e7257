use Rattle.std.proofs.Common.{◌∙◌, refl, sym}
use Rattle.std.proofs.lemmas.Result.{err_from_is_err_and}
use Rattle.ir_text.specs.Named.{known_of}
use Rattle.ir_text.proofs.NestedSteps.{bind_fails, fails_is}
use Rattle.ir_text.proofs.ConstantSteps.{opens_nothing, opens_array, opens_struct, opens_packed, opens_text, opens_address, opens_simple}
use Rattle.ir_text.proofs.nested_constants.begin.Goals as goal

pub returns-in_err-lexeme-clause-steps : goal.returns-in_err-lexeme-clause-steps
returns-in_err-lexeme-clause-steps c = λ later grows.
    let p = err_from_is_err_and c.from_residual.result c.from_residual.ensures.1 in
    rw (p.1, p.2, c.in_err-lexeme.ensures.1) (opens_nothing (known_of later c.args.known.now) c.args.width _ c.in_err-lexeme.ensures.0)

pub returns-then-is_mark-clause-steps : goal.returns-then-is_mark-clause-steps
returns-then-is_mark-clause-steps c = λ later grows.
    rw (opens_array (known_of later c.args.known.now) c.args.width _ _ c.in_ok-lexeme.lexeme c.in_ok-lexeme.ensures (sym c.is_mark.ensures ∙ c.if-is_mark.true)) (c.elements.ensures.steps later grows)

pub returns-then-is_mark-2-clause-steps : goal.returns-then-is_mark-2-clause-steps
returns-then-is_mark-2-clause-steps c = λ later grows.
    rw (opens_struct (known_of later c.args.known.now) c.args.width _ _ c.in_ok-lexeme.lexeme c.in_ok-lexeme.ensures (sym c.is_mark.ensures ∙ c.if-is_mark.false) (sym c.is_mark-2.ensures ∙ c.if-is_mark-2.true)) (c.elements-then-is_mark-2.ensures.steps later grows)

pub returns-in_err-mark-clause-steps : goal.returns-in_err-mark-clause-steps
returns-in_err-mark-clause-steps c = λ later grows.
    let p = err_from_is_err_and c.from_residual-in_err-mark.result c.from_residual-in_err-mark.ensures.1 in
    rw (p.1, p.2) (fails_is _ _ _ (opens_packed (known_of later c.args.known.now) c.args.width _ _ c.in_ok-lexeme.lexeme c.in_ok-lexeme.ensures (sym c.is_mark.ensures ∙ c.if-is_mark.false) (sym c.is_mark-2.ensures ∙ c.if-is_mark-2.false) (sym c.is_mark-3.ensures ∙ c.if-is_mark-3.true)) (bind_fails _ _ _ c.in_err-mark.ensures.reads))

pub returns-then-is_mark-3-clause-steps : goal.returns-then-is_mark-3-clause-steps
returns-then-is_mark-3-clause-steps c = λ later grows.
    rw (opens_packed (known_of later c.args.known.now) c.args.width _ _ c.in_ok-lexeme.lexeme c.in_ok-lexeme.ensures (sym c.is_mark.ensures ∙ c.if-is_mark.false) (sym c.is_mark-2.ensures ∙ c.if-is_mark-2.false) (sym c.is_mark-3.ensures ∙ c.if-is_mark-3.true), c.in_ok-mark.ensures.reads)
    (c.elements-then-is_mark-3.ensures.steps later grows)

pub returns-in_err-text-clause-steps : goal.returns-in_err-text-clause-steps
returns-in_err-text-clause-steps c = λ later grows.
    let p = err_from_is_err_and c.from_residual-in_err-text.result c.from_residual-in_err-text.ensures.1 in
    rw (p.1, p.2) (fails_is _ _ _ (opens_text (known_of later c.args.known.now) c.args.width _ _ c.in_ok-lexeme.lexeme c.in_ok-lexeme.ensures (sym c.is_mark.ensures ∙ c.if-is_mark.false) (sym c.is_mark-2.ensures ∙ c.if-is_mark-2.false) (sym c.is_mark-3.ensures ∙ c.if-is_mark-3.false) (sym c.is_word.ensures ∙ c.if-is_word.true)) (c.in_err-text.ensures.reads later grows))

pub returns-then-is_word-clause-steps : goal.returns-then-is_word-clause-steps
returns-then-is_word-clause-steps c = λ later grows.
    opens_text (known_of later c.args.known.now) c.args.width _ _ c.in_ok-lexeme.lexeme c.in_ok-lexeme.ensures (sym c.is_mark.ensures ∙ c.if-is_mark.false) (sym c.is_mark-2.ensures ∙ c.if-is_mark-2.false) (sym c.is_mark-3.ensures ∙ c.if-is_mark-3.false) (sym c.is_word.ensures ∙ c.if-is_word.true) ∙ c.in_ok-text.ensures.reads later grows

pub returns-in_err-simple_constant-clause-steps : goal.returns-in_err-simple_constant-clause-steps
returns-in_err-simple_constant-clause-steps c = λ later grows.
    let p = err_from_is_err_and c.from_residual-in_err-simple_constant.result c.from_residual-in_err-simple_constant.ensures.1 in
    rw (p.1, p.2) (fails_is _ _ _ (opens_simple (known_of later c.args.known.now) c.args.width _ _ c.in_ok-lexeme.lexeme c.in_ok-lexeme.ensures (sym c.is_mark.ensures ∙ c.if-is_mark.false) (sym c.is_mark-2.ensures ∙ c.if-is_mark-2.false) (sym c.is_mark-3.ensures ∙ c.if-is_mark-3.false) (sym c.is_word.ensures ∙ c.if-is_word.false) (sym c.is_word-2.ensures ∙ c.if-is_word-2.false)) (c.in_err-simple_constant.ensures.reads later _ grows))

pub returns-clause-steps : goal.returns-clause-steps
returns-clause-steps c = λ later grows.
    opens_simple (known_of later c.args.known.now) c.args.width _ _ c.in_ok-lexeme.lexeme c.in_ok-lexeme.ensures (sym c.is_mark.ensures ∙ c.if-is_mark.false) (sym c.is_mark-2.ensures ∙ c.if-is_mark-2.false) (sym c.is_mark-3.ensures ∙ c.if-is_mark-3.false) (sym c.is_word.ensures ∙ c.if-is_word.false) (sym c.is_word-2.ensures ∙ c.if-is_word-2.false) ∙ c.in_ok-simple_constant.ensures.reads later _ grows

pub returns-in_err-of-clause-steps : goal.returns-in_err-of-clause-steps
returns-in_err-of-clause-steps c = λ later grows.
    let p = err_from_is_err_and c.from_residual-in_err-of.result c.from_residual-in_err-of.ensures.1 in
    rw (p.1, p.2) (fails_is _ _ _ (opens_address (known_of later c.args.known.now) c.args.width _ _ c.in_ok-lexeme.lexeme c.in_ok-lexeme.ensures (sym c.is_mark.ensures ∙ c.if-is_mark.false) (sym c.is_mark-2.ensures ∙ c.if-is_mark-2.false) (sym c.is_mark-3.ensures ∙ c.if-is_mark-3.false) (sym c.is_word.ensures ∙ c.if-is_word.false) (sym c.is_word-2.ensures ∙ c.if-is_word-2.true)) (bind_fails _ _ _ (c.in_err-of.ensures.reads later grows)))

pub returns-then-is_word-2-clause-steps : goal.returns-then-is_word-2-clause-steps
returns-then-is_word-2-clause-steps c = λ later grows.
    opens_address (known_of later c.args.known.now) c.args.width _ _ c.in_ok-lexeme.lexeme c.in_ok-lexeme.ensures (sym c.is_mark.ensures ∙ c.if-is_mark.false) (sym c.is_mark-2.ensures ∙ c.if-is_mark-2.false) (sym c.is_mark-3.ensures ∙ c.if-is_mark-3.false) (sym c.is_word.ensures ∙ c.if-is_word.false) (sym c.is_word-2.ensures ∙ c.if-is_word-2.true) ∙ rw (c.in_ok-of.ensures.reads later grows) refl
