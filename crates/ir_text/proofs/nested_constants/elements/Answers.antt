use Rattle.std.proofs.Common.{◌∙◌, sym}
use Rattle.std.proofs.lemmas.Result.{err_from_is_err_and}
use Rattle.ir_text.specs.Named.{known_of}
use Rattle.ir_text.proofs.NestedSteps.{fails_is}
use Rattle.ir_text.proofs.ConstantSteps.{rule_shut, rule_open}
use Rattle.ir_text.proofs.nested_constants.elements.Goals as goal

pub returns-in_err-closed-clause-steps : goal.returns-in_err-closed-clause-steps
returns-in_err-closed-clause-steps c = λ later grows.
    let p = err_from_is_err_and c.from_residual.result c.from_residual.ensures.1 in
    let end = rw c.closing_mark.ensures at (sym c.sees.ensures ∙ c.if-sees.true) in
    let shut = rw c.new-none.ensures at c.in_err-closed.ensures.reads later (known_of later c.args.known.now) grows in
    rw (p.1, p.2) (fails_is _ _ _ (rule_shut (known_of later c.args.known.now) c.args.bracket c.args.cursor.now end) shut)

pub returns-then-sees-clause-steps : goal.returns-then-sees-clause-steps
returns-then-sees-clause-steps c = λ later grows.
    let end = rw c.closing_mark.ensures at (sym c.sees.ensures ∙ c.if-sees.true) in
    let shut = rw c.new-none.ensures at c.in_ok-closed.ensures.reads later (known_of later c.args.known.now) grows in
    rule_shut (known_of later c.args.known.now) c.args.bracket c.args.cursor.now end ∙ shut

pub returns-clause-steps : goal.returns-clause-steps
returns-clause-steps c = λ later grows.
    let end = rw c.closing_mark.ensures at (sym c.sees.ensures ∙ c.if-sees.false) in
    let more = rw c.new-none.ensures at c.element.ensures.steps later grows in
    rw (rule_open (known_of later c.args.known.now) c.args.bracket c.args.cursor.now end) more
