use Rattle.std.proofs.Common.{◌∙◌, sym, map}
use Rattle.std.proofs.lemmas.Result.{err_from_is_err_and}
use Rattle.std.proofs.lemmas.List.{map_push}
use Rattle.ir_tree.specs.Naming.{type_at, constant_at}
use Rattle.ir_text.specs.Named.{known_of}
use Rattle.ir_text.specs.OpenConstants.{shown_element}
use Rattle.ir_text.proofs.NestedSteps.{fails_is}
use Rattle.ir_text.proofs.ConstantSteps.{goes_on, ends_at}
use Rattle.ir_text.proofs.nested_constants.behind_element.Goals as goal

pub returns-then-eat-clause-steps : goal.returns-then-eat-clause-steps
returns-then-eat-clause-steps c = λ later grows.
    let more = rw (c.in_ok-push.ensures.ok, map_push (shown_element later) c.args.elements c.args.last, c.if-eat.ensures.new) at (c.element.ensures.steps later grows) in
    rw (goes_on (known_of later c.args.known.now) c.args.bracket (map (shown_element later) c.args.elements) (type_at later c.args.last.of) (constant_at later c.args.last.value) c.args.cursor.now (sym c.if-eat.ensures.sees)) more

pub returns-in_err-closed-clause-steps : goal.returns-in_err-closed-clause-steps
returns-in_err-closed-clause-steps c = λ later grows.
    let p = err_from_is_err_and c.from_residual-in_err-closed.result c.from_residual-in_err-closed.ensures.1 in
    let close = rw (c.in_ok-push.ensures.ok, map_push (shown_element later) c.args.elements c.args.last, c.if-eat.ensures.new) at (c.in_err-closed.ensures.reads later (known_of later c.args.known.now) grows) in
    rw (p.1, p.2) (fails_is _ _ _ (ends_at (known_of later c.args.known.now) c.args.bracket (map (shown_element later) c.args.elements) (type_at later c.args.last.of) (constant_at later c.args.last.value) c.args.cursor.now (sym c.if-eat.ensures.sees)) close)

pub returns-clause-steps : goal.returns-clause-steps
returns-clause-steps c = λ later grows.
    let close = rw (c.in_ok-push.ensures.ok, map_push (shown_element later) c.args.elements c.args.last, c.if-eat.ensures.new) at (c.in_ok-closed.ensures.reads later (known_of later c.args.known.now) grows) in
    ends_at (known_of later c.args.known.now) c.args.bracket (map (shown_element later) c.args.elements) (type_at later c.args.last.of) (constant_at later c.args.last.value) c.args.cursor.now (sym c.if-eat.ensures.sees) ∙ close
