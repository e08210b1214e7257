use Rattle.std.proofs.lemmas.List.{map_push}
use Rattle.std.proofs.lemmas.Result.{err_from_is_err_and}
use Rattle.ir_tree.specs.declared.nodes.Element.{Element}
use Rattle.ir_tree.specs.Naming.{type_at, constant_at}
use Rattle.ir_text.specs.Named.{known_of}
use Rattle.ir_text.specs.OpenConstants.{shown_element, index_end}
use Rattle.ir_text.proofs.NestedSteps.{bind_fails, fails_is}
use Rattle.ir_text.proofs.ConstantSteps.{base_from}
use Rattle.ir_text.proofs.nested_constants.end.Goals as goal

pub returns-in_err-mark-in-Base-clause-steps : goal.returns-in_err-mark-in-Base-clause-steps
returns-in_err-mark-in-Base-clause-steps c = λ later grows.
    let p = err_from_is_err_and c.from_residual.result c.from_residual.ensures.1 in
    rw (p.1, p.2, c.in-Base.is) (fails_is _ _ _ (base_from (known_of later c.args.known.now) (type_at later c.in-Base.of) (constant_at later c.args.inside) c.args.cursor.now) (bind_fails _ _ _ c.in_err-mark-in-Base.ensures.reads))

pub returns-in_ok-mark-in-Base-clause-steps : goal.returns-in_ok-mark-in-Base-clause-steps
returns-in_ok-mark-in-Base-clause-steps c = λ later grows.
    let step = rw c.new-indices.ensures at (c.counted.ensures.steps later (known_of later c.args.known.now) grows) in
    rw (c.in-Base.is, base_from (known_of later c.args.known.now) (type_at later c.in-Base.of) (constant_at later c.args.inside) c.args.cursor.now, c.in_ok-mark-in-Base.ensures.reads) step

pub returns-in_ok-push-in-Index-clause-steps : goal.returns-in_ok-push-in-Index-clause-steps
unfolding index_end
returns-in_ok-push-in-Index-clause-steps c = λ later grows.
    let last : Element = record { of = c.in-Index.of; value = c.args.inside } in
    let step = rw (c.in_ok-push-in-Index.ensures.ok, map_push (shown_element later) c.in-Index.address.indices last) at (c.behind_index.ensures.steps later grows) in
    rw c.in-Index.is step
