use Rattle.std.proofs.Common.{◌∙◌, sym, map}
use Rattle.std.specs.Prelude.{option_map}
use Rattle.std.proofs.lemmas.Result.{err_from_is_err_and}
use Rattle.ir_tree.specs.Naming.{type_at, constant_at}
use Rattle.ir_tree.proofs.Showing.{grows_then}
use Rattle.ir_text.specs.Named.{known_of}
use Rattle.ir_text.specs.OpenConstants.{shown_element, fields_of}
use Rattle.ir_text.proofs.NestedSteps.{fails_is}
use Rattle.ir_text.proofs.ConstantSteps.{index_last, more_counted, more_field, more_never}
use Rattle.ir_text.proofs.nested_constants.behind_index.Goals as goal

pub returns-in_err-address_closed-clause-steps : goal.returns-in_err-address_closed-clause-steps
returns-in_err-address_closed-clause-steps c = λ later grows.
    let p = err_from_is_err_and c.from_residual.result c.from_residual.ensures.1 in
    let close = rw c.if-not-eat.ensures.new at (c.in_err-address_closed.ensures.reads later grows) in
    rw (p.1, p.2) (fails_is _ _ _ (index_last (known_of later c.args.known.now) (type_at later c.args.address.of) (constant_at later c.args.address.base) (map (shown_element later) c.args.address.indices) (option_map (type_at later) c.args.into) c.args.cursor.now (sym c.if-not-eat.ensures.sees)) close)

pub returns-then-not-eat-clause-steps : goal.returns-then-not-eat-clause-steps
returns-then-not-eat-clause-steps c = λ later grows.
    let close = rw c.if-not-eat.ensures.new at (c.in_ok-address_closed.ensures.reads later grows) in
    index_last (known_of later c.args.known.now) (type_at later c.args.address.of) (constant_at later c.args.address.base) (map (shown_element later) c.args.address.indices) (option_map (type_at later) c.args.into) c.args.cursor.now (sym c.if-not-eat.ensures.sees) ∙ close

pub returns-in-Counted-clause-steps : goal.returns-in-Counted-clause-steps
returns-in-Counted-clause-steps c = λ later grows.
    let entry = rw c.in-Counted.is at (c.in_ok-next.ensures.is later (grows_then _ _ _ c.counted.ensures.grows grows)) in
    let step = rw c.if-not-eat.ensures.new at (c.counted.ensures.steps later (known_of later c.args.known.now) grows) in
    rw (more_counted (known_of later c.args.known.now) (type_at later c.args.address.of) (constant_at later c.args.address.base) (map (shown_element later) c.args.address.indices) (option_map (type_at later) c.args.into) (option_map (type_at later) c.in-Counted.next) c.args.cursor.now (sym c.if-not-eat.ensures.sees) entry) step

pub returns-in-Field-clause-steps : goal.returns-in-Field-clause-steps
returns-in-Field-clause-steps c = λ later grows.
    let entry = rw c.in-Field.is at (c.in_ok-next.ensures.is later (grows_then _ _ _ c.named_field.ensures.grows grows)) in
    let step = rw c.if-not-eat.ensures.new at (c.named_field.ensures.steps later (known_of later c.args.known.now) grows) in
    rw (more_field (known_of later c.args.known.now) (type_at later c.args.address.of) (constant_at later c.args.address.base) (map (shown_element later) c.args.address.indices) (option_map (type_at later) c.args.into) (fields_of (type_at later c.in-Field.of)) c.args.cursor.now (sym c.if-not-eat.ensures.sees) entry) step

pub returns-in-Never-clause-steps : goal.returns-in-Never-clause-steps
returns-in-Never-clause-steps c = λ later grows.
    let entry = rw c.in-Never.is at (c.in_ok-next.ensures.is later (grows_then _ _ _ c.no_index.ensures.grows grows)) in
    let none = rw c.if-not-eat.ensures.new at c.no_index.ensures.reads in
    more_never (known_of later c.args.known.now) (type_at later c.args.address.of) (constant_at later c.args.address.base) (map (shown_element later) c.args.address.indices) (option_map (type_at later) c.args.into) c.args.cursor.now c.no_index.result (sym c.if-not-eat.ensures.sees) entry none
