use Rattle.std.proofs.Common.{drop, slice_get, sym, ◌∙◌}
use Rattle.std.proofs.lemmas.Result.{err_from_is_err_and}
use Rattle.ir_tree.specs.Naming.{type_at, types_at, constant_at}
use Rattle.ir_text.specs.Named.{known_of}
use Rattle.ir_instr.specs.Placing.{fields_of}
use Rattle.ir_instr.proofs.FieldTurns.{field_none, field_local, field_fails, field_unnumbered, field_outside, field_inside, field_into, field_there, field_missing, field_within}
use Rattle.ir_instr.proofs.addresses.field_value.Goals as goal

pub returns-in-None-clause-reads : goal.returns-in-None-clause-reads
returns-in-None-clause-reads c = λ later grows. field_none (known_of later c.args.known.now) (types_at later (fields_of (slice_get c.args.names.now.types c.args.of))) c.args.cursor.now c.in-None.ensures

pub returns-then-sees_local-clause-reads : goal.returns-then-sees_local-clause-reads
returns-then-sees_local-clause-reads c = λ later grows.
    field_local (known_of later c.args.known.now) (types_at later (fields_of (slice_get c.args.names.now.types c.args.of))) c.args.cursor.now (drop 1 c.args.cursor.now) c.in-Some.first c.in-Some.ensures
    (sym c.sees_local.ensures ∙ c.if-sees_local.true) c.bad.result c.bad.ensures

pub returns-in_err-value-clause-reads : goal.returns-in_err-value-clause-reads
returns-in_err-value-clause-reads c = λ later grows.
    let p = err_from_is_err_and c.from_residual.result c.from_residual.ensures.1 in
    rw (p.1, p.2)
    (field_fails (known_of later c.args.known.now) (types_at later (fields_of (slice_get c.args.names.now.types c.args.of))) c.args.cursor.now (drop 1 c.args.cursor.now) c.in-Some.first c.in-Some.ensures
    (sym c.sees_local.ensures ∙ c.if-sees_local.false) c.in_err-value.field-0.0 (c.in_err-value.ensures.reads later grows))

pub returns-in-None-field_number-clause-reads : goal.returns-in-None-field_number-clause-reads
returns-in-None-field_number-clause-reads c = λ later grows.
    field_unnumbered (known_of later c.args.known.now) (types_at later (fields_of (slice_get c.args.names.now.types c.args.of))) c.args.cursor.now (drop 1 c.args.cursor.now) c.in-Some.first c.in-Some.ensures
    (sym c.sees_local.ensures ∙ c.if-sees_local.false) _ (c.in_ok-value.ensures.reads later grows) (sym (c.in-None-field_number.ensures later grows)) c.bad-in-None-field_number.result c.bad-in-None-field_number.ensures

pub returns-in-Some-field-clause-reads : goal.returns-in-Some-field-clause-reads
returns-in-Some-field-clause-reads c = λ later grows.
    field_inside (known_of later c.args.known.now) (types_at later (fields_of (slice_get c.args.names.now.types c.args.of))) c.args.cursor.now (drop 1 c.args.cursor.now) c.in-Some.first c.in-Some.ensures
    (sym c.sees_local.ensures ∙ c.if-sees_local.false) _ (c.in_ok-value.ensures.reads later grows) c.in-Some-field_number.number (type_at later c.in-Some-field.into) (sym (c.in-Some-field_number.ensures later grows))
    (field_there c.args.names.now c.read_constant.new.names later c.args.of c.in_ok-value.ensures.grows c.requires c.in-Some-field_number.number c.in-Some-field.into c.in-Some-field.ensures)

pub returns-in-Some-field-clause-into : goal.returns-in-Some-field-clause-into
returns-in-Some-field-clause-into c = λ later grows.
    field_into (types_at later (fields_of (slice_get c.args.names.now.types c.args.of))) (constant_at later c.in_ok-value.value) c.in-Some-field_number.number (type_at later c.in-Some-field.into) (sym (c.in-Some-field_number.ensures later grows))
    (field_there c.args.names.now c.read_constant.new.names later c.args.of c.in_ok-value.ensures.grows c.requires c.in-Some-field_number.number c.in-Some-field.into c.in-Some-field.ensures)

pub returns-in-Some-field-clause-within : goal.returns-in-Some-field-clause-within
returns-in-Some-field-clause-within c =
    field_within c.args.names.now c.read_constant.new.names c.read_constant.new.names c.args.of c.in_ok-value.ensures.grows c.requires c.in-Some-field_number.number c.in-Some-field.into c.in-Some-field.ensures c.is_table.ensures

pub returns-in-None-field-clause-reads : goal.returns-in-None-field-clause-reads
returns-in-None-field-clause-reads c = λ later grows.
    field_outside (known_of later c.args.known.now) (types_at later (fields_of (slice_get c.args.names.now.types c.args.of))) c.args.cursor.now (drop 1 c.args.cursor.now) c.in-Some.first c.in-Some.ensures
    (sym c.sees_local.ensures ∙ c.if-sees_local.false) _ (c.in_ok-value.ensures.reads later grows) c.in-Some-field_number.number (sym (c.in-Some-field_number.ensures later grows))
    (field_missing c.args.names.now c.read_constant.new.names later c.args.of c.in_ok-value.ensures.grows c.requires c.in-Some-field_number.number c.in-None-field.ensures) c.bad-in-None-field.result c.bad-in-None-field.ensures
