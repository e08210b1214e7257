use Rattle.std.proofs.Common.{sym}
use Rattle.std.proofs.lemmas.Result.{err_from_is_err_and}
use Rattle.ir_tree.specs.Naming.{type_at, constant_at}
use Rattle.ir_tree.proofs.Showing.{type_within_more}
use Rattle.ir_text.specs.Reading.{token_by}
use Rattle.ir_text.specs.Constants.{simple_constant}
use Rattle.ir_text.specs.OpenConstants.{fields_of}
use Rattle.ir_text.proofs.IndexLaws.{field_err, field_none, field_far, field_there}
use Rattle.ir_text.proofs.indices.field.Goals as goal

pub field_of-requires : goal.field_of-requires
field_of-requires c = type_within_more _ _ _ c.in_ok-constant-in-Some.ensures.grows c.requires

pub returns-in_err-constant-in-Some-clause-reads : goal.returns-in_err-constant-in-Some-clause-reads
unfolding token_by
returns-in_err-constant-in-Some-clause-reads c = λ later grows.
    let p = err_from_is_err_and c.from_residual.result c.from_residual.ensures.1 in
    rw (p.1, p.2, c.in-Some.ensures) (field_err (fields_of (type_at later c.args.of)) (simple_constant 32 c.in-Some.lexeme) c.in-Some.lexeme c.next.new.self c.in_err-constant-in-Some.field-0.0 (c.in_err-constant-in-Some.ensures.reads later c.next.new.self grows))

pub returns-in-None-field_number-clause-reads : goal.returns-in-None-field_number-clause-reads
unfolding token_by
returns-in-None-field_number-clause-reads c = λ later grows.
    rw c.in-Some.ensures (field_none (fields_of (type_at later c.args.of)) (simple_constant 32 c.in-Some.lexeme) c.in-Some.lexeme c.next.new.self (constant_at later c.in_ok-constant-in-Some.constant) c.bad.result (c.in_ok-constant-in-Some.ensures.reads later c.next.new.self grows) (sym (c.in-None-field_number.ensures later grows)) c.bad.ensures)

pub returns-in-None-field_of-clause-reads : goal.returns-in-None-field_of-clause-reads
unfolding token_by
returns-in-None-field_of-clause-reads c = λ later grows.
    rw c.in-Some.ensures (field_far (fields_of (type_at later c.args.of)) (simple_constant 32 c.in-Some.lexeme) c.in-Some.lexeme c.next.new.self (constant_at later c.in_ok-constant-in-Some.constant) c.in-Some-field_number.number c.bad-in-None-field_of.result (c.in_ok-constant-in-Some.ensures.reads later c.next.new.self grows) (sym (c.in-Some-field_number.ensures later grows)) (sym (c.in-None-field_of.ensures.is later grows)) c.bad-in-None-field_of.ensures)

pub returns-in-Some-field_of-clause-reads : goal.returns-in-Some-field_of-clause-reads
unfolding token_by
returns-in-Some-field_of-clause-reads c = λ later grows.
    rw c.in-Some.ensures (field_there (fields_of (type_at later c.args.of)) (simple_constant 32 c.in-Some.lexeme) c.in-Some.lexeme c.next.new.self (constant_at later c.in_ok-constant-in-Some.constant) c.in-Some-field_number.number (type_at later c.in-Some-field_of.next) (c.in_ok-constant-in-Some.ensures.reads later c.next.new.self grows) (sym (c.in-Some-field_number.ensures later grows)) (sym (c.in-Some-field_of.ensures.is later grows)))
