use Rattle.std.proofs.Common.{◌≡◌, ◌∙◌, arith, eq-eqb, sym}
use Rattle.std.proofs.lemmas.Result.{err_from_is_err_and}
use Rattle.ir_tree.specs.Naming.{type_at}
use Rattle.ir_text.specs.Reading.{token_by}
use Rattle.ir_text.specs.Types.{register_type}
use Rattle.ir_text.specs.Constants.{width_of}
use Rattle.ir_text.proofs.IndexLaws.{of_32_err, of_32_ok}
use Rattle.ir_text.proofs.indices.word_of_32.Goals as goal

pub returns-in_err-of-in-Some-clause-reads : goal.returns-in_err-of-in-Some-clause-reads
unfolding token_by
returns-in_err-of-in-Some-clause-reads c = λ later grows.
    let p = err_from_is_err_and c.from_residual.result c.from_residual.ensures.1 in
    rw (p.1, p.2, c.in-Some.ensures) (of_32_err (register_type c.in-Some.lexeme) c.in-Some.lexeme c.next.new.self c.in_err-of-in-Some.field-0.0 (c.in_err-of-in-Some.ensures.reads later c.next.new.self grows))

pub returns-then-width_of-eq32-clause-reads : goal.returns-then-width_of-eq32-clause-reads
unfolding token_by
returns-then-width_of-eq32-clause-reads c = λ later grows.
    let w : c.width_of.result ≡ 32 = omega arith in
    let is : width_of (type_at later c.in_ok-of-in-Some.of) ≡ 32 = sym (c.width_of.ensures.width later grows) ∙ w in
    rw c.in-Some.ensures (of_32_ok (register_type c.in-Some.lexeme) c.in-Some.lexeme c.next.new.self (type_at later c.in_ok-of-in-Some.of) (c.in_ok-of-in-Some.ensures.reads later c.next.new.self grows) (eq-eqb _ 32 is))
