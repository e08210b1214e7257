use Rattle.std.proofs.Common.{drop, sym, ap, ◌∙◌}
use Rattle.std.proofs.lemmas.Result.{err_from_is_err_and}
use Rattle.ir_text.specs.Named.{known_of}
use Rattle.ir_instr.specs.Control.{met_before}
use Rattle.ir_instr.specs.Scalars.{type_of}
use Rattle.ir_instr.proofs.CaseTurns.{value_none, value_fails, value_new, value_met}
use Rattle.ir_instr.proofs.switching.case_value.Goals as goal

pub returns-in-None-clause-reads : goal.returns-in-None-clause-reads
returns-in-None-clause-reads c = λ later grows. value_none (known_of later c.args.known.now) (type_of c.args.of) c.args.earlier.now c.args.cursor.now c.in-None.ensures

pub returns-in_err-value-clause-reads : goal.returns-in_err-value-clause-reads
returns-in_err-value-clause-reads c = λ later grows.
    let p = err_from_is_err_and c.from_residual.result c.from_residual.ensures.1 in
    let read = rw c.width_of.ensures.width at c.in_err-value.ensures.reads later grows in
    rw (p.1, p.2) (value_fails (known_of later c.args.known.now) (type_of c.args.of) c.args.earlier.now c.args.cursor.now c.in-Some.first (drop 1 c.args.cursor.now) c.in-Some.ensures c.in_err-value.field-0.0 read)

pub returns-in-true-clause-reads : goal.returns-in-true-clause-reads
returns-in-true-clause-reads c = λ later grows.
    let read = rw c.width_of.ensures.width at c.in_ok-value.ensures.reads later grows in
    value_met (known_of later c.args.known.now) (type_of c.args.of) c.args.earlier.now c.args.cursor.now c.in-Some.first (drop 1 c.args.cursor.now) c.in-Some.ensures _ read
    (sym (ap (met_before c.args.earlier.now) (c.bits_of-bits.ensures later grows)) ∙ sym c.in_ok-is_met.ensures.met ∙ c.in-true.is) c.bad.result c.bad.ensures

pub returns-in-false-clause-reads : goal.returns-in-false-clause-reads
returns-in-false-clause-reads c = λ later grows.
    let read = rw c.width_of.ensures.width at c.in_ok-value.ensures.reads later grows in
    value_new (known_of later c.args.known.now) (type_of c.args.of) c.args.earlier.now c.args.cursor.now c.in-Some.first (drop 1 c.args.cursor.now) c.in-Some.ensures _ read
    (sym (ap (met_before c.args.earlier.now) (c.bits_of-bits.ensures later grows)) ∙ sym c.in_ok-is_met.ensures.met ∙ c.in-false.is)
