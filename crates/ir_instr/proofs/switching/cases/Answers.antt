use Rattle.std.proofs.Common.{map, sym, ◌∙◌}
use Rattle.std.specs.Prelude.{not}
use Rattle.std.proofs.lemmas.Result.{err_from_is_err_and}
use Rattle.std.proofs.lemmas.List.{map_push}
use Rattle.ir_tree.specs.Shown.{shown_case}
use Rattle.ir_tree.proofs.Showing.{grows_then}
use Rattle.ir_text.specs.Tokens.{is_mark}
use Rattle.ir_text.specs.Named.{known_of}
use Rattle.ir_text.proofs.RepeatedLaws.{goes_on, fails, ends_there}
use Rattle.ir_instr.specs.Scalars.{type_of}
use Rattle.ir_instr.specs.Control.{case_at, with_case}
use Rattle.ir_instr.proofs.Shrinking.{case_less}
use Rattle.ir_instr.proofs.switching.cases.Goals as goal

pub returns-in_err-case-clause-reads : goal.returns-in_err-case-clause-reads
returns-in_err-case-clause-reads c = λ later grows.
    let p = err_from_is_err_and c.from_residual.result c.from_residual.ensures.1 in
    let of = type_of c.args.of in
    let known = known_of later c.args.known.now in
    rw (p.1, p.2)
    (fails (λ t. not (is_mark 93 t)) (case_at known of) with_case (case_less known of) c.in_err-case.field-0.0 c.cases.earlier c.cases.cursor _ _ (sym c.sees_case.ensures ∙ c.cases-test.true) (c.in_err-case.ensures.reads later grows)
    (c.cases.invariant.so_far later (grows_then _ _ _ c.in_err-case.ensures.grows grows)))

pub cases-preserved : goal.cases-preserved
cases-preserved c = record {
  so_far = λ later grows.
      let of = type_of c.args.of in
      let known = known_of later c.args.known.now in
      rw (c.in_ok-push.ensures.ok, map_push, c.in_ok-case.ensures.noted later grows)
      (goes_on (λ t. not (is_mark 93 t)) (case_at known of) with_case (case_less known of) c.cases.earlier c.cases.cursor (map (shown_case later) c.cases.cases) (shown_case later c.in_ok-case.case) c.case.new.cursor _
      (sym c.sees_case.ensures ∙ c.cases-test.true) (c.in_ok-case.ensures.reads later grows) (c.cases.invariant.so_far later (grows_then _ _ _ c.in_ok-case.ensures.grows grows)));
  grows = grows_then _ _ _ c.cases.invariant.grows c.in_ok-case.ensures.grows;
}

pub returns-clause-reads : goal.returns-clause-reads
returns-clause-reads c = λ later grows.
    let of = type_of c.args.of in
    let known = known_of later c.args.known.now in
    ends_there (λ t. not (is_mark 93 t)) (case_at known of) with_case (case_less known of) c.cases.earlier c.cases.cursor (map (shown_case later) c.cases.cases) _ (sym c.sees_case.ensures ∙ c.cases-test.false) (c.cases.invariant.so_far later grows)
