use Rattle.std.proofs.Common.{map, sym, ◌∙◌}
use Rattle.std.proofs.lemmas.Result.{err_from_is_err_and}
use Rattle.std.proofs.lemmas.List.{map_push}
use Rattle.ir_tree.specs.Shown.{shown_argument}
use Rattle.ir_tree.proofs.Showing.{grows_then}
use Rattle.ir_text.specs.Tokens.{is_mark}
use Rattle.ir_text.specs.Named.{known_of}
use Rattle.ir_text.specs.Lists.{after_comma}
use Rattle.ir_text.specs.Repeated.{stays}
use Rattle.ir_text.proofs.RepeatedLaws.{goes_on, fails, ends_there}
use Rattle.ir_instr.specs.Calls.{argument_at}
use Rattle.ir_instr.proofs.ArgumentTurns.{comma_argument_less}
use Rattle.ir_instr.proofs.calls.further_arguments.Goals as goal

pub returns-in_err-argument-clause-reads : goal.returns-in_err-argument-clause-reads
returns-in_err-argument-clause-reads c = λ later grows.
    let p = err_from_is_err_and c.from_residual.result c.from_residual.ensures.1 in
    let known = known_of later c.args.known.now in
    rw (p.1, p.2)
    (fails (is_mark 44) (λ _. after_comma (argument_at known)) stays (λ s. comma_argument_less known) c.in_err-argument.field-0.0 tt c.arguments.cursor (map (shown_argument later) c.arguments.arguments) _
    (sym c.sees.ensures ∙ c.arguments-test.true) (c.in_err-argument.ensures.reads later grows) (c.arguments.invariant.so_far later (grows_then _ _ _ c.in_err-argument.ensures.grows grows)))

pub arguments-preserved : goal.arguments-preserved
arguments-preserved c = record {
  so_far = λ later grows.
      let known = known_of later c.args.known.now in
      rw (c.in_ok-push.ensures.ok, map_push)
      (goes_on (is_mark 44) (λ _. after_comma (argument_at known)) stays (λ s. comma_argument_less known) tt c.arguments.cursor (map (shown_argument later) c.arguments.arguments) (shown_argument later c.in_ok-argument.argument) c.further_argument.new.cursor _
      (sym c.sees.ensures ∙ c.arguments-test.true) (c.in_ok-argument.ensures.reads later grows) (c.arguments.invariant.so_far later (grows_then _ _ _ c.in_ok-argument.ensures.grows grows)));
  grows = grows_then _ _ _ c.arguments.invariant.grows c.in_ok-argument.ensures.grows;
}

pub returns-clause-reads : goal.returns-clause-reads
returns-clause-reads c = λ later grows.
    let known = known_of later c.args.known.now in
    ends_there (is_mark 44) (λ _. after_comma (argument_at known)) stays (λ s. comma_argument_less known) tt c.arguments.cursor (map (shown_argument later) c.arguments.arguments) _ (sym c.sees.ensures ∙ c.arguments-test.false) (c.arguments.invariant.so_far later grows)
