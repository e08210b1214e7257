use Rattle.std.proofs.Common.{◌≡◌, ◌-◌, ◌+◌, suc, length, map, [], ◌∷◌, arith, sym, ◌∙◌}
use Rattle.std.proofs.lemmas.Result.{err_from_is_err_and}
use Rattle.std.proofs.lemmas.List.{map_push}
use Rattle.std.proofs.lemmas.List.Sums.{fold-append}
use Rattle.ir_tree.specs.Shown.{shown_param}
use Rattle.ir_tree.proofs.Showing.{grows_then}
use Rattle.ir_grammar.specs.Scopes.{after_param}
use Rattle.ir_reader.specs.Scoping.{scope_at}
use Rattle.ir_reader.proofs.Entries.{variadic_end, points_fail, param_fails, last_param, goes_on, runs_out}
use Rattle.ir_reader.proofs.params.entries.Goals as goal

pub returns-in_err-points-clause-reads : goal.returns-in_err-points-clause-reads
returns-in_err-points-clause-reads c = λ later grows.
    let turn : length c.args.cursor.now - c.loop-turn.turn ≡ suc (length c.args.cursor.now - (c.loop-turn.turn + 1)) = omega arith in
    let p = err_from_is_err_and c.from_residual.result c.from_residual.ensures.1 in
    rw (p.1, p.2) (points_fail c.args.declared _ _ (scope_at later c.loop-turn.scope) c.loop-turn.cursor (map (shown_param later) c.loop-turn.params) _ turn (c.loop-turn.invariant.so_far later grows) c.in_err-points.field-0.0 (sym c.sees_points.ensures ∙ c.if-sees_points.true) c.in_err-points.ensures)

pub returns-then-sees_points-clause-reads : goal.returns-then-sees_points-clause-reads
returns-then-sees_points-clause-reads c = λ later grows.
    let turn : length c.args.cursor.now - c.loop-turn.turn ≡ suc (length c.args.cursor.now - (c.loop-turn.turn + 1)) = omega arith in
    variadic_end c.args.declared _ _ (scope_at later c.loop-turn.scope) c.loop-turn.cursor (map (shown_param later) c.loop-turn.params) _ turn (c.loop-turn.invariant.so_far later grows) c.points.new.cursor (sym c.sees_points.ensures ∙ c.if-sees_points.true) c.in_ok-points.ensures

pub returns-in_err-param-clause-reads : goal.returns-in_err-param-clause-reads
returns-in_err-param-clause-reads c = λ later grows.
    let turn : length c.args.cursor.now - c.loop-turn.turn ≡ suc (length c.args.cursor.now - (c.loop-turn.turn + 1)) = omega arith in
    let p = err_from_is_err_and c.from_residual-in_err-param.result c.from_residual-in_err-param.ensures.1 in
    let so_far = c.loop-turn.invariant.so_far later (grows_then _ _ _ c.in_err-param.ensures.grows grows) in
    rw (p.1, p.2) (param_fails c.args.declared _ _ (scope_at later c.loop-turn.scope) c.loop-turn.cursor (map (shown_param later) c.loop-turn.params) _ turn so_far c.in_err-param.field-0.0 (sym c.sees_points.ensures ∙ c.if-sees_points.false) (c.in_err-param.ensures.reads later grows))

pub returns-then-not-eat-clause-reads : goal.returns-then-not-eat-clause-reads
returns-then-not-eat-clause-reads c = λ later grows.
    let turn : length c.args.cursor.now - c.loop-turn.turn ≡ suc (length c.args.cursor.now - (c.loop-turn.turn + 1)) = omega arith in
    let so_far = c.loop-turn.invariant.so_far later (grows_then _ _ _ c.in_ok-param.ensures.grows grows) in
    rw (c.if-not-eat.ensures.new, c.in_ok-push.ensures.ok, map_push (shown_param later) c.loop-turn.params c.in_ok-param.param)
    (last_param c.args.declared _ _ (scope_at later c.loop-turn.scope) c.loop-turn.cursor (map (shown_param later) c.loop-turn.params) _ turn so_far (shown_param later c.in_ok-param.param) c.noted_param.new.cursor (sym c.sees_points.ensures ∙ c.if-sees_points.false) (c.in_ok-param.ensures.reads later grows) (sym c.if-not-eat.ensures.sees))

pub returns-then-not-eat-clause-defines : goal.returns-then-not-eat-clause-defines
returns-then-not-eat-clause-defines c = λ later grows.
    let before = c.loop-turn.invariant.defines later (grows_then _ _ _ c.in_ok-param.ensures.grows grows) in
    rw (c.in_ok-push.ensures.ok, map_push (shown_param later) c.loop-turn.params c.in_ok-param.param, fold-append after_param (scope_at later c.args.scope.now) (map (shown_param later) c.loop-turn.params) (shown_param later c.in_ok-param.param ∷ []), ← before)
    (c.in_ok-param.ensures.defines later grows)

pub loop-turn-preserved : goal.loop-turn-preserved
loop-turn-preserved c = record {
  so_far = λ later grows.
      let turn : length c.args.cursor.now - c.loop-turn.turn ≡ suc (length c.args.cursor.now - (c.loop-turn.turn + 1)) = omega arith in
      let so_far = c.loop-turn.invariant.so_far later (grows_then _ _ _ c.in_ok-param.ensures.grows grows) in
      rw (c.if-not-eat.ensures.new, c.in_ok-push.ensures.ok, map_push (shown_param later) c.loop-turn.params c.in_ok-param.param, c.in_ok-param.ensures.defines later grows)
      (goes_on c.args.declared _ _ (scope_at later c.loop-turn.scope) c.loop-turn.cursor (map (shown_param later) c.loop-turn.params) _ turn so_far (shown_param later c.in_ok-param.param) c.noted_param.new.cursor (sym c.sees_points.ensures ∙ c.if-sees_points.false) (c.in_ok-param.ensures.reads later grows) (sym c.if-not-eat.ensures.sees));
  defines = λ later grows.
      let before = c.loop-turn.invariant.defines later (grows_then _ _ _ c.in_ok-param.ensures.grows grows) in
      rw (c.in_ok-push.ensures.ok, map_push (shown_param later) c.loop-turn.params c.in_ok-param.param, fold-append after_param (scope_at later c.args.scope.now) (map (shown_param later) c.loop-turn.params) (shown_param later c.in_ok-param.param ∷ []), ← before)
      (c.in_ok-param.ensures.defines later grows);
  names = c.in_ok-param.ensures.names;
  grows = grows_then _ _ _ c.loop-turn.invariant.grows c.in_ok-param.ensures.grows;
}

pub returns-clause-reads : goal.returns-clause-reads
returns-clause-reads c = λ later grows. runs_out c.args.declared _ (scope_at later c.loop-turn.scope) c.loop-turn.cursor (map (shown_param later) c.loop-turn.params) _ (omega arith) (c.loop-turn.invariant.so_far later grows)
