use Rattle.std.proofs.Common.{◌≡◌, ◌-◌, ◌+◌, suc, length, map, arith, rules, sym, ◌∙◌}
use Rattle.std.proofs.lemmas.Result.{err_from_is_err_and}
use Rattle.std.proofs.lemmas.List.{map_push}
use Rattle.ir_tree.specs.Shown.{shown_block}
use Rattle.ir_tree.proofs.Showing.{grows_then}
use Rattle.ir_text.specs.Named.{known_of}
use Rattle.ir_instr.proofs.Kept.{types_kept}
use Rattle.ir_grammar.specs.Scopes.{after_block}
use Rattle.ir_grammar.specs.Bodies.{is_label, block_at}
use Rattle.ir_reader.specs.Scoping.{scope_at}
use Rattle.ir_reader.proofs.Turns.{begins, sub_zero, goes_on, fails, ends_there, runs_out}
use Rattle.ir_reader.proofs.body.others.Goals as goal

pub loop-turn-init : goal.loop-turn-init
loop-turn-init c = record {
  so_far = λ later grows. rw (sub_zero (length c.args.cursor.now)) (begins is_label (block_at (known_of later c.args.known.now)) after_block (scope_at later c.args.scope.now) c.args.cursor.now (map (shown_block later) c.args.found));
  names = c.requires.names;
  types = c.requires.types;
  laid = c.requires.laid;
  grows = search rules;
}

pub returns-then-not-sees_label-clause-reads : goal.returns-then-not-sees_label-clause-reads
returns-then-not-sees_label-clause-reads c = λ later grows.
    ends_there is_label (block_at (known_of later c.args.known.now)) after_block _ (scope_at later c.loop-turn.scope) c.loop-turn.cursor (map (shown_block later) c.loop-turn.found) _ (sym c.sees_label.ensures ∙ c.if-not-sees_label.true) (c.loop-turn.invariant.so_far later grows)

pub returns-in_err-read-clause-reads : goal.returns-in_err-read-clause-reads
returns-in_err-read-clause-reads c = λ later grows.
    let turn : length c.args.cursor.now - c.loop-turn.turn ≡ suc (length c.args.cursor.now - (c.loop-turn.turn + 1)) = omega arith in
    let p = err_from_is_err_and c.from_residual.result c.from_residual.ensures.1 in
    let so_far = c.loop-turn.invariant.so_far later (grows_then _ _ _ c.in_err-read.ensures.grows grows) in
    rw (p.1, p.2) (fails is_label (block_at (known_of later c.args.known.now)) after_block c.in_err-read.field-0.0 _ _ (scope_at later c.loop-turn.scope) c.loop-turn.cursor (map (shown_block later) c.loop-turn.found) _ turn (sym c.sees_label.ensures ∙ c.if-not-sees_label.false) (c.in_err-read.ensures.reads later grows) so_far)

pub loop-turn-preserved : goal.loop-turn-preserved
loop-turn-preserved c = record {
  so_far = λ later grows.
      let turn : length c.args.cursor.now - c.loop-turn.turn ≡ suc (length c.args.cursor.now - (c.loop-turn.turn + 1)) = omega arith in
      let so_far = c.loop-turn.invariant.so_far later (grows_then _ _ _ c.in_ok-read.ensures.grows grows) in
      rw (c.in_ok-push.ensures.ok, map_push (shown_block later) c.loop-turn.found c.in_ok-read.read, c.in_ok-read.ensures.defines later grows)
      (goes_on is_label (block_at (known_of later c.args.known.now)) after_block _ _ (scope_at later c.loop-turn.scope) c.loop-turn.cursor (map (shown_block later) c.loop-turn.found) (shown_block later c.in_ok-read.read) c.block.new.cursor _ turn (sym c.sees_label.ensures ∙ c.if-not-sees_label.false) (c.in_ok-read.ensures.reads later grows) so_far);
  names = c.in_ok-read.ensures.names;
  types = types_kept _ _ c.args.known.now c.loop-turn.invariant.types c.in_ok-read.ensures.grows;
  laid = c.in_ok-read.ensures.laid;
  grows = grows_then _ _ _ c.loop-turn.invariant.grows c.in_ok-read.ensures.grows;
}

pub returns-clause-reads : goal.returns-clause-reads
returns-clause-reads c = λ later grows.
    runs_out is_label (block_at (known_of later c.args.known.now)) after_block _ (scope_at later c.loop-turn.scope) c.loop-turn.cursor (map (shown_block later) c.loop-turn.found) _ (omega arith) (c.loop-turn.invariant.so_far later grows)
