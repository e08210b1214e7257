use Rattle.std.proofs.Common.{◌≡◌, ◌-◌, ◌+◌, suc, length, arith, rules}
use Rattle.std.proofs.lemmas.Result.{err_from_is_err_and}
use Rattle.ir_tree.proofs.Showing.{grows_then}
use Rattle.ir_text.specs.Named.{known_of, layout_in}
use Rattle.ir_instr.proofs.Kept.{types_kept}
use Rattle.ir_grammar.specs.Modules.{nothing_so_far}
use Rattle.ir_grammar.specs.Items.{item_at}
use Rattle.ir_reader.specs.Gathered.{so_far_at}
use Rattle.ir_reader.proofs.Turns.{sub_zero}
use Rattle.ir_reader.proofs.ItemTurns.{starts, goes_on, fails, ends_there, runs_out, no_token, some_token, none_laid}
use Rattle.ir_reader.proofs.item.read_items.Goals as goal

pub loop-turn-init : goal.loop-turn-init
loop-turn-init c = record {
  so_far = λ later grows. rw (c.new-so_far.ensures, sub_zero (length c.args.cursor.now)) (starts (item_at (known_of later c.args.known.now)) nothing_so_far c.args.cursor.now);
  within = search rules;
  types = c.requires;
  laid = rw c.new-layouts.ensures (none_laid (layout_in c.args.known.now) c.args.names.now);
  grows = search rules;
}

pub returns-then-len-eq0-clause-reads : goal.returns-then-len-eq0-clause-reads
returns-then-len-eq0-clause-reads c = λ later grows.
    ends_there (item_at (known_of later c.args.known.now)) _ (so_far_at later c.loop-turn.so_far) c.loop-turn.cursor _ (no_token c.loop-turn.cursor (omega arith)) (c.loop-turn.invariant.so_far later grows)

pub returns-in_err-add_item-clause-reads : goal.returns-in_err-add_item-clause-reads
returns-in_err-add_item-clause-reads c = λ later grows.
    let turn : length c.args.cursor.now - c.loop-turn.turn ≡ suc (length c.args.cursor.now - (c.loop-turn.turn + 1)) = omega arith in
    let p = err_from_is_err_and c.from_residual.result c.from_residual.ensures.1 in
    let so_far = c.loop-turn.invariant.so_far later (grows_then _ _ _ c.in_err-add_item.ensures.grows grows) in
    rw (p.1, p.2) (fails (item_at (known_of later c.args.known.now)) c.in_err-add_item.field-0.0 _ _ (so_far_at later c.loop-turn.so_far) c.loop-turn.cursor _ turn (some_token c.loop-turn.cursor (omega arith)) (c.in_err-add_item.ensures.reads later grows) so_far)

pub loop-turn-preserved : goal.loop-turn-preserved
loop-turn-preserved c = record {
  so_far = λ later grows.
      let turn : length c.args.cursor.now - c.loop-turn.turn ≡ suc (length c.args.cursor.now - (c.loop-turn.turn + 1)) = omega arith in
      let so_far = c.loop-turn.invariant.so_far later (grows_then _ _ _ c.in_ok-add_item.ensures.grows grows) in
      goes_on (item_at (known_of later c.args.known.now)) _ _ (so_far_at later c.loop-turn.so_far) (so_far_at later c.add_item.new.so_far) c.loop-turn.cursor c.add_item.new.cursor _ turn (some_token c.loop-turn.cursor (omega arith)) (c.in_ok-add_item.ensures.reads later grows) so_far;
  within = c.in_ok-add_item.ensures.within;
  types = types_kept _ _ c.args.known.now c.loop-turn.invariant.types c.in_ok-add_item.ensures.grows;
  laid = c.in_ok-add_item.ensures.laid;
  grows = grows_then _ _ _ c.loop-turn.invariant.grows c.in_ok-add_item.ensures.grows;
}

pub returns-clause-reads : goal.returns-clause-reads
returns-clause-reads c = λ later grows.
    runs_out (item_at (known_of later c.args.known.now)) _ (so_far_at later c.loop-turn.so_far) c.loop-turn.cursor _ (omega arith) (c.loop-turn.invariant.so_far later grows)
