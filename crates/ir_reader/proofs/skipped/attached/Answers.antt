use Rattle.std.proofs.Common.{◌≡◌, ◌-◌, ◌+◌, suc, length, arith, sym, ◌∙◌}
use Rattle.std.proofs.lemmas.Result.{err_from_is_err_and}
use Rattle.ir_reader.proofs.Skipping.{attached_none, attached_on, attached_last, attached_fails, attached_over}
use Rattle.ir_reader.proofs.skipped.attached.Goals as goal

pub returns-then-not-sees : goal.returns-then-not-sees
returns-then-not-sees c = sym c.loop-turn.invariant ∙ attached_none _ c.loop-turn.cursor (sym c.sees.ensures ∙ c.if-not-sees.true)

pub returns-in_err-attached_one : goal.returns-in_err-attached_one
returns-in_err-attached_one c =
    let turn : length c.args.cursor.now - c.loop-turn.turn ≡ suc (length c.args.cursor.now - (c.loop-turn.turn + 1)) = omega arith in
    let p = err_from_is_err_and c.from_residual.result c.from_residual.ensures.1 in
    rw (p.1, p.2, sym c.loop-turn.invariant) (attached_fails c.in_err-attached_one.field-0.0 _ _ c.loop-turn.cursor turn (sym c.sees.ensures ∙ c.if-not-sees.false) c.in_err-attached_one.ensures)

pub returns-then-not-branch : goal.returns-then-not-branch
returns-then-not-branch c =
    let turn : length c.args.cursor.now - c.loop-turn.turn ≡ suc (length c.args.cursor.now - (c.loop-turn.turn + 1)) = omega arith in
    let one = rw c.if-not-branch.true at c.in_ok-attached_one.ensures in
    sym c.loop-turn.invariant ∙ attached_last _ _ c.loop-turn.cursor c.attached_one.new.cursor turn (sym c.sees.ensures ∙ c.if-not-sees.false) one

pub loop-turn-preserved : goal.loop-turn-preserved
loop-turn-preserved c =
    let turn : length c.args.cursor.now - c.loop-turn.turn ≡ suc (length c.args.cursor.now - (c.loop-turn.turn + 1)) = omega arith in
    let one = rw c.if-not-branch.false at c.in_ok-attached_one.ensures in
    sym (attached_on _ _ c.loop-turn.cursor c.attached_one.new.cursor turn (sym c.sees.ensures ∙ c.if-not-sees.false) one) ∙ c.loop-turn.invariant

pub returns : goal.returns
returns c = sym c.loop-turn.invariant ∙ attached_over _ c.loop-turn.cursor (omega arith)
