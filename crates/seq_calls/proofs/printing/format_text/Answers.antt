use Rattle.std.proofs.Common.{ap, sym, ◌∙◌, arith}
use Rattle.std.proofs.lemmas.List.{length-drop}
use Rattle.seq_calls.specs.Format.{front_of}
use Rattle.seq_calls.proofs.Steps.{rest_is, format_starts, format_step, format_trap, format_ends}
use Rattle.seq_calls.proofs.printing.format_text.Goals as goal

pub loop-at-init : goal.loop-at-init
loop-at-init c = record { within = omega arith; counted = omega arith; so_far = rw c.new-out.ensures (format_starts c.args.format.now c.args.args.now) }

pub loop-at-preserved : goal.loop-at-preserved
loop-at-preserved c =
    let text = c.args.format.now in
    let at = c.loop-at.at in
    let front = c.first_piece-front.result in
    record {
      within = omega (arith, length-drop at text, c.first_piece-front.ensures.most);
      counted = c.in-Ok.ensures.within;
      so_far = rw c.in-Ok.ensures.next (format_step text c.args.args.now c.loop-at.out c.print.new.out at front.length c.loop-at.number front.piece _ c.loop-at-test.true (ap front_of (sym (rest_is text at)) ∙ sym c.first_piece-front.ensures.value) c.first_piece-front.ensures.least c.in-Ok.ensures.ok c.loop-at.invariant.so_far);
    }

pub returns-in-Err-clause-bad : goal.returns-in-Err-clause-bad
returns-in-Err-clause-bad c = λ is.
    let text = c.args.format.now in
    let at = c.loop-at.at in
    let front = c.first_piece-front.result in
    format_trap text c.args.args.now c.loop-at.out at front.length c.loop-at.number front.piece _ c.loop-at-test.true (ap front_of (sym (rest_is text at)) ∙ sym c.first_piece-front.ensures.value) c.first_piece-front.ensures.least (c.in-Err.ensures.bad is) c.loop-at.invariant.so_far

pub returns-clause-ok : goal.returns-clause-ok
returns-clause-ok c = format_ends c.args.format.now c.args.args.now c.loop-at.out c.loop-at.at c.loop-at.number _ c.loop-at-test.false c.loop-at.invariant.so_far
