use Rattle.std.proofs.Common.{ap, sym, ◌∙◌, arith}
use Rattle.std.proofs.lemmas.List.{length-drop}
use Rattle.seq_calls.specs.Format.{front_of}
use Rattle.seq_calls.proofs.Pointers.{same_are_pointers}
use Rattle.seq_calls.proofs.Steps.{rest_is, args_start, args_step, args_trap, args_end}
use Rattle.seq_calls.proofs.printing.text_args.Goals as goal

pub loop-at-init : goal.loop-at-init
loop-at-init c = record { within = omega arith; counted = omega arith; so_far = rw c.new-found.ensures (args_start c.args.format.now c.args.args.now) }

pub loop-at-preserved : goal.loop-at-preserved
loop-at-preserved c =
    let text = c.args.format.now in
    let at = c.loop-at.at in
    let front = c.first_piece-front.result in
    record {
      within = omega (arith, length-drop at text, c.first_piece-front.ensures.most);
      counted = c.in-Some.ensures.within;
      so_far = rw c.in_ok-note-in-Some.ensures (args_step text c.args.args.now c.loop-at.found at front.length c.loop-at.number c.in-Some.next front.piece _ c.loop-at-test.true (ap front_of (sym (rest_is text at)) ∙ sym c.first_piece-front.ensures.value) c.first_piece-front.ensures.least c.in-Some.ensures.value c.loop-at.invariant.so_far);
    }

pub returns-in-None : goal.returns-in-None
returns-in-None c =
    let text = c.args.format.now in
    let at = c.loop-at.at in
    let front = c.first_piece-front.result in
    let exact = args_trap text c.args.args.now c.loop-at.found at front.length c.loop-at.number front.piece _ c.loop-at-test.true (ap front_of (sym (rest_is text at)) ∙ sym c.first_piece-front.ensures.value) c.first_piece-front.ensures.least c.in-None.ensures.value c.loop-at.invariant.so_far in
    record { exact = exact; pointers = same_are_pointers text c.args.args.now _ exact }

pub returns : goal.returns
returns c =
    let exact = args_end c.args.format.now c.args.args.now c.loop-at.found c.loop-at.at c.loop-at.number _ c.loop-at-test.false c.loop-at.invariant.so_far in
    record { exact = exact; pointers = same_are_pointers c.args.format.now c.args.args.now _ exact }
