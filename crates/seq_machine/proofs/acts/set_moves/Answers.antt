use Rattle.std.proofs.Common.{◌≡◌, ◌<◌, ◌+◌, length, get_or, Some, ◌∙◌, sym, ap, arith}
use Rattle.std.proofs.lemmas.Option.{slice_get-get_or}
use Rattle.seq_machine.proofs.FrameLists.{set_on, are_set}
use Rattle.seq_machine.proofs.acts.set_moves.Goals as goal

pub loop-to-preserved : goal.loop-to-preserved
loop-to-preserved c =
    let lm : c.loop-to.to-index < length c.args.moves.now = rw c.as_slice-to-items.ensures at c.loop-to-test.true in
    let im : c.to-item.result ≡ get_or c.args.moves.now c.loop-to.to-index c.to-item.result = rw c.as_slice-to-items.ensures at c.to-item.is in
    let lv : c.loop-to.to-index < length c.args.values.now = omega (arith, lm, c.requires.hold.count) in
    let iv : c.index-values-i.result ≡ get_or c.args.values.now c.loop-to.to-index c.index-values-i.result = rw c.loop-to.invariant.0 at c.index-values-i.is in
    let holds = c.requires.hold.each c.loop-to.to-index c.to-item.result c.index-values-i.result (slice_get-get_or c.args.moves.now c.loop-to.to-index c.to-item.result lm ∙ ap Some (sym im)) (slice_get-get_or c.args.values.now c.loop-to.to-index c.index-values-i.result lv ∙ ap Some (sym iv)) in (
      ap (λ n. n + 1) c.loop-to.invariant.0,
      rw c.set.ensures (sym (set_on c.args.moves.now c.args.values.now c.loop-to.registers c.loop-to.to-index c.loop-to.i c.to-item.result c.index-values-i.result c.loop-to.invariant.0 lm lv im c.index-values-i.is) ∙ c.loop-to.invariant.1),
      rw c.set.ensures (are_set c.args.types.now c.loop-to.registers c.to-item.result.register c.index-values-i.result c.loop-to.invariant.2 holds),
    )
