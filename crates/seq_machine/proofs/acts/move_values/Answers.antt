use Rattle.std.proofs.Common.{◌≡◌, ◌<◌, ◌+◌, ◌++◌, ◌∷◌, [], length, get_or, ◌∙◌, sym, ap, length-append}
use Rattle.seq_machine.proofs.FrameLists.{hold_more, moves_on}
use Rattle.seq_machine.proofs.acts.move_values.Goals as goal

pub loop-from-preserved : goal.loop-from-preserved
loop-from-preserved c =
    let items : c.push.new.self.items ≡ c.loop-from.values.items ++ c.in-Ok-move_value.value ∷ [] = c.in-Ok-push.ensures.items in
    let lm : c.loop-from.from-index < length c.args.moves.now = rw c.as_slice-from-items.ensures at c.loop-from-test.true in
    let im : c.from-item.result ≡ get_or c.args.moves.now c.loop-from.from-index c.from-item.result = rw c.as_slice-from-items.ensures at c.from-item.is in (
      rw items (sym (moves_on c.args.moves.now c.args.function.now c.args.frame.now c.loop-from.values.items c.loop-from.from-index c.from-item.result c.in-Ok-move_value.value lm im c.in-Ok-move_value.ensures.value) ∙ c.loop-from.invariant.0),
      ap length items ∙ length-append c.loop-from.values.items (c.in-Ok-move_value.value ∷ []) ∙ ap (λ n. n + 1) c.loop-from.invariant.1,
      rw items (hold_more c.args.function.now.registers c.args.moves.now c.loop-from.values.items c.loop-from.from-index c.from-item.result c.in-Ok-move_value.value lm im c.loop-from.invariant.1 c.in-Ok-move_value.ensures.holds c.loop-from.invariant.2),
    )
