use Rattle.std.proofs.Common.{◌≡◌, ◌∙◌}
use Rattle.seq_effects.specs.declared.state.Effect.TheVariants.{Keep}
use Rattle.seq_machine.proofs.Kept.{kept_name}
use Rattle.seq_machine.proofs.acts.fill_slot.Goals as goal

pub returns-in-Ok-Keep-clause-slotted : goal.returns-in-Ok-Keep-clause-slotted
returns-in-Ok-Keep-clause-slotted g c =
    let kept : c.in-Ok-Keep.field-0 ≡ Keep c.in-Ok-Keep.to c.in-Ok-Keep.name = rw c.in-Ok-Keep.is at c.in-Ok-Keep.field-0-is in
    rw (c.in-Ok-Keep.is, kept)
    (c.give.ensures
    ∙ kept_name c.args.frame.now c.push.new.self c.set.new.self c.len-count.result c.in-Ok-Keep.to c.in-Ok-Keep.name c.len-count.ensures c.in-Ok.ensures.ok c.set.ensures)
