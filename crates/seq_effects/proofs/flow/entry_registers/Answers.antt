use Rattle.seq_effects.proofs.Operands.{entry_more}
use Rattle.seq_effects.proofs.flow.entry_registers.Goals as goal

pub loop-i-preserved : goal.loop-i-preserved
loop-i-preserved c =
    rw (c.set.ensures, c.loop-i.invariant) (entry_more _ _ _ _ c.loop-i-test.true c.requires c.index-values-i.is)
