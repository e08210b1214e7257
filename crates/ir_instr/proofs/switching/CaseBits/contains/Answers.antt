use Rattle.std.proofs.Common.{◌∙◌}
use Rattle.ir_instr.proofs.CaseTurns.{any_reversed}
use Rattle.ir_instr.proofs.switching.CaseBits.contains.Goals as goal

pub returns : goal.returns
returns c = rw (← c.self.view_is) (c.contains.ensures ∙ any_reversed c.args.bits c.self.inside.bits.keys)
