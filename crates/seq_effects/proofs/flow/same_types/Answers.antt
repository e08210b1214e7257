use Rattle.std.proofs.Common.{sym}
use Rattle.seq_effects.proofs.Operands.{types_differ}
use Rattle.seq_effects.proofs.flow.same_types.Goals as goal

pub returns-then-one-other : goal.returns-then-one-other
returns-then-one-other c = sym (types_differ c.args.one.now c.args.other.now c.if-one-other.true)
