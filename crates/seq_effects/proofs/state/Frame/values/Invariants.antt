use Rattle.std.proofs.Common.{◌≡◌, drop}
use Rattle.seq_effects.specs.Values.{operands}
use Rattle.seq_effects.proofs.Operands.{before}
use Rattle.seq_effects.proofs.state.Frame.values.Given as goal

abbrev pub invariant-loop-operand : goal.invariant-loop-operand
invariant-loop-operand l = before l.values.items (operands l.self (drop l.operand-index l.from)) ≡ operands l.self l.from
