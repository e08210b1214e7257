use Rattle.std.proofs.Common.{◌≡◌, drop}
use Rattle.ir_code.proofs.Going.{Going}
use Rattle.ir_code.proofs.strides.inner_strides.Given as goal

abbrev pub invariant-loop-value : goal.invariant-loop-value
invariant-loop-value l = Going l.tree l.fn.front l.fn.of l.values ≡ Going l.tree l.indices l.into (drop l.value-index l.values)
