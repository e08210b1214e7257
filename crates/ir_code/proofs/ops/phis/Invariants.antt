use Rattle.std.proofs.Common.{◌≡◌}
use Rattle.std.specs.Prelude.{replicate}
use Rattle.ir_code.specs.declared.op.Op.TheVariants as op
use Rattle.ir_code.proofs.ops.phis.Given as goal

abbrev pub invariant-loop-place : goal.invariant-loop-place
invariant-loop-place l = l.ops ≡ replicate l._place op.Phi
