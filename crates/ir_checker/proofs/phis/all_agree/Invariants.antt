use Rattle.std.proofs.Common.{ℕ, ◌<◌, true}
use Rattle.ir_checker.specs.Entering.{IsFirstOperand}
use Rattle.ir_checker.proofs.phis.all_agree.Given as goal

abbrev pub invariant-loop-i : goal.invariant-loop-i
invariant-loop-i l = (j : ℕ) → j < l.i → IsFirstOperand l.names l.zero l.from l.arms j true
