use Rattle.std.proofs.Common.{◌≡◌, drop, pos}
use Rattle.ir_code.specs.Fixed.{total_of}
use Rattle.ir_code.proofs.fixed.total.Given as goal

abbrev pub invariant-loop-index : goal.invariant-loop-index
invariant-loop-index l = total_of (pos 0) l.indices ≡ total_of l.total (drop l.index-index l.indices)
