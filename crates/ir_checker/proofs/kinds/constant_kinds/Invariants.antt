use Rattle.std.proofs.Common.{◌≡◌, length}
use Rattle.ir_checker.specs.ConstantClasses.{KindsBelow}
use Rattle.ir_checker.specs.ConstantKeys.{Keyed}
use Rattle.ir_checker.proofs.kinds.constant_kinds.Given as goal

abbrev pub invariant-loop-number : goal.invariant-loop-number
invariant-loop-number l = record {
  len : length l.kinds ≡ l._number;
  below : KindsBelow l.names l.kinds;
  keyed : Keyed l.names l.classes l.kinds l.keys;
}
