use Rattle.std.proofs.Common.{◌≡◌, length}
use Rattle.ir_code.specs.Walking.{AreFixedBelow}
use Rattle.ir_code.proofs.fixed.Constants.new.Given as goal

abbrev pub invariant-loop-number : goal.invariant-loop-number
invariant-loop-number l = record {
  len : length l.found ≡ l.number;
  below : AreFixedBelow l.tree l.found;
}
