use Rattle.std.proofs.Common.{◌≡◌, length}
use Rattle.ir_rules.specs.Classes.{ClassesBelow}
use Rattle.ir_rules.specs.TypeKeys.{Keyed}
use Rattle.ir_rules.proofs.classes.type_classes.Given as goal

abbrev pub invariant-loop-number : goal.invariant-loop-number
invariant-loop-number l = record {
  len : length l.classes ≡ l._number;
  below : ClassesBelow l.names l.classes;
  keyed : Keyed l.names l.classes l.keys;
}
