use Rattle.std.proofs.Common.{◌≡◌, length}
use Rattle.ir_tree.specs.Filling.{Reaches, AreBounded, missing}
use Rattle.ir_tree.proofs.layouts.settle.Given as goal

abbrev pub invariant-passes : goal.invariant-passes
invariant-passes l = record {
  reaches : Reaches l.names l.bodies l.initial.answers l.answers;
  len : length l.answers ≡ length l.initial.answers;
  bounded : AreBounded l.answers;
}

abbrev pub decreases-passes : goal.decreases-passes
decreases-passes l = missing l.answers
