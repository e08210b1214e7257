use Rattle.std.proofs.Common.{◌≡◌, length}
use Rattle.ir_tree.specs.Filling.{Reaches, AreBounded}
use Rattle.ir_tree.proofs.layouts.follow.Given as goal

abbrev pub invariant-loop-number : goal.invariant-loop-number
invariant-loop-number l = record {
  reaches : Reaches l.names l.bodies l.initial.answers l.answers;
  len : length l.answers ≡ length l.initial.answers;
  bounded : AreBounded l.answers;
}
