use Rattle.ir_tree.specs.Filling.{Passes}
use Rattle.ir_tree.proofs.layouts.pass.Given as goal

abbrev pub invariant-loop-number : goal.invariant-loop-number
invariant-loop-number l = Passes l.names l.bodies l.initial.answers l.answers l.number l.found
