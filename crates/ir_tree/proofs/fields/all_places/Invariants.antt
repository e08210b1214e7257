use Rattle.ir_tree.specs.Filling.{AllPlaces}
use Rattle.ir_tree.proofs.fields.all_places.Given as goal

abbrev pub invariant-loop-number : goal.invariant-loop-number
invariant-loop-number l = AllPlaces l.names l.answers l.number l.all
