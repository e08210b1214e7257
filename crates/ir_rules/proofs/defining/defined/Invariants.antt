use Rattle.std.proofs.Common.{◌≡◌, ◌++◌, take}
use Rattle.std.specs.List.{flat_map}
use Rattle.ir_rules.specs.Defining.{defined_in}
use Rattle.ir_rules.proofs.defining.defined.Given as goal

abbrev pub invariant-loop-block : goal.invariant-loop-block
invariant-loop-block l = l.all ≡ l.initial.all ++ flat_map defined_in (take l.block-index l.block-items)
