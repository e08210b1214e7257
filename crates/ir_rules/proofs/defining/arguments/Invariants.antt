use Rattle.std.proofs.Common.{◌≡◌, take}
use Rattle.std.specs.List.{filter_map}
use Rattle.ir_rules.specs.Defining.{argument_of}
use Rattle.ir_rules.proofs.defining.arguments.Given as goal

abbrev pub invariant-loop-param : goal.invariant-loop-param
invariant-loop-param l = l.all ≡ filter_map argument_of (take l.param-index l.params)
