use Rattle.std.proofs.Common.{◌≡◌, map, take}
use Rattle.ir_code.specs.Tables.{linkage_of}
use Rattle.ir_code.proofs.made.linkages.Given as goal

abbrev pub invariant-loop-function : goal.invariant-loop-function
invariant-loop-function l = l.linkages ≡ map (linkage_of l.names) (take l.function-index l.functions)
