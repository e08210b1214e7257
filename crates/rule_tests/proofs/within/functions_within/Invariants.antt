use Rattle.std.proofs.Common.{◌≡◌, drop}
use Rattle.std.specs.List.{list_all}
use Rattle.ir_rules.specs.Numbering.{function_within}
use Rattle.rule_tests.proofs.within.functions_within.Given as goal

abbrev pub invariant-loop-function : goal.invariant-loop-function
invariant-loop-function l = list_all (function_within l.names) l.functions ≡ list_all (function_within l.names) (drop l.function-index l.functions)
