use Rattle.std.proofs.Common.{◌≡◌, drop}
use Rattle.std.specs.List.{list_all}
use Rattle.ir_tree.specs.Shown.{shown_function}
use Rattle.ir_tree.specs.Modules.{types_of}
use Rattle.ir_rules.specs.Reading.{function_stands}
use Rattle.rule_tests.proofs.reading.functions_stand.Given as goal

abbrev pub invariant-loop-function : goal.invariant-loop-function
invariant-loop-function l =
    list_all (λ f. function_stands (types_of l.tree) (shown_function l.tree.names f)) l.functions ≡ list_all (λ f. function_stands (types_of l.tree) (shown_function l.tree.names f)) (drop l.function-index l.functions)
