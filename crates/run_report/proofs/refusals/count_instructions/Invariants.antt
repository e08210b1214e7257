use Rattle.std.proofs.Common.{◌≡◌, ◌+◌, sum_by, drop}
use Rattle.run_report.specs.Refusals.{function_size}
use Rattle.run_report.proofs.refusals.count_instructions.Given as goal

abbrev pub invariant-loop-function : goal.invariant-loop-function
invariant-loop-function l = l.count + sum_by function_size (drop l.function-index l.functions) ≡ sum_by function_size l.functions
