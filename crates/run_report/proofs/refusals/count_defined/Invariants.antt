use Rattle.std.proofs.Common.{◌≡◌, ◌+◌, ◌≤◌, count_by, drop}
use Rattle.run_report.specs.Refusals.{is_defined}
use Rattle.run_report.proofs.refusals.count_defined.Given as goal

abbrev pub invariant-loop-function : goal.invariant-loop-function
invariant-loop-function l = (l.count + count_by is_defined (drop l.function-index l.functions) ≡ count_by is_defined l.functions) × (l.count ≤ l.function-index)
