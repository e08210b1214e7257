use Rattle.std.proofs.Common.{◌≡◌, map, take, Some}
use Rattle.ir_code.proofs.made.function_names.Given as goal

abbrev pub invariant-loop-function : goal.invariant-loop-function
invariant-loop-function l = l.names ≡ map (λ f. Some f.name) (take l.function-index l.functions)
