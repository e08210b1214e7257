use Rattle.std.proofs.Common.{◌≡◌, ◌++◌}
use Rattle.privacy_check.proofs.shadow.Shadow.names.Given as goal

abbrev pub invariant-loop-name : goal.invariant-loop-name
invariant-loop-name l = l.names ++ l.name-iterator ≡ l.initial.name-iterator
