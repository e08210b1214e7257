use Rattle.std.proofs.Common.{◌≡◌, ◌++◌, map, take}
use Rattle.ir_rules.specs.Forms.{argument_use}
use Rattle.ir_rules.proofs.forms.with_arguments.Given as goal

abbrev pub invariant-loop-argument : goal.invariant-loop-argument
invariant-loop-argument l = l.uses ≡ l.initial.uses ++ map argument_use (take l.argument-index l.arguments)
