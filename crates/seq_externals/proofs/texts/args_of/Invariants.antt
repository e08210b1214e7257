use Rattle.std.proofs.Common.{◌≡◌, map, take}
use Rattle.seq_externals.specs.Externals.{arg_of}
use Rattle.seq_externals.proofs.texts.args_of.Given as goal

abbrev pub invariant-loop-value : goal.invariant-loop-value
invariant-loop-value l = l.args ≡ map arg_of (take l.value-index l.values)
