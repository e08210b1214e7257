use Rattle.std.proofs.Common.{◌≡◌, take}
use Rattle.seq_run.specs.Outcomes.{global_bytes}
use Rattle.seq_run.proofs.outcome.global_bytes.Given as goal

abbrev pub invariant-loop-number : goal.invariant-loop-number
invariant-loop-number l = l.all ≡ global_bytes l.memory.objects 0 (take l.number l.globals)
