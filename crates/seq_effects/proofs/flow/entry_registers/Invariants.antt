use Rattle.std.proofs.Common.{◌≡◌, ◌-◌, ◌++◌, take, length, map, replicate, Some, None}
use Rattle.seq_effects.proofs.flow.entry_registers.Given as goal

abbrev pub invariant-loop-i : goal.invariant-loop-i
invariant-loop-i l = (l.registers ≡ map Some (take l.i l.values) ++ replicate (length l.function.registers - l.i) None)
