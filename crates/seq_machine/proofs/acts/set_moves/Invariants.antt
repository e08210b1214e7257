use Rattle.std.proofs.Common.{◌≡◌, drop}
use Rattle.seq_effects.specs.Values.{AreOf}
use Rattle.seq_machine.specs.Acts.{set_moves}
use Rattle.seq_machine.proofs.acts.set_moves.Given as goal

abbrev pub invariant-loop-to : goal.invariant-loop-to
invariant-loop-to l =
    (l.i ≡ l.to-index)
    × (set_moves (drop l.to-index l.moves) (drop l.to-index l.values) l.registers ≡ set_moves l.moves l.values l.initial.registers)
    × AreOf l.types l.registers
