use Rattle.std.proofs.Common.{◌≡◌, ℕ, drop, length, slice_get, Some}
use Rattle.ir_code.specs.declared.code.Move.{Move}
use Rattle.seq_effects.specs.declared.state.Value.{Value}
use Rattle.seq_effects.specs.Values.{Holds}
use Rattle.seq_machine.specs.Acts.{move_values}
use Rattle.seq_machine.proofs.FrameLists.{before}
use Rattle.seq_machine.proofs.acts.move_values.Given as goal

abbrev pub invariant-loop-from : goal.invariant-loop-from
invariant-loop-from l =
    (before l.values.items (move_values l.function l.frame (drop l.from-index l.moves)) ≡ move_values l.function l.frame l.moves)
    × (length l.values.items ≡ l.from-index)
    × ((i : ℕ) (m : Move) (v : Value) → slice_get l.moves i ≡ Some m → slice_get l.values.items i ≡ Some v → Holds l.function.registers m.register v)
