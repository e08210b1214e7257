use Rattle.std.proofs.Common.{◌≡◌, ◌<◌, ◌≤◌, ℕ, drop, length, slice_get, Some}
use Rattle.ir_code.specs.declared.op.Scalar.{Scalar}
use Rattle.seq_effects.specs.declared.state.Value.{Value}
use Rattle.seq_effects.specs.Values.{IsOf}
use Rattle.seq_effects.specs.Flow.{fit}
use Rattle.seq_effects.proofs.flow.fit.Given as goal

abbrev pub invariant-loop-i : goal.invariant-loop-i
invariant-loop-i l =
    (fit (drop l.i l.types) (drop l.i l.values) ≡ fit l.types l.values)
    × (l.i ≤ length l.types)
    × ((j : ℕ) (t : Scalar) (v : Value) → j < l.i → slice_get l.types j ≡ Some t → slice_get l.values j ≡ Some v → IsOf t v)
