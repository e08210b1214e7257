use Rattle.std.proofs.Common.{arith, ◌≡◌, ◌<◌, ◌≤◌, ◌+◌, ◌*◌, ◌^◌, ℕ, suc, lit<}
use Rattle.std.proofs.Math.Nat.{pow-le-pow_right, pow-suc}
use Rattle.command_words.proofs.number.number.Goals as goal

room_for_one : (v i : ℕ) → v < 10 ^ i → i < 19 → v * 10 + 9 < 10 ^ 19
room_for_one v i small short =
    let above : 10 ^ suc i ≤ 10 ^ 19 = pow-le-pow_right (lit< tt) {i = suc i} {j = 19} (omega arith) in
    let next : 10 ^ suc i ≡ 10 ^ i * 10 = pow-suc 10 i in
    omega arith

pub overflow_mul-value : goal.overflow_mul-value
overflow_mul-value c =
    let room : c.loop-c.value * 10 + 9 < 10 ^ 19 = room_for_one _ c.loop-c.c-index (grind (arith, c.loop-c.invariant)) (omega arith) in omega arith

pub overflow_add-value : goal.overflow_add-value
overflow_add-value c =
    let room : c.loop-c.value * 10 + 9 < 10 ^ 19 = room_for_one _ c.loop-c.c-index (grind (arith, c.loop-c.invariant)) (omega arith) in grind (arith, room)
