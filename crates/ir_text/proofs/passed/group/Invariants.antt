use Rattle.std.proofs.Common.{◌≡◌, ◌+◌, ◌≤◌, length}
use Rattle.ir_text.specs.Passed.{group_from}
use Rattle.ir_text.proofs.passed.group.Given as goal

abbrev pub invariant-loop-turn : goal.invariant-loop-turn
invariant-loop-turn l = record {
  so_far : group_from (l.inner + 1) l.cursor ≡ group_from 1 l.fn.cursor;
  room : l.inner ≤ l.turn;
  left : length l.cursor + l.turn ≡ length l.fn.cursor;
}
