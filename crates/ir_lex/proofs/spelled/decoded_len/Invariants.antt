use Rattle.std.proofs.Common.{◌≡◌, ◌≤◌, ◌-◌, ◌+◌, length, drop}
use Rattle.ir_lex.specs.Spelling.{decoded_from}
use Rattle.ir_lex.proofs.spelled.decoded_len.Given as goal

abbrev pub invariant-loop-at : goal.invariant-loop-at
invariant-loop-at l = record {
  within : l.at ≤ length l.text;
  counts : l.count ≤ l.at;
  so_far : l.count + length (decoded_from (drop l.at l.text) 0) ≡ length (decoded_from l.text 0);
}

abbrev pub decreases-loop-at : goal.decreases-loop-at
decreases-loop-at l = length l.text - l.at
