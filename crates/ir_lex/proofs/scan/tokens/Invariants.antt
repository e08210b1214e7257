use Rattle.std.proofs.Common.{length, ◌-◌, ◌≡◌, ◌+◌, ◌<◌, ◌≤◌, drop, All}
use Rattle.std.specs.List.{prefix_len}
use Rattle.ir_lex.specs.Classes.{is_name_byte}
use Rattle.ir_lex.specs.Lexing.{lexed, lexed_from, TokenIn}
use Rattle.ir_lex.proofs.Steps.{onto}
use Rattle.ir_lex.proofs.scan.tokens.Given as goal

abbrev pub invariant-loop-at : goal.invariant-loop-at
invariant-loop-at l = record {
  within : l.at ≤ length l.text;
  lines : l.line ≤ l.at + 1;
  run : l.at < l.known → l.known ≡ l.at + prefix_len is_name_byte (drop l.at l.text);
  so_far : onto l.found (lexed_from (drop l.at l.text) 0 l.at l.line) ≡ lexed l.text;
  in_text : All (TokenIn l.text) l.found;
}

abbrev pub decreases-loop-at : goal.decreases-loop-at
decreases-loop-at l = length l.text - l.at
