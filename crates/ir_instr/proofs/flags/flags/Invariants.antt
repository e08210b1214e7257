use Rattle.std.proofs.Common.{◌≡◌, length, map}
use Rattle.ir_instr.specs.Flags.{words_of, flags_at}
use Rattle.ir_instr.proofs.FlagTurns.{flags_so}
use Rattle.ir_instr.proofs.flags.flags.Given as goal

abbrev pub invariant-loop-lexeme : goal.invariant-loop-lexeme
invariant-loop-lexeme l = flags_so l.flags (words_of (map (λ w. w.now) l.words) l.cursor) ≡ flags_at (map (λ w. w.now) l.words) l.fn.cursor

abbrev pub decreases-loop-lexeme : goal.decreases-loop-lexeme
decreases-loop-lexeme l = length l.cursor
