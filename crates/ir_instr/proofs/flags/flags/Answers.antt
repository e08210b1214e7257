use Rattle.std.proofs.Common.{map, sym, ◌∙◌}
use Rattle.ir_instr.proofs.FlagTurns.{flags_out, flags_end, flags_on}
use Rattle.ir_instr.proofs.flags.flags.Goals as goal

pub returns-then-not-is_one : goal.returns-then-not-is_one
returns-then-not-is_one c = flags_end (map (λ w. w.now) c.args.words.now) c.loop-lexeme.flags c.loop-lexeme.cursor _ c.loop-lexeme.invariant c.in-Some.lexeme c.in-Some.ensures (sym c.is_one.ensures ∙ c.if-not-is_one.true)

pub loop-lexeme-preserved : goal.loop-lexeme-preserved
loop-lexeme-preserved c =
    rw (c.with_flag-flags.ensures, c.bytes.ensures, c.skip.ensures)
    (flags_on (map (λ w. w.now) c.args.words.now) c.loop-lexeme.flags c.loop-lexeme.cursor _ c.loop-lexeme.invariant c.in-Some.lexeme c.in-Some.ensures (sym c.is_one.ensures ∙ c.if-not-is_one.false))

pub returns : goal.returns
returns c = flags_out (map (λ w. w.now) c.args.words.now) c.loop-lexeme.flags c.loop-lexeme.cursor _ c.loop-lexeme.invariant c.in_default.ensures
