use Rattle.std.proofs.Common.{map, sym, ◌∙◌}
use Rattle.ir_instr.proofs.FlagTurns.{said_first, said_end, said_on, words_none, words_stop}
use Rattle.ir_instr.proofs.flags.said.Goals as goal

pub loop-lexeme-init : goal.loop-lexeme-init
loop-lexeme-init c = said_first (map (λ w. w.now) c.args.words.now) c.args.sought.now c.args.cursor.now

pub returns-then-not-is_one : goal.returns-then-not-is_one
returns-then-not-is_one c =
    said_end (map (λ w. w.now) c.args.words.now) c.args.sought.now c.args.cursor.now c.loop-lexeme.cursor c.loop-lexeme.is_said c.loop-lexeme.invariant
    (words_stop (map (λ w. w.now) c.args.words.now) c.loop-lexeme.cursor c.in-Some.lexeme c.in-Some.ensures (sym c.is_one.ensures ∙ c.if-not-is_one.true))

pub loop-lexeme-preserved : goal.loop-lexeme-preserved
loop-lexeme-preserved c =
    rw (c.is_either-is_said.ensures, c.bytes.ensures, c.skip.ensures)
    (said_on (map (λ w. w.now) c.args.words.now) c.args.sought.now c.args.cursor.now c.loop-lexeme.cursor c.loop-lexeme.is_said c.loop-lexeme.invariant c.in-Some.lexeme c.in-Some.ensures (sym c.is_one.ensures ∙ c.if-not-is_one.false))

pub returns : goal.returns
returns c =
    said_end (map (λ w. w.now) c.args.words.now) c.args.sought.now c.args.cursor.now c.loop-lexeme.cursor c.loop-lexeme.is_said c.loop-lexeme.invariant
    (words_none (map (λ w. w.now) c.args.words.now) c.loop-lexeme.cursor c.in_default.ensures)
