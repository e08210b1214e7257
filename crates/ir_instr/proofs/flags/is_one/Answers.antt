use Rattle.std.proofs.Common.{ap, ◌∙◌}
use Rattle.std.specs.List.{list_any}
use Rattle.ir_text.specs.Tokens.{same}
use Rattle.ir_instr.proofs.FlagTurns.{one_is}
use Rattle.ir_instr.proofs.flags.is_one.Goals as goal

pub returns-in-Word : goal.returns-in-Word
returns-in-Word c = one_is c.args.words.now c.args.lexeme.now _ c.in-Word.ensures (c.is_among.ensures ∙ ap (λ text. list_any (λ w. same text w.now) c.args.words.now) c.bytes.ensures)
