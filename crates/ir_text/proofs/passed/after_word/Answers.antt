use Rattle.std.proofs.Common.{sym}
use Rattle.ir_text.proofs.Eaten.{group_eaten}
use Rattle.ir_text.proofs.passed.after_word.Goals as goal

pub returns-then-eat : goal.returns-then-eat
returns-then-eat c = rw (group_eaten c.args.cursor.now (sym c.if-eat.ensures.sees), ← c.if-eat.ensures.new) c.group.ensures
