use Rattle.std.proofs.Common.{sym}
use Rattle.ir_text.proofs.Eaten.{string_eaten}
use Rattle.ir_text.proofs.passed.after_string.Goals as goal

pub returns-then-eat : goal.returns-then-eat
returns-then-eat c = rw (string_eaten c.args.cursor.now (sym c.if-eat.ensures.sees), ← c.if-eat.ensures.new) c.some_string.ensures.reads
