use Rattle.std.proofs.Common.{sym}
use Rattle.ir_instr.proofs.AttributeTurns.{group_behind}
use Rattle.ir_instr.proofs.calls.after_attribute.Goals as goal

pub returns-then-eat : goal.returns-then-eat
returns-then-eat c = rw (group_behind c.args.cursor.now (sym c.if-eat.ensures.sees), ← c.if-eat.ensures.new) c.group.ensures
