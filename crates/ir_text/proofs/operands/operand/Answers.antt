use Rattle.std.proofs.Common.{◌∙◌, sym}
use Rattle.ir_text.proofs.operands.operand.Goals as goal

pub returns-then-sees_local-clause-reads : goal.returns-then-sees_local-clause-reads
returns-then-sees_local-clause-reads c = λ later grows. rw (sym c.sees_local.ensures ∙ c.if-sees_local.true) (c.register.ensures.reads later grows)
