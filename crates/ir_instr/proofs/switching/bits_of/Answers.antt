use Rattle.std.proofs.Common.{◌∙◌}
use Rattle.ir_instr.proofs.CaseTurns.{bits_shown, no_constant}
use Rattle.ir_instr.proofs.switching.bits_of.Goals as goal

pub returns-in-Some : goal.returns-in-Some
returns-in-Some c = λ later grows. c.bits_of_node.ensures ∙ bits_shown c.args.names.now later c.args.value c.in-Some.node.now c.in-Some.ensures grows

pub returns-in-None : goal.returns-in-None
returns-in-None c = λ later grows. absurd (no_constant c.args.names.now.constants c.args.value c.in-None.ensures c.requires)
