use Rattle.ir_instr.proofs.forms.marked_call.Goals as goal

pub returns-clause-result : goal.returns-clause-result
returns-clause-result c = c.finished.ensures.result c.args.to c.call-read.ensures.result
