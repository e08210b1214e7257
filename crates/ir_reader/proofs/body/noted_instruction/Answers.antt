use Rattle.ir_instr.proofs.Kept.{names_kept}
use Rattle.ir_reader.proofs.body.noted_instruction.Goals as goal

pub note_result-requires-clause-names : goal.note_result-requires-clause-names
note_result-requires-clause-names c = names_kept c.args.names.now c.instruction.new.names c.args.scope.now.defined c.requires.names c.in_ok-read.ensures.grows
