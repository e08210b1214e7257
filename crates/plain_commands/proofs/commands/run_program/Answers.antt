use Rattle.ir_tree.specs.Written.{shown_module}
use Rattle.plain_commands.proofs.CommandLemmas.{input_refused, input_read}
use Rattle.plain_commands.proofs.commands.run_program.Goals as goal

pub returns-in-Err-clause-answers : goal.returns-in-Err-clause-answers
returns-in-Err-clause-answers g c =
    input_refused (g.F.Files.content c.args.files.now) c.args.input.now c.args.budget (shown_module c.args.program.now) _ _ c.in-Err.answer
    (rw c.in-Err.is at c.in_ok-text.ensures.ends)

pub returns-clause-answers : goal.returns-clause-answers
returns-clause-answers g c =
    input_read (g.F.Files.content c.args.files.now) c.args.input.now c.args.budget (shown_module c.args.program.now) _ _ c.in-Ok.text c.as_slice.result.now _
    c.as_slice.ensures (rw c.in-Ok.is at c.in_ok-text.ensures.ends) c.run_answer.ensures
