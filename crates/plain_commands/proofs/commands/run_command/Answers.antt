use Rattle.plain_commands.proofs.CommandLemmas.{code_refused, run_answered}
use Rattle.plain_commands.proofs.commands.run_command.Goals as goal

pub returns-in-Err-clause-answers : goal.returns-in-Err-clause-answers
returns-in-Err-clause-answers g c =
    code_refused (g.F.Files.content c.args.files.now) c.args.module.now c.args.input.now c.args.budget _ _ c.in-Err.answer (rw c.in-Err.is at c.in_ok-text.ensures.ends)

pub returns-clause-answers : goal.returns-clause-answers
returns-clause-answers g c =
    run_answered (g.F.Files.content c.args.files.now) c.args.module.now c.args.input.now c.args.budget (g.F.Files.content c.read_file.new.files) _ _ _ c.in-Ok.text c.in_ok-loaded.loaded _
    c.in_ok-text.ensures.content (rw c.in-Ok.is at c.in_ok-text.ensures.ends) (rw c.as_slice.ensures at c.in_ok-loaded.ensures) c.run_loaded.ensures.answers
