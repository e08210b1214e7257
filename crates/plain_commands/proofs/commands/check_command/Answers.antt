use Rattle.plain_commands.proofs.CommandLemmas.{check_refused, check_answered}
use Rattle.plain_commands.proofs.commands.check_command.Goals as goal

pub returns-in-Err-clause-answers : goal.returns-in-Err-clause-answers
returns-in-Err-clause-answers g c =
    check_refused (g.F.Files.content c.args.files.now) c.args.module.now _ _ c.in-Err.answer (rw c.in-Err.is at c.in_ok-text.ensures.ends)

pub returns-clause-answers : goal.returns-clause-answers
returns-clause-answers g c =
    check_answered (g.F.Files.content c.args.files.now) c.args.module.now _ _ c.in-Ok.text c.in_ok-loaded.loaded _
    (rw c.in-Ok.is at c.in_ok-text.ensures.ends) (rw c.as_slice.ensures at c.in_ok-loaded.ensures) c.check_loaded.ensures
