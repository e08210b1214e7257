use Rattle.std.proofs.Common.{sym}
use Rattle.plain_commands.proofs.commands.run_loaded.Goals as goal

pub returns-in_ok-program-in-Accepted-clause-answers : goal.returns-in_ok-program-in-Accepted-clause-answers
returns-in_ok-program-in-Accepted-clause-answers g c = rw (c.in-Accepted.is, sym c.in_ok-program-in-Accepted.ensures) c.run_program.ensures.answers
