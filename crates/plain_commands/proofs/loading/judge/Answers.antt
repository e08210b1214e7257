use Rattle.std.proofs.Common.{sym, ◌∙◌}
use Rattle.plain_commands.proofs.LoadLemmas.{refusal_is}
use Rattle.plain_commands.proofs.loading.judge.Goals as goal

pub returns-in-Some : goal.returns-in-Some
returns-in-Some c = refusal_is c.args.tree c.in-Some.fault c.in_ok-line.line c.in_ok-line.ensures (sym c.in-Some.is ∙ c.in_ok-fault.ensures)
