use Rattle.std.proofs.Common.{◌∙◌}
use Rattle.plain_commands.proofs.CommandLemmas.{ran_is}
use Rattle.plain_commands.proofs.commands.run_answer.Goals as goal

pub returns : goal.returns
returns c =
    c.new.ensures
    ∙ ran_is c.args.program.now c.module-2.result.now c.args.input.now c.args.budget c.status_of.result c.in_ok-outcome.outcome c.in_ok-report.report
    (rw c.module.ensures.value at c.tell_names.ensures) c.module.ensures.checked.well_formed.within
    c.in_ok-outcome.ensures.run c.status_of.ensures c.module-2.ensures.value c.in_ok-report.ensures
