use Rattle.plain_commands.proofs.CommandLemmas.{checks_is}
use Rattle.plain_commands.proofs.commands.check_loaded.Goals as goal

pub returns-in_ok-out-in-Accepted : goal.returns-in_ok-out-in-Accepted
returns-in_ok-out-in-Accepted c =
    rw c.new-in-Accepted.ensures
    (checks_is c.args.loaded c.in-Accepted.checked c.module.result.now c.in_ok-out-in-Accepted.out c.new.result c.in-Accepted.is c.module.ensures.value c.in_ok-out-in-Accepted.ensures c.new.ensures)
