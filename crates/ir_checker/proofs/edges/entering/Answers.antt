use Rattle.std.proofs.Common.{◌∙◌}
use Rattle.ir_checker.proofs.EnterLemmas.{enter_is}
use Rattle.ir_checker.proofs.edges.entering.Goals as goal

pub returns : goal.returns
returns c = enter_is c.args.names.now c.args.function.now c.args.edges.now c.args.label c.in_ok-enter.enter c.requires (c.in_ok-enter.ensures ∙ (rw c.key_of-key.ensures at c.in_ok-list.ensures))
