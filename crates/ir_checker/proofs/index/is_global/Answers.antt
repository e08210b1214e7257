use Rattle.std.proofs.Common.{sym, ◌∙◌}
use Rattle.ir_checker.proofs.IndexLemmas.{global_is}
use Rattle.ir_checker.proofs.index.is_global.Goals as goal

pub returns : goal.returns
returns c = c.either_of.ensures ∙ rw (c.has-variable.ensures, c.has-function.ensures, c.key_of-key.ensures, c.names.ensures) (sym (global_is c.args.tree.now c.args.index.now c.requires c.args.name))
