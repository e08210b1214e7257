use Rattle.pv_base.specs.declared.name.Name.TheVariants.{Numbered}
use Rattle.ir_code.proofs.Nodes.{past_end}
use Rattle.ir_code.proofs.made.linkage_of.Goals as goal

pub returns-in-None : goal.returns-in-None
returns-in-None c = rw (c.if-not-function.false, past_end c.args.names.now.names c.args.function.now.name (Numbered 0) c.in-None.ensures)
