use Rattle.ir_rules.proofs.TypeLemmas.{name_read}
use Rattle.ir_rules.proofs.whole.name.Goals as goal

pub returns : goal.returns
returns c = name_read c.args.names.now c.args.number c.name.result c.name.ensures
