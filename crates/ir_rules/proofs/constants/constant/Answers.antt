use Rattle.ir_rules.proofs.ConstantLemmas.{constant_is}
use Rattle.ir_rules.proofs.constants.constant.Goals as goal

pub returns : goal.returns
returns c = constant_is c.args.names.now c.args.number _ c.constant_node.ensures
