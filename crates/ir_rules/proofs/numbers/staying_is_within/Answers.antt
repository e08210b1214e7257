use Rattle.ir_rules.proofs.NumberingLemmas.{module_within}
use Rattle.ir_rules.proofs.numbers.staying_is_within.Goals as goal

pub returns : goal.returns
returns c = module_within
