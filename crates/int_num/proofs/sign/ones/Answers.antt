use Rattle.int_num.proofs.Powers.{ones_of}
use Rattle.int_num.proofs.sign.ones.Goals as goal

pub returns : goal.returns
returns c = ones_of c.args.width c.requires
