use Rattle.std.proofs.Common.{arith}
use Rattle.int_num.proofs.Powers.{Powers, powers}
use Rattle.int_num.proofs.reduce.identity.Goals as goal

pub new-requires-in-Mul-clause-bits : goal.new-requires-in-Mul-clause-bits
new-requires-in-Mul-clause-bits c = let p : Powers c.args.width = powers c.args.width c.requires in omega arith

pub new-requires-in-Smax-clause-bits : goal.new-requires-in-Smax-clause-bits
new-requires-in-Smax-clause-bits c = let p : Powers c.args.width = powers c.args.width c.requires in omega arith

pub new-requires-in-Smin-clause-bits : goal.new-requires-in-Smin-clause-bits
new-requires-in-Smin-clause-bits c = let p : Powers c.args.width = powers c.args.width c.requires in omega arith
