use Rattle.std.proofs.Common.{◌*◌}
use Rattle.int_num.specs.Reductions.{reduce}
use Rattle.int_num.proofs.Residues.{mod_inner}
use Rattle.int_num.proofs.reduce.reduce.Goals as goal

pub returns-in-Mul : goal.returns-in-Mul
unfolding reduce
returns-in-Mul c =
    let m = mod_inner (c.bits-in-Mul.result * c.bits-in-Mul-2.result) c.width-in-Mul.result c.width-in-Mul.ensures.range.most in
    cc
