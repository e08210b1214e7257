use Rattle.std.proofs.Common.{arith}
use Rattle.int_num.proofs.Powers.{bits_below}
use Rattle.int_num.proofs.Residues.{residue_up, residue_down}
use Rattle.int_num.proofs.arithmetic.difference.Goals as goal

pub returns-then-bits : goal.returns-then-bits
returns-then-bits c =
    let e = residue_up c.args.a.width c.args.a.bits c.args.b.bits (omega arith) c.bits-then-bits.ensures.range.bits in
    cc

pub returns-else-bits : goal.returns-else-bits
returns-else-bits c =
    let e = residue_down c.args.a.width c.args.a.bits c.args.b.bits (omega arith) (bits_below c.args.a c.args.b c.requires c.bits.ensures.range) in
    cc
