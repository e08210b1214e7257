use Rattle.std.proofs.lemmas.Nat.{xor_lt}
use Rattle.int_num.proofs.Powers.{bits_below}
use Rattle.int_num.proofs.bits.xor.Goals as goal

pub new-requires-clause-bits : goal.new-requires-clause-bits
new-requires-clause-bits c =
    rw (c.bits.ensures.value, c.bits-2.ensures.value, c.width.ensures.value)
    (xor_lt c.args.a.width c.args.a.bits c.args.b.bits c.bits.ensures.range.bits (bits_below c.args.a c.args.b c.requires c.bits-2.ensures.range))
