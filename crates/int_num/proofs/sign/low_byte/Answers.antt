use Rattle.std.proofs.Common.{◌%◌, ◌∙◌, ap}
use Rattle.std.proofs.Math.Nat.{mod-eq_of_lt}
use Rattle.int_num.proofs.sign.low_byte.Goals as goal

pub returns-clause-whole : goal.returns-clause-whole
returns-clause-whole c = λ w. ap (λ n. n % 256) c.bits.ensures.value ∙ mod-eq_of_lt (rw w at c.bits.ensures.range.bits)
