use Rattle.std.proofs.Common.{◌∙◌, ap, bit_and}
use Rattle.std.proofs.lemmas.Nat.{and_mask}
use Rattle.int_num.specs.Operations.{of_bits}
use Rattle.int_num.proofs.sign.low.Goals as goal

pub returns : goal.returns
returns c = c.new.ensures ∙ ap (λ m. of_bits c.args.width (bit_and c.args.bits m)) c.ones.ensures ∙ ap (of_bits c.args.width) (and_mask c.args.bits c.args.width)
