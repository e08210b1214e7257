use Rattle.std.proofs.Common.{◌-◌, ◌%◌, ◌^◌, ◌∙◌, ap, arith, bit_and}
use Rattle.std.proofs.lemmas.Nat.{and_mask, one_shl}
use Rattle.int_num.proofs.shifts.lost.Goals as goal

pub returns : goal.returns
returns c =
    let w = c.bits.ensures.range.width.most in
    let e = one_shl c.args.count 64 (let l = c.requires in omega arith) in
    ap (λ m. bit_and c.bits.result (m - 1)) e ∙ and_mask c.bits.result c.args.count ∙ ap (λ n. n % 2 ^ c.args.count) c.bits.ensures.value
