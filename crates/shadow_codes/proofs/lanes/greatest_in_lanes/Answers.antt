use Rattle.std.proofs.Common.{ℕ, List, ◌≡◌, ◌*◌, ◌+◌, sym, ap, ◌∙◌, ltb, length, arith, w16}
use lib.Lanes.{chunk, zip2, sel_l}
use Rattle.std.proofs.lemmas.Simd.{length-chunk, length-zip2, length-sel_l, tops_compared}
use Rattle.shadow_codes.specs.Codes.{greatest_of, stamps}
use Rattle.shadow_codes.proofs.Greatest.{greatest_block}
use Rattle.shadow_codes.proofs.lanes.greatest_in_lanes.Goals as goal

pub loop-block-preserved : goal.loop-block-preserved
loop-block-preserved c =
    let most : List ℕ = c.loop-block.most in
    let codes : List ℕ = c.args.codes.now in
    let at : ℕ = 32 * c.loop-block.block in
    let block : List ℕ = chunk at 32 codes in
    let long : length block ≡ 32 = length-chunk at 32 codes (omega arith) in
    let before : length most ≡ 32 = c.loop-block.invariant.0 in
    let wide = length-zip2 ltb most block (before ∙ sym long) in
    let is = ap (λ ms. sel_l ms block most) (tops_compared w16 ltb most block) in (
      ap length is ∙ length-sel_l (zip2 ltb most block) block most (wide ∙ before ∙ sym long) wide ∙ wide ∙ before,
      ap (λ xs. greatest_of (stamps xs)) is ∙ greatest_block at 32 (32 * (c.loop-block.block + 1)) codes most (omega arith) (before ∙ sym long) c.loop-block.invariant.1,
    )
