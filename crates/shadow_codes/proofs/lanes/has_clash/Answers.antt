use Rattle.std.proofs.Common.{ℕ, List, ◌≡◌, sym, ap, subst, ◌∙◌, eqb, length, map, replicate, arith, w16}
use lib.Lanes.{chunk, zip2, sel_l, mask_l}
use Rattle.std.proofs.lemmas.Simd.{length-chunk, length-zip2, tops_compared, bitmask_splat}
use Rattle.shadow_codes.specs.Codes.{reset_code}
use Rattle.shadow_codes.proofs.Clashes.{hit, hits_are, no_hit, no_bits}
use Rattle.shadow_codes.proofs.lanes.has_clash.Goals as goal

pub returns : goal.returns
returns c = λ none.
    let reads : List ℕ = chunk c.args.at 32 c.args.reads.now in
    let writes : List ℕ = chunk c.args.at 32 c.args.writes.now in
    let long : length reads ≡ 32 = length-chunk c.args.at 32 c.args.reads.now c.requires.of_reads in
    let also : length writes ≡ 32 = length-chunk c.args.at 32 c.args.writes.now c.requires.of_writes in
    let twos : List ℕ = replicate 32 2 in
    let zeros : List ℕ = replicate 32 0 in
    let hits =
    ap (λ ms. sel_l ms c.after_period-written.result zeros) (tops_compared w16 eqb reads twos)
    ∙ ap (λ ws. sel_l (zip2 eqb reads twos) ws zeros) c.after_period-written.ensures
    ∙ subst (λ n. sel_l (zip2 eqb reads (replicate n 2)) (map reset_code writes) (replicate n 0) ≡ zip2 hit reads writes) long (hits_are reads writes) in
    let width = ap length hits ∙ length-zip2 hit reads writes (long ∙ sym also) ∙ long in
    no_hit reads writes (ap (λ xs. mask_l (map (λ x. eqb x 1) xs)) (sym hits) ∙ sym (bitmask_splat w16 eqb _ 32 1 width (omega arith)) ∙ no_bits _ none)
