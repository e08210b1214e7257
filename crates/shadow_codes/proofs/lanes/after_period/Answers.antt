use Rattle.std.proofs.Common.{ℕ, List, sym, ◌∙◌, cond, eqb, replicate}
use Rattle.std.proofs.lemmas.Simd.{splat_is_map}
use Rattle.std.proofs.lemmas.List.{map-id}
use Rattle.shadow_codes.specs.Codes.{reset_code}
use Rattle.shadow_codes.proofs.Blocks.{chosen, same_lanes, next_lane}
use Rattle.shadow_codes.proofs.lanes.after_period.Goals as goal

pub returns : goal.returns
returns c =
    let vs : List ℕ = c.args.lanes in
    let zeros : List ℕ = replicate 32 0 in
    let ones : List ℕ = replicate 32 1 in
    let as_zeros = splat_is_map vs 32 0 c.fits-lanes.0 in
    let as_ones = splat_is_map vs 32 1 c.fits-lanes.0 in
    let unread = chosen 32 2 (λ v. v) (λ _. 0) (λ v. v) vs vs zeros vs c.fits-lanes.0 (sym (map-id vs)) as_zeros (sym (map-id vs)) in
    chosen 32 0 (λ v. cond (eqb v 2) 0 v) (λ _. 0) (λ _. 1) vs _ zeros ones c.fits-lanes.0 unread as_zeros as_ones
    ∙ same_lanes (λ v. cond (eqb (cond (eqb v 2) 0 v) 0) 0 1) reset_code vs next_lane
