use Rattle.std.proofs.Common.{ℕ, List, ◌-◌, take, drop, length, max, sym, ap, ◌∙◌, arith}
use Rattle.shadow_codes.specs.Codes.{greatest_of, stamps}
use Rattle.shadow_codes.proofs.Blocks.{rest_is, halves}
use Rattle.shadow_codes.proofs.Greatest.{greatest_both}
use Rattle.shadow_codes.proofs.codes.greatest.Goals as goal

pub returns : goal.returns
returns c =
    let whole : ℕ = c.lanes_of-whole.result in
    let codes : List ℕ = c.args.codes.now in
    let front = c.greatest_each-front.ensures ∙ c.greatest_in_lanes.ensures in
    let behind = c.greatest_each-behind.ensures ∙ ap (λ xs. greatest_of (stamps xs)) (rest_is whole (length codes - whole) codes (omega arith)) in
    c.max.ensures ∙ ap (λ n. max n c.greatest_each-behind.result) front ∙ ap (λ n. max (greatest_of (stamps (take whole codes))) n) behind
    ∙ sym (greatest_both (take whole codes) (drop whole codes)) ∙ ap (λ xs. greatest_of (stamps xs)) (halves whole codes)
