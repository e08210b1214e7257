use Rattle.std.proofs.Common.{ℕ, List, ◌-◌, ◌≤◌, map, take, drop, length, ap, ◌∙◌, arith}
use borrow.Rule.Slice.PartMut.{put_mid}
use Rattle.shadow_codes.specs.Codes.{reset_code}
use Rattle.shadow_codes.proofs.Blocks.{put_rest}
use Rattle.shadow_codes.proofs.codes.reset.Goals as goal

pub returns : goal.returns
returns c =
    let whole : ℕ = c.lanes_of-whole.result in
    let front : List ℕ = c.reset_lanes.new.codes in
    let left : ℕ = length front - whole in
    let within : whole ≤ length c.args.codes.now = omega arith in
    ap (put_mid whole left front) c.reset_each.ensures
    ∙ ap (λ (xs : List ℕ). put_mid whole left xs (map reset_code (take left (drop whole xs)))) c.reset_lanes.ensures
    ∙ put_rest reset_code whole left c.args.codes.now within (omega arith)
