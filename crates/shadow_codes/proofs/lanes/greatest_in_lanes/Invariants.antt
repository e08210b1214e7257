use Rattle.std.proofs.Common.{◌≡◌, ◌*◌, take, length}
use Rattle.shadow_codes.specs.Codes.{greatest_of, stamps}
use Rattle.shadow_codes.proofs.lanes.greatest_in_lanes.Given as goal

abbrev pub invariant-loop-block : goal.invariant-loop-block
invariant-loop-block l = (length l.most ≡ 32) × (greatest_of (stamps l.most) ≡ greatest_of (stamps (take (32 * l.block) l.codes)))
