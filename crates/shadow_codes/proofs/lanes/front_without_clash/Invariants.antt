use Rattle.std.proofs.Common.{◌≡◌, ◌*◌, take, None}
use Rattle.shadow_codes.specs.Codes.{first_clash_of}
use Rattle.shadow_codes.proofs.lanes.front_without_clash.Given as goal

abbrev pub invariant-loop-block : goal.invariant-loop-block
invariant-loop-block l = first_clash_of (take (32 * l.block) l.reads) (take (32 * l.block) l.writes) ≡ None
