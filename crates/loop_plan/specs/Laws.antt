-- What a plan says of a whole profile.
use Rattle.std.specs.Prelude.{◌≡◌, ◌+◌, length, Ok}
use Rattle.ir_rules.specs.Seen.{ModuleV}
use Rattle.profile_lines.specs.declared.profile.ProfileLoop.{ProfileLoop}
use Rattle.profile_lines.specs.declared.profile.Profile.{Profile}
use Rattle.loop_plan.specs.declared.plan.Region.{Region}
use Rattle.loop_plan.specs.Plans.{region_of, plan_of}
use Rattle.loop_plan.specs.Promised.{IsRegion}

-- Each loop of a profile is planned or left out, and none is both.
abbrev pub EachIsPlannedOrLeftOut : Type 0
EachIsPlannedOrLeftOut = (v : ModuleV) (q : Profile) → length (plan_of v q).loops + length (plan_of v q).left_out ≡ length q.loops

-- The region of a loop keeps what it promises, whatever the profile says.
abbrev pub RegionsStand : Type 0
RegionsStand = (v : ModuleV) (l : ProfileLoop) (r : Region) → region_of v l ≡ Ok r → IsRegion v r
