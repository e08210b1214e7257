-- The plan of a profile: each loop's region, tags, expected classes, guesses and triples, or the first reason that leaves it out.
use Rattle.std.specs.Prelude.{ℕ, suc, List, [], ◌∷◌, ◌++◌, find, Option, Some, None, option_map, slice_get, Result, Ok, Err, if◌then◌else◌}
use Rattle.std.specs.List.{flat_map}
use Rattle.pv_base.specs.declared.name.Name.{Name}
use Rattle.pv_base.specs.declared.place.AllocSite.{AllocSite}
use Rattle.ir_tree.specs.declared.plans.Expect.{Expect}
use Rattle.ir_tree.specs.declared.plans.Tag.{Tag}
use Rattle.ir_rules.specs.Seen.{ModuleV, FunctionV, BlockV, InstructionV}
use Rattle.profile_lines.specs.declared.profile.ProfileLoop.{ProfileLoop}
use Rattle.profile_lines.specs.declared.profile.Profile.{Profile}
use Rattle.loop_plan.specs.declared.plan.Region.{Region}
use Rattle.loop_plan.specs.declared.plan.PhiPlan.{PhiPlan}
use Rattle.loop_plan.specs.declared.plan.CountedTest.{CountedTest}
use Rattle.loop_plan.specs.declared.plan.LoopPlan.{LoopPlan}
use Rattle.loop_plan.specs.declared.plan.Plan.{Plan}
use Rattle.loop_plan.specs.declared.plan.Reason.{Reason}
use Rattle.loop_plan.specs.declared.plan.Reason.TheVariants as reason
use Rattle.loop_plan.specs.Naming.{name_of, function_named, block_named}
use Rattle.loop_plan.specs.Regions.{is_known, blocks_of, is_entered_by, latches, only}
use Rattle.loop_plan.specs.Phis.{phis_of, first_of, listed_instructions, phi_plans}
use Rattle.loop_plan.specs.Tests.{counters_of, counted_test}
use Rattle.loop_plan.specs.Heaps.{tags, expected, ordered_guesses, scratch, unrestricted, mixed, guesses_fit, tagged_otherwise}

-- ---- regions

-- a loop's header and latch, which have edges, and the blocks between
pub record Shape : Type 0 where
  pub function : ℕ
  pub header : ℕ
  pub latch : ℕ
  pub blocks : List ℕ

abbrev pub label_at : FunctionV → ℕ → Option Name
label_at f b = option_map (λ x. x.label) (slice_get f.blocks b)

-- over a function, its number, and a loop in it
module _ (f : FunctionV) (number : ℕ) (l : ProfileLoop) where
  abbrev pub region_with : Shape → List PhiPlan → Option CountedTest → Result Region Reason
  region_with s phis None = Err reason.Test
  region_with s phis (Some test) =
      Ok (record { function = number; header = s.header; latch = s.latch; blocks = s.blocks; phis = phis; test = test })

  abbrev pub with_phis : Shape → List InstructionV → Name → BlockV → Option (List PhiPlan) → Result Region Reason
  with_phis s inside latch header None = Err reason.Phi
  with_phis s inside latch header (Some phis) =
      region_with s phis (counted_test f s.blocks inside latch (counters_of phis (phis_of header)) s.header s.latch)

  abbrev pub with_parts : Shape → Option BlockV → Option Name → Result Region Reason
  with_parts s (Some header) (Some latch) =
      let inside = listed_instructions f s.blocks in
      with_phis s inside latch header (phi_plans f number inside latch l.phis (first_of f s.header) (phis_of header))
  with_parts s header latch = Err reason.Latch

  abbrev pub with_latch : ℕ → List ℕ → Option ℕ → Result Region Reason
  with_latch header blocks None = Err reason.Latch
  with_latch header blocks (Some latch) =
      with_parts (record { function = number; header = header; latch = latch; blocks = blocks }) (slice_get f.blocks header) (label_at f latch)

  abbrev pub with_header : List ℕ → Option ℕ → Result Region Reason
  with_header blocks None = Err reason.Unknown
  with_header blocks (Some header) = if is_entered_by f blocks header then with_latch header blocks (only (latches f blocks header)) else Err reason.Entry

  -- the region of a loop whose lines name what is there
  abbrev pub known_region : Result Region Reason
  known_region = with_header (blocks_of f l) (block_named f (name_of l.header))

module _ (v : ModuleV) where
  abbrev pub region_in : ProfileLoop → ℕ → Option FunctionV → Result Region Reason
  region_in l number None = Err reason.Unknown
  region_in l number (Some f) = if is_known v l f then known_region f number l else Err reason.Unknown

  abbrev pub region_at : ProfileLoop → Option ℕ → Result Region Reason
  region_at l None = Err reason.Unknown
  region_at l (Some number) = region_in l number (slice_get v.functions number)

  -- the region of a loop, or the first reason of Unknown, Entry, Latch, Phi and Test
  unfoldable pub region_of : ProfileLoop → Result Region Reason
  region_of l = region_at l (function_named v l.function)

  -- ---- plans

  abbrev pub compatible : LoopPlan → Option AllocSite → Result LoopPlan Reason
  compatible p (Some a) = Err (reason.Incompatible a)
  compatible p None = Ok p

  abbrev pub guessed : ProfileLoop → Result LoopPlan Reason → Result LoopPlan Reason
  guessed l (Err r) = Err r
  guessed l (Ok p) = if guesses_fit v l then Ok p else Err reason.Guess

  -- the least of a loop's sites that an earlier planned loop tags otherwise
  abbrev pub otherwise : List LoopPlan → List (AllocSite × Tag) → Option AllocSite
  otherwise earlier own = option_map (λ p. p.0) (find (tagged_otherwise (flat_map (λ p. p.tags) earlier)) own)

  abbrev pub unmixed : List LoopPlan → ProfileLoop → LoopPlan → Option Expect → Result LoopPlan Reason
  unmixed earlier l p (Some e) = Err (reason.Mixed e.at e.slot)
  unmixed earlier l p None = guessed l (compatible p (otherwise earlier p.tags))

  abbrev pub restricted : List LoopPlan → ProfileLoop → LoopPlan → Option AllocSite → Result LoopPlan Reason
  restricted earlier l p (Some a) = Err (reason.Unrestricted a)
  restricted earlier l p None = unmixed earlier l p (mixed v l)

  abbrev pub in_region : List LoopPlan → ℕ → ProfileLoop → Result Region Reason → Result LoopPlan Reason
  in_region earlier number l (Err r) = Err r
  in_region earlier number l (Ok region) =
      restricted earlier l (record {
        number = number;
        period = l.period;
        region = region;
        tags = tags v l;
        expected = expected v l;
        guesses = ordered_guesses v l;
        scratch = scratch v l;
      }) (unrestricted v l)

  -- the plan of a loop of this number behind the loops that are planned before it, or the first reason that leaves it out
  unfoldable pub loop_plan : List LoopPlan → ℕ → ProfileLoop → Result LoopPlan Reason
  loop_plan earlier number l = in_region earlier number l (region_of l)

abbrev pub nothing : Plan
nothing = record { loops = []; left_out = [] }

abbrev pub with_loop : LoopPlan → Plan → Plan
with_loop p rest = record { loops = p ∷ rest.loops; left_out = rest.left_out }

abbrev pub without : ℕ → Reason → Plan → Plan
without number r rest = record { loops = rest.loops; left_out = record { number = number; reason = r } ∷ rest.left_out }

-- the loop, where it is planned
abbrev pub planned : Result LoopPlan Reason → List LoopPlan
planned (Ok p) = p ∷ []
planned (Err r) = []

abbrev pub with_answer : ℕ → Result LoopPlan Reason → Plan → Plan
with_answer number (Ok p) rest = with_loop p rest
with_answer number (Err r) rest = without number r rest

-- the plan of loops of which the first has this number, behind those that are planned before it
abbrev pub plan_from : ModuleV → List LoopPlan → ℕ → List ProfileLoop → Plan
plan_from v earlier number [] = nothing
plan_from v earlier number (l ∷ ls) =
    let answer = loop_plan v earlier number l in
    with_answer number answer (plan_from v (earlier ++ planned answer) (suc number) ls)

-- the plan of a profile, its loops in order
unfoldable pub plan_of : ModuleV → Profile → Plan
plan_of v q = plan_from v [] 0 q.loops
