-- Each loop of a profile has one answer.
use Rattle.std.proofs.Common.{◌≡◌, ℕ, suc, ◌+◌, List, [], ◌∷◌, ◌++◌, length, refl, arith}
use Rattle.std.specs.Prelude.{Result, Ok, Err}
use Rattle.ir_rules.specs.Seen.{ModuleV}
use Rattle.profile_lines.specs.declared.profile.ProfileLoop.{ProfileLoop}
use Rattle.loop_plan.specs.declared.plan.LoopPlan.{LoopPlan}
use Rattle.loop_plan.specs.declared.plan.Plan.{Plan}
use Rattle.loop_plan.specs.declared.plan.Reason.{Reason}
use Rattle.loop_plan.specs.Plans.{loop_plan, plan_from, plan_of, planned, with_answer}
use Rattle.loop_plan.specs.Laws.{EachIsPlannedOrLeftOut}

abbrev count : Plan → ℕ
count p = length p.loops + length p.left_out

counted : (number : ℕ) (answer : Result LoopPlan Reason) (rest : Plan) → count (with_answer number answer rest) ≡ suc (count rest)
counted number (Ok p) rest = omega arith
counted number (Err r) rest = omega arith

each : (v : ModuleV) (earlier : List LoopPlan) (number : ℕ) (ls : List ProfileLoop) → count (plan_from v earlier number ls) ≡ length ls
each v earlier number [] = refl
each v earlier number (l ∷ ls) =
    let answer = loop_plan v earlier number l in
    let now = counted number answer (plan_from v (earlier ++ planned answer) (suc number) ls) in
    let later = each v (earlier ++ planned answer) (suc number) ls in
    omega (arith, now, later)

pub each_is_counted : EachIsPlannedOrLeftOut
unfolding plan_of
each_is_counted v q = each v [] 0 q.loops
