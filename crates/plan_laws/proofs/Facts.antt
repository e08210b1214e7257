-- What is known of a loop that is planned.
use Rattle.std.proofs.Common.{◌≡◌, ℕ, Bool, true, false, List, Option, Some, None, refl, subst}
use Rattle.std.specs.Prelude.{Result, Ok, Err, if◌then◌else◌}
use Rattle.pv_base.specs.declared.place.AllocSite.{AllocSite}
use Rattle.ir_tree.specs.declared.plans.Expect.{Expect}
use Rattle.ir_rules.specs.Seen.{ModuleV}
use Rattle.profile_lines.specs.declared.profile.ProfileLoop.{ProfileLoop}
use Rattle.loop_plan.specs.declared.plan.Region.{Region}
use Rattle.loop_plan.specs.declared.plan.LoopPlan.{LoopPlan}
use Rattle.loop_plan.specs.declared.plan.Reason.{Reason}
use Rattle.loop_plan.specs.declared.plan.Reason.TheVariants as reason
use Rattle.loop_plan.specs.Heaps.{tags, expected, ordered_guesses, scratch, unrestricted, mixed, guesses_fit}
use Rattle.loop_plan.specs.Plans.{region_of, loop_plan, in_region, restricted, unmixed, otherwise, guessed, compatible}

-- a loop that is planned behind these
pub record Planned (v : ModuleV) (earlier : List LoopPlan) (number : ℕ) (l : ProfileLoop) (p : LoopPlan) : Type 0 where
  pub number_is : p.number ≡ number
  pub tags_are : p.tags ≡ tags v l
  pub expected_are : p.expected ≡ expected v l
  pub guesses_are : p.guesses ≡ ordered_guesses v l
  pub restricted : unrestricted v l ≡ None
  pub unmixed : mixed v l ≡ None
  pub agrees : otherwise v earlier (tags v l) ≡ None
  pub fit : guesses_fit v l ≡ true

module _ (v : ModuleV) (earlier : List LoopPlan) (number : ℕ) (l : ProfileLoop) (p : LoopPlan) where
  abbrev plan_in : Region → LoopPlan
  plan_in region = record {
    number = number;
    period = l.period;
    region = region;
    tags = tags v l;
    expected = expected v l;
    guesses = ordered_guesses v l;
    scratch = scratch v l;
  }

  fitting : (region : Region) → unrestricted v l ≡ None → mixed v l ≡ None → otherwise v earlier (tags v l) ≡ None → (b : Bool) → guesses_fit v l ≡ b → (if b then Ok (plan_in region) else Err reason.Guess) ≡ Ok p → Planned v earlier number l p
  fitting region u m o false fit e = absurd cc
  fitting region u m o true fit e =
      let own : plan_in region ≡ p = cc in
      subst (Planned v earlier number l) own (record { number_is = refl; tags_are = refl; expected_are = refl; guesses_are = refl; restricted = u; unmixed = m; agrees = o; fit = fit })

  agreeing : (region : Region) → unrestricted v l ≡ None → mixed v l ≡ None → (o : Option AllocSite) → otherwise v earlier (tags v l) ≡ o → guessed v l (compatible v (plan_in region) o) ≡ Ok p → Planned v earlier number l p
  agreeing region u m (Some a) is e = absurd cc
  agreeing region u m None is e = fitting region u m is (guesses_fit v l) refl e

  mixing : (region : Region) → unrestricted v l ≡ None → (o : Option Expect) → mixed v l ≡ o → unmixed v earlier l (plan_in region) o ≡ Ok p → Planned v earlier number l p
  mixing region u (Some x) is e = absurd cc
  mixing region u None is e = agreeing region u is (otherwise v earlier (tags v l)) refl e

  restricting : (region : Region) → (o : Option AllocSite) → unrestricted v l ≡ o → restricted v earlier l (plan_in region) o ≡ Ok p → Planned v earlier number l p
  restricting region (Some a) is e = absurd cc
  restricting region None is e = mixing region is (mixed v l) refl e

  by_region : (o : Result Region Reason) → in_region v earlier number l o ≡ Ok p → Planned v earlier number l p
  by_region (Err r) e = absurd cc
  by_region (Ok region) e = restricting region (unrestricted v l) refl e

  pub facts : loop_plan v earlier number l ≡ Ok p → Planned v earlier number l p
  unfolding loop_plan
  facts e = by_region (region_of v l) e
