-- The edges of the rules, computed.
use Rattle.std.proofs.Common.{refl}
use Rattle.ir_rules.specs.Forms.{is_phi, result_of, uses, targets}
use Rattle.ir_rules.specs.Same.{same_constant}
use Rattle.loop_plan.specs.Plans.{region_of, loop_plan, plan_of}
use Rattle.worked_plans.specs.Reasons.{HeaderIsFirst, HeaderIsNotListed, EnteredFromOutside, NoLatch, TwoLatches, UnknownGoesFirst, UnknownSlot, BoundIsRegister, BoundIsInLoop, RightIsTested, HeaderIsLatch, ReadTwice, LoopsDisagree}

pub the_header_is_first : HeaderIsFirst
unfolding HeaderIsFirst plan_of loop_plan region_of is_phi result_of uses targets same_constant
the_header_is_first = refl

pub the_header_is_not_listed : HeaderIsNotListed
unfolding HeaderIsNotListed plan_of loop_plan region_of is_phi result_of uses targets same_constant
the_header_is_not_listed = refl

pub entered_from_outside : EnteredFromOutside
unfolding EnteredFromOutside plan_of loop_plan region_of is_phi result_of uses targets same_constant
entered_from_outside = refl

pub no_latch : NoLatch
unfolding NoLatch plan_of loop_plan region_of is_phi result_of uses targets same_constant
no_latch = refl

pub two_latches : TwoLatches
unfolding TwoLatches plan_of loop_plan region_of is_phi result_of uses targets same_constant
two_latches = refl

pub unknown_goes_first : UnknownGoesFirst
unfolding UnknownGoesFirst plan_of loop_plan region_of is_phi result_of uses targets same_constant
unknown_goes_first = refl

pub an_unknown_slot : UnknownSlot
unfolding UnknownSlot plan_of loop_plan region_of is_phi result_of uses targets same_constant
an_unknown_slot = refl

pub a_bound_is_a_register : BoundIsRegister
unfolding BoundIsRegister plan_of loop_plan region_of is_phi result_of uses targets same_constant
a_bound_is_a_register = refl

pub a_bound_is_in_the_loop : BoundIsInLoop
unfolding BoundIsInLoop plan_of loop_plan region_of is_phi result_of uses targets same_constant
a_bound_is_in_the_loop = refl

pub the_right_is_tested : RightIsTested
unfolding RightIsTested plan_of loop_plan region_of is_phi result_of uses targets same_constant
the_right_is_tested = refl

pub the_header_is_the_latch : HeaderIsLatch
unfolding HeaderIsLatch plan_of loop_plan region_of is_phi result_of uses targets same_constant
the_header_is_the_latch = refl

pub a_phi_is_read_twice : ReadTwice
unfolding ReadTwice plan_of loop_plan region_of is_phi result_of uses targets same_constant
a_phi_is_read_twice = refl

pub loops_disagree : LoopsDisagree
unfolding LoopsDisagree plan_of loop_plan region_of is_phi result_of uses targets same_constant
loops_disagree = refl
