-- The worked plans, computed.
use Rattle.std.proofs.Common.{refl}
use Rattle.ir_rules.specs.Forms.{is_phi, result_of, uses, targets}
use Rattle.ir_rules.specs.Same.{same_constant}
use Rattle.seq_calls.specs.Names.{known, named, width_of, width_behind, extreme}
use Rattle.loop_plan.specs.Plans.{region_of, loop_plan, plan_of}
use Rattle.loop_plan.specs.Lines.{lines_of}
use Rattle.worked_plans.specs.Plans.{CounterIsPrivate, CounterHasLines, CounterIsReduction, CounterWithoutTest, CounterWithoutPhi, CounterFlows, CounterUnknown, SumIsReduced, ListIsBuiltInTurns, ListFlows, ListGuessLeaves, ListGuessesOverlap, ListIsMixed}

pub counter_is_private : CounterIsPrivate
unfolding CounterIsPrivate plan_of loop_plan region_of is_phi result_of uses targets same_constant
counter_is_private = refl

pub counter_has_lines : CounterHasLines
unfolding CounterHasLines lines_of plan_of loop_plan region_of is_phi result_of uses targets same_constant
counter_has_lines = refl

pub counter_is_reduction : CounterIsReduction
unfolding CounterIsReduction plan_of loop_plan region_of is_phi result_of uses targets same_constant
counter_is_reduction = refl

pub counter_without_test : CounterWithoutTest
unfolding CounterWithoutTest plan_of loop_plan region_of is_phi result_of uses targets same_constant
counter_without_test = refl

pub counter_without_phi : CounterWithoutPhi
unfolding CounterWithoutPhi plan_of loop_plan region_of is_phi result_of uses targets same_constant
counter_without_phi = refl

pub counter_flows : CounterFlows
unfolding CounterFlows plan_of loop_plan region_of is_phi result_of uses targets same_constant
counter_flows = refl

pub counter_unknown : CounterUnknown
unfolding CounterUnknown plan_of loop_plan region_of is_phi result_of uses targets same_constant
counter_unknown = refl

pub sum_is_reduced : SumIsReduced
unfolding SumIsReduced plan_of loop_plan region_of is_phi result_of uses targets same_constant
sum_is_reduced = refl

pub list_is_built : ListIsBuiltInTurns
unfolding ListIsBuiltInTurns plan_of loop_plan region_of is_phi result_of uses targets same_constant known named width_of width_behind extreme
list_is_built = refl

pub list_flows : ListFlows
unfolding ListFlows plan_of loop_plan region_of is_phi result_of uses targets same_constant known named width_of width_behind extreme
list_flows = refl

pub list_guess_leaves : ListGuessLeaves
unfolding ListGuessLeaves plan_of loop_plan region_of is_phi result_of uses targets same_constant known named width_of width_behind extreme
list_guess_leaves = refl

pub list_guesses_overlap : ListGuessesOverlap
unfolding ListGuessesOverlap plan_of loop_plan region_of is_phi result_of uses targets same_constant known named width_of width_behind extreme
list_guesses_overlap = refl

pub list_is_mixed : ListIsMixed
unfolding ListIsMixed plan_of loop_plan region_of is_phi result_of uses targets same_constant known named width_of width_behind extreme
list_is_mixed = refl
