-- How many turns follow at a state of the machine, by the loop's counted test.
use Rattle.std.specs.Prelude.{ℕ, ◌*◌, find, Option, Some, None, option_and_then}
use Rattle.int_num.specs.Integer.{Integer}
use Rattle.int_num.specs.Operations.{modulo}
use Rattle.ir_code.specs.declared.code.Code.{Code}
use Rattle.loop_plan.specs.declared.plan.Bound.{Bound}
use Rattle.loop_plan.specs.declared.plan.Bound.TheVariants.{Const, Register}
use Rattle.loop_plan.specs.declared.plan.LoopPlan.{LoopPlan}
use Rattle.loop_plan.specs.Triples.{same_site}
use Rattle.turn_count.specs.declared.test.Test.{Test}
use Rattle.turn_count.specs.Turns.{turns}
use Rattle.seq_effects.specs.declared.state.Value.{Value}
use Rattle.seq_effects.specs.declared.state.Value.TheVariants.{Int, Pointer}
use Rattle.seq_effects.specs.declared.state.Frame.{Frame}
use Rattle.seq_machine.specs.declared.state.State.{State}
use Rattle.seq_machine.specs.Acts.{top}
use Rattle.turn_rules.specs.Loops.{phi_moves, held}

abbrev pub test_of : LoopPlan → ℕ → Test
test_of l width = record {
  pred = l.region.test.pred;
  tested_left = l.region.test.tested_left;
  into_on = l.region.test.into_on;
  latch_value = l.region.test.latch_value;
  step = modulo width l.region.test.step;
}

abbrev pub number_in : Option Value → Option Integer
number_in (Some (Int n)) = Some n
number_in (Some (Pointer p)) = None
number_in None = None

-- what the counter holds in a frame, and what the bound is there
abbrev pub counter_in : Code → LoopPlan → Option Frame → Option Integer
counter_in code l f = option_and_then (λ p. number_in (held f p.1.register)) (find (λ p. same_site p.0.phi l.region.test.phi) (phi_moves code l.region))

abbrev pub bound_in : Bound → Option Frame → Option Integer
bound_in (Const n) f = Some n
bound_in (Register r) f = number_in (held f r)

abbrev pub turns_of : LoopPlan → ℕ → Option Integer → Option Integer → ℕ
turns_of l cap (Some first) (Some bound) = turns (test_of l first.width) first bound cap
turns_of l cap (Some first) None = 0
turns_of l cap None bound = 0

-- The turn count at a state, for periods of this length: at most sixteen periods, and 0 where the bound is not set.
abbrev pub turn_count : {M : Type 0} → Code → LoopPlan → ℕ → State M → ℕ
turn_count code l period s = turns_of l (16 * period) (counter_in code l (top s.frames)) (bound_in l.region.test.bound (top s.frames))
