-- The end of a turn: the checks at the header, in order, and what a turn that passes leaves.
use Rattle.std.specs.Prelude.{ℕ, suc, ◌+◌, ◌-◌, nat_eq, Bool, false, ◌&&◌, List, [], ◌∷◌, length, Option, Some, None, Result, Ok, Err, if◌then◌else◌}
use Rattle.std.specs.List.{filter}
use Rattle.std.specs.Option.{option_or}
use Rattle.pv_base.specs.declared.place.Heap.TheVariants.{ShortLived}
use Rattle.pv_base.specs.declared.place.Site.{Site}
use Rattle.int_num.specs.Integer.{Integer}
use Rattle.ir_tree.specs.declared.plans.MemGuess.{MemGuess}
use Rattle.ir_code.specs.declared.code.Move.{Move}
use Rattle.loop_plan.specs.declared.plan.PhiPlan.{PhiPlan}
use Rattle.loop_plan.specs.Triples.{same_site}
use Rattle.mem_image.specs.declared.object.Object.{Object}
use Rattle.mem_image.specs.declared.fault.CheckKind.TheVariants.{Lifetime, Value as ValueCheck}
use Rattle.mem_image.specs.declared.fault.Kept.TheVariants.{Number}
use Rattle.mem_image.specs.Picture.{Picture}
use Rattle.seq_effects.specs.declared.state.Value.{Value}
use Rattle.seq_effects.specs.declared.state.Value.TheVariants.{Int, Pointer}
use Rattle.seq_effects.specs.Numbers.{same_pointer}
use Rattle.seq_machine.specs.Acts.{top}
use Rattle.seq_machine.specs.Step.{stands}
use Rattle.span_types.specs.declared.failure.FailSite.TheVariants.{At, Made, Guess}
use Rattle.span_types.specs.declared.failure.Failure.{Failure}
use Rattle.turn_rules.specs.Loops.{phi_moves, is_reduced, held}
use Rattle.turn_rules.specs.Spans.{phi_guess, missed}
use Rattle.turn_rules.specs.Marks.{Course, TurnDone, own_objects, is_class}
use Rattle.turn_rules.specs.Solo.{Solo, begun, failure, to_header}

-- ---- the checks at the header

-- the own objects that are alive though their site says that they die in their turn
abbrev pub left_alive : Course → Picture → List Object
left_alive c m = filter (is_class c.plan ShortLived) (own_objects c m)

abbrev pub lifetime : Course → List Object → Option Failure
lifetime c [] = None
lifetime c (o ∷ os) = Some (failure c Lifetime (Made o.site) (Number (suc (length os))))

abbrev pub same_value : Value → Value → Bool
same_value (Int m) (Int n) = nat_eq m.width n.width && nat_eq m.bits n.bits
same_value (Pointer p) (Pointer q) = same_pointer p q
same_value (Int m) (Pointer q) = false
same_value (Pointer p) (Int n) = false

abbrev pub are_same : Option Value → Option Value → Bool
are_same (Some a) (Some b) = same_value a b
are_same _ _ = false

abbrev pub joins_of : Site → List (Site × Integer) → List (Site × Integer)
joins_of phi operands = filter (λ x. same_site x.0 phi) operands

-- A phi holds its guess for the next turn; one that is reduced was joined with exactly one operand.
abbrev pub phi_stands : Course → Solo → PhiPlan × Move → Bool
phi_stands c s p =
    if is_reduced p.0 then nat_eq (length (joins_of p.0.phi s.phi_operands)) 1
    else are_same (held (top s.state.frames) p.1.register) (phi_guess c.span (c.turn + 1) p)

-- the first of them that does not
abbrev pub phi_missed : Course → Solo → List (PhiPlan × Move) → Option Failure
phi_missed c s [] = None
phi_missed c s (p ∷ ps) = if phi_stands c s p then phi_missed c s ps else Some (failure c ValueCheck (At p.0.phi) (Number 0))

abbrev pub missed_at : Course → MemGuess → Option ℕ → Option Failure
missed_at c g (Some offset) = Some (failure c ValueCheck (Guess g.global) (Number offset))
missed_at c g None = None

-- the first guess of bytes that does not stand again
abbrev pub bytes_missed : Course → Picture → List MemGuess → Option Failure
bytes_missed c m [] = None
bytes_missed c m (g ∷ gs) = option_or (missed_at c g (missed m g)) (bytes_missed c m gs)

-- the first check at the header that fails: lifetimes, then phis, then bytes
abbrev pub end_failure : Course → Solo → Option Failure
end_failure c s =
    option_or (lifetime c (left_alive c s.state.memory.picture))
    (option_or (phi_missed c s (phi_moves c.code c.plan.region)) (bytes_missed c s.state.memory.picture c.plan.guesses))

-- ---- a turn alone

abbrev pub done : Course → Solo → TurnDone
done c s = record {
  turn = c.turn;
  state = stands (λ m. m.picture) s.state;
  live_in = s.state.memory.live_in;
  written = s.state.memory.written;
  operands = s.operands;
  phi_operands = s.phi_operands;
  peak = s.state.memory.peak;
}

abbrev pub unless_failed : Course → Solo → Option Failure → Result TurnDone Failure
unless_failed c s (Some e) = Err e
unless_failed c s None = Ok (done c s)

abbrev pub ended : Course → Result Solo Failure → Result TurnDone Failure
ended c (Ok s) = unless_failed c s (end_failure c s)
ended c (Err e) = Err e

-- One turn from its view on: what it leaves, or the first check that it fails. It may take what the base left of the budget.
abbrev pub turn_alone : Course → Result TurnDone Failure
turn_alone c = ended c (to_header c (c.span.budget - c.span.base.steps) (begun c))
