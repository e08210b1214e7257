-- Spans: which turn is whose, what is guessed for a turn, and which spans are lawful.
use Rattle.std.specs.Prelude.{ℕ, ◌+◌, ◌-◌, ◌*◌, ◌/◌, ◌%◌, ◌<◌, ◌≤◌, ◌≡◌, nat_eq, Bool, true, false, pos, ◌+ℤ◌, ◌*ℤ◌, ℤ, min, List, [], ◌∷◌, Option, Some, None, option_map, option_and_then, slice_get, if◌then◌else◌}
use Rattle.std.specs.List.{filter_map, list_all}
use Rattle.int_num.specs.Operations.{modulo}
use Rattle.pv_base.specs.declared.place.Place.{Place}
use Rattle.ir_tree.specs.Modules.{Items}
use Rattle.ir_tree.specs.declared.plans.MemGuess.{MemGuess}
use Rattle.ir_rules.specs.Seen.{seen}
use Rattle.ir_code.specs.declared.code.Move.{Move}
use Rattle.ir_code.specs.declared.code.Code.{Code}
use Rattle.ir_code.specs.Coding.{code_of}
use Rattle.ir_bytes.specs.Initial.{first_picture}
use Rattle.mem_image.specs.declared.object.Byte.{Byte}
use Rattle.mem_image.specs.declared.object.Byte.TheVariants.{Num, Unset, Ptr}
use Rattle.mem_image.specs.Picture.{Picture}
use Rattle.mem_image.specs.Lookups.{peek}
use Rattle.profile_lines.specs.declared.profile.Profile.{Profile}
use Rattle.loop_plan.specs.declared.plan.PhiGuess.{PhiGuess}
use Rattle.loop_plan.specs.declared.plan.PhiGuess.TheVariants.{Step, Same, Reduce}
use Rattle.loop_plan.specs.declared.plan.PhiPlan.{PhiPlan}
use Rattle.loop_plan.specs.declared.plan.LoopPlan.{LoopPlan}
use Rattle.loop_plan.specs.Plans.{plan_of}
use Rattle.seq_effects.specs.declared.state.Value.{Value}
use Rattle.seq_effects.specs.declared.state.Value.TheVariants.{Int, Pointer}
use Rattle.seq_machine.specs.Acts.{top}
use Rattle.seq_machine.specs.Step.{StateOf}
use Rattle.keeping_laws.specs.Keeping.{Keeps}
use Rattle.global_laws.specs.Globals.{KeepsGlobals}
use Rattle.turn_laws.specs.Turns.{Loop, IsAtHeader}
use Rattle.span_types.specs.declared.span.Span.{Span}
use Rattle.turn_rules.specs.Loops.{phi_moves, held}
use Rattle.turn_rules.specs.Counts.{turn_count}

-- ---- whose a turn is

-- the worker that takes the turn
abbrev pub worker_of : Span → ℕ → ℕ
worker_of s k = k % s.workers

-- the first turn of a period, and the first behind it
abbrev pub first_turn : Span → ℕ → ℕ
first_turn s p = s.period * p

abbrev pub behind : Span → ℕ → ℕ
behind s p = min s.turns (s.period * (p + 1))

-- the first turn of the period of a turn
abbrev pub period_start : Span → ℕ → ℕ
period_start s k = s.period * (k / s.period)

-- how many periods there are; the last one may be shorter
abbrev pub periods : Span → ℕ
periods s = (s.turns + s.period - 1) / s.period

-- ---- guesses

-- what a phi that held v at first holds in turn k
abbrev pub guess_from : PhiGuess → Value → ℕ → Option Value
guess_from (Step s) (Int n) k = Some (Int (modulo n.width (pos n.bits +ℤ pos k *ℤ s)))
guess_from (Step s) (Pointer p) k = None
guess_from Same v k = Some v
guess_from (Reduce o kind) v k = None

abbrev pub phi_guess : Span → ℕ → PhiPlan × Move → Option Value
phi_guess s k p = option_and_then (λ v. guess_from p.0.guess v k) (held (top s.base.frames) p.1.register)

-- the registers of the header's phis that have a guess, each with its guess for turn k
abbrev pub phi_guesses : Code → LoopPlan → Span → ℕ → List (ℕ × Value)
phi_guesses code l s k = filter_map (λ p. option_map (λ v. (p.1.register, v)) (phi_guess s k p)) (phi_moves code l.region)

abbrev pub is_number : ℕ → Byte → Bool
is_number n (Num b) = nat_eq b n
is_number n Unset = false
is_number n (Ptr part p) = false

-- the offset of the first byte of a guess, of which these are left from that offset on, that does not stand
abbrev pub missed_from : Picture → ℕ → ℕ → List ℕ → Option ℕ
missed_from m name offset [] = None
missed_from m name offset (b ∷ bs) = if is_number b (peek m.objects name offset) then missed_from m name (offset + 1) bs else Some offset

abbrev pub missed : Picture → MemGuess → Option ℕ
missed m g = missed_from m g.global g.offset g.bytes

abbrev pub stands_in : Picture → MemGuess → Bool
stands_in m g = elim (missed m g) [ Some offset ↦ false | None ↦ true ]

-- the bytes of a guess, each with its place
abbrev pub guessed_from : ℕ → ℕ → List ℕ → List (Place × Byte)
guessed_from name offset [] = []
guessed_from name offset (b ∷ bs) = (record { name = name; offset = offset }, Num b) ∷ guessed_from name (offset + 1) bs

abbrev pub guessed : MemGuess → List (Place × Byte)
guessed g = guessed_from g.global g.offset g.bytes

-- ---- lawful spans

abbrev pub loop_of : LoopPlan → Loop
loop_of l = record { header = record { function = l.region.function; block = l.region.header }; blocks = l.region.blocks }

-- The span is one of a planned loop of the module: its base is a state that the module's program may come to, which stands at the
-- loop's header with all phis set, at least two turns follow, and the guesses stand there.
pub record IsLawful (m : Items) (q : Profile) (l : LoopPlan) (s : Span) : Type 0 where
  pub number : s.loop_number ≡ l.number
  pub place : ℕ
  pub planned : slice_get (plan_of (seen m) q).loops place ≡ Some l
  pub state : StateOf (code_of m) s.base
  pub names : Keeps s.base
  pub globals : KeepsGlobals (first_picture m) s.base.memory
  pub unspent : s.base.steps < s.budget
  pub header : IsAtHeader (code_of m) (loop_of l) s.base
  pub phis : list_all (λ p. elim (held (top s.base.frames) p.1.register) [ Some v ↦ true | None ↦ false ]) (phi_moves (code_of m) l.region) ≡ true
  pub guesses : list_all (stands_in s.base.memory) l.guesses ≡ true
  pub turns : (s.turns ≡ turn_count (code_of m) l s.period s.base) × (2 ≤ s.turns)
  pub period : (1 ≤ s.period) × (s.period ≤ 65533)
  pub workers : (1 ≤ s.workers) × (s.workers ≤ 16)
  pub budget : (1 ≤ s.budget) × (s.budget ≤ 1000000000000)
