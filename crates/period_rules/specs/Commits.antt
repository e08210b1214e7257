-- The commit of a period: its turns, one after another, laid over the state before it, with exact names.
use Rattle.std.specs.Prelude.{ℕ, zero, suc, ◌+◌, ◌-◌, ◌/◌, nat_eq, nat_le, List, [], ◌∷◌, ◌++◌, map, Option, Some, None, if◌then◌else◌}
use Rattle.std.specs.List.{filter, flat_map}
use Rattle.int_num.specs.Integer.{Integer}
use Rattle.pv_base.specs.declared.place.Place.{Place}
use Rattle.ir_code.specs.declared.code.Code.{Code}
use Rattle.ir_code.specs.declared.code.Move.{Move}
use Rattle.loop_plan.specs.declared.plan.PhiPlan.{PhiPlan}
use Rattle.loop_plan.specs.declared.plan.LoopPlan.{LoopPlan}
use Rattle.mem_image.specs.declared.object.Pointer.{Pointer as Address}
use Rattle.mem_image.specs.declared.object.Pointer.TheVariants.{Null, Obj, Fun}
use Rattle.mem_image.specs.declared.object.Byte.{Byte}
use Rattle.mem_image.specs.declared.object.Byte.TheVariants.{Unset, Num, Ptr}
use Rattle.mem_image.specs.declared.object.Object.{Object}
use Rattle.mem_image.specs.Picture.{Picture}
use Rattle.seq_effects.specs.declared.state.Value.{Value}
use Rattle.seq_effects.specs.declared.state.Value.TheVariants.{Int, Pointer}
use Rattle.seq_effects.specs.declared.state.Frame.{Frame}
use Rattle.seq_effects.specs.Words.{number_bytes}
use Rattle.seq_machine.specs.declared.state.State.{State}
use Rattle.seq_machine.specs.Acts.{top, with_top}
use Rattle.reduction_merge.specs.Partials.{PartialOf, finished}
use Rattle.span_types.specs.declared.span.Span.{Span}
use Rattle.span_types.specs.declared.piece.Delta.{Delta}
use Rattle.span_types.specs.declared.piece.Piece.{Piece}
use Rattle.turn_rules.specs.Loops.{joining_registers}
use Rattle.turn_rules.specs.Spans.{first_turn, behind, phi_guesses}
use Rattle.turn_rules.specs.Views.{laid, set_all}
use Rattle.period_rules.specs.Verdicts.{deltas, elements, phis, element_value, phi_value, counted, printed_by, kept_by}

-- ---- names

-- a name that a turn gave, counted from the base's next name, as the one that it gets: counted from the next name before the turn
abbrev pub renamed : ℕ → ℕ → ℕ → ℕ
renamed base next name = if nat_le base name then next + (name - base) else name

abbrev pub rename_pointer : ℕ → ℕ → Address → Address
rename_pointer base next Null = Null
rename_pointer base next (Fun index) = Fun index
rename_pointer base next (Obj name offset) = Obj (renamed base next name) offset

abbrev pub rename_value : ℕ → ℕ → Value → Value
rename_value base next (Int n) = Int n
rename_value base next (Pointer p) = Pointer (rename_pointer base next p)

abbrev pub rename_byte : ℕ → ℕ → Byte → Byte
rename_byte base next Unset = Unset
rename_byte base next (Num n) = Num n
rename_byte base next (Ptr part p) = Ptr part (rename_pointer base next p)

abbrev pub rename_object : ℕ → ℕ → Object → Object
rename_object base next o = record o { name = renamed base next o.name; bytes = map (rename_byte base next) o.bytes }

-- ---- registers of the loop's frame

abbrev pub set_in : List (ℕ × Value) → List Frame → Option Frame → List Frame
set_in sets frames (Some f) = with_top frames (record f { registers = set_all sets f.registers })
set_in sets frames None = frames

-- the frames with these registers of the top one set
abbrev pub set_on_top : List (ℕ × Value) → List Frame → List Frame
set_on_top sets frames = set_in sets frames (top frames)

-- ---- one turn

-- the bytes that have their last value of the period's pieces from turn k
abbrev pub bytes_of : ℕ → ℕ → ℕ → List Delta → List (Place × Byte)
bytes_of base next k ds = map (λ w. (w.place, rename_byte base next w.byte)) (filter (λ w. nat_eq w.turn k) (flat_map (λ d. d.writes) ds))

abbrev pub registers_of : ℕ → ℕ → ℕ → List Delta → List (ℕ × Value)
registers_of base next k ds = map (λ w. (w.register, rename_value base next w.value)) (filter (λ w. nat_eq w.turn k) (flat_map (λ d. d.registers) ds))

-- the memory with the turn's bytes, and behind its objects those that the turn kept
abbrev pub commit_memory : ℕ → List Delta → ℕ → Picture → Picture
commit_memory base ds k m = record {
  objects = (laid (bytes_of base m.next k ds) m).objects ++ map (rename_object base m.next) (kept_by k ds);
  next = m.next + counted k (flat_map (λ d. d.made) ds);
}

-- the turn's bytes, registers, objects, output and steps, over a state whose next name is the one before the turn
abbrev pub commit_turn : Span → List Delta → ℕ → State Picture → State Picture
commit_turn sp ds k s = record {
  frames = set_on_top (registers_of sp.base.memory.next s.memory.next k ds) s.frames;
  memory = commit_memory sp.base.memory.next ds k s.memory;
  input_place = s.input_place;
  output = s.output ++ printed_by k ds;
  steps = s.steps + counted k (flat_map (λ d. d.steps) ds);
}

-- so many turns from turn k on
abbrev pub commit_turns : Span → List Delta → ℕ → ℕ → State Picture → State Picture
commit_turns sp ds k zero s = s
commit_turns sp ds k (suc n) s = commit_turns sp ds (k + 1) n (commit_turn sp ds k s)

-- ---- reductions

-- a value with all operands of the period
abbrev pub with_operands : PartialOf → Option Integer → Option Integer
with_operands q (Some v) = finished q v
with_operands q None = None

abbrev pub bytes_from_place : Place → List Byte → List (Place × Byte)
bytes_from_place p [] = []
bytes_from_place p (b ∷ bs) = (p, b) ∷ bytes_from_place (record p { offset = p.offset + 1 }) bs

abbrev pub element_bytes : Picture → Place × PartialOf → List (Place × Byte)
element_bytes m e =
    elim (with_operands e.1 (element_value m e)) as (λ _. List (Place × Byte)) [ Some v ↦ bytes_from_place e.0 (number_bytes (e.1.width / 8) v.bits) | None ↦ [] ]

-- the phi, and the register of what joins into it, hold the same
abbrev pub joined_registers : PhiPlan × Move → Integer → List (ℕ × Value)
joined_registers p v = map (λ r. (r, Int v)) (p.1.register ∷ joining_registers p)

abbrev pub phi_registers : State Picture → (PhiPlan × Move) × PartialOf → List (ℕ × Value)
phi_registers s e =
    elim (with_operands e.1 (phi_value s e)) as (λ _. List (ℕ × Value)) [ Some v ↦ joined_registers e.0 v | None ↦ [] ]

-- each element and each phi with the operands of the whole period
abbrev pub fold_in : Code → LoopPlan → List Delta → State Picture → State Picture
fold_in code l ds s = record s {
  frames = set_on_top (flat_map (phi_registers s) (phis code l ds)) s.frames;
  memory = laid (flat_map (element_bytes s.memory) (elements ds)) s.memory;
}

-- ---- all of it

-- the other phis of the header hold their guesses for a turn
abbrev pub with_guesses : Code → LoopPlan → Span → ℕ → State Picture → State Picture
with_guesses code l sp k s = record s { frames = set_on_top (phi_guesses code l sp k) s.frames }

-- The state after the period, from the state before it and the pieces: reductions, then the turns in order, then the guesses for the
-- turn behind it. Of all pieces the latest turn that wrote a byte or set a register counts, since each piece has its own latest.
unfoldable pub commit : Code → LoopPlan → Span → State Picture → List Piece → ℕ → State Picture
commit code l sp s pieces p =
    with_guesses code l sp (behind sp p)
    (commit_turns sp (deltas p pieces) (first_turn sp p) (behind sp p - first_turn sp p)
    (fold_in code l (deltas p pieces) s))
