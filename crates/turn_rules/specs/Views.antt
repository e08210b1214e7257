-- The state in which a turn begins. It is no state of the module: bytes that earlier turns wrote may hold names of their own objects.
use Rattle.std.specs.Prelude.{ℕ, List, [], ◌∷◌, map, Option, Some, None, slice_set}
use Rattle.std.specs.List.{flat_map}
use Rattle.pv_base.specs.declared.place.Place.{Place}
use Rattle.mem_image.specs.declared.object.Byte.{Byte}
use Rattle.mem_image.specs.Picture.{Picture, lay}
use Rattle.mem_image.specs.Lookups.{peek}
use Rattle.seq_effects.specs.declared.state.Value.{Value}
use Rattle.seq_effects.specs.declared.state.Frame.{Frame}
use Rattle.seq_machine.specs.declared.state.State.{State}
use Rattle.seq_machine.specs.Acts.{top, with_top}
use Rattle.turn_rules.specs.Loops.{defined}
use Rattle.turn_rules.specs.Spans.{phi_guesses, guessed}
use Rattle.turn_rules.specs.Marks.{TurnDone, Course, Marked}

-- bytes are laid one after another, so the last one at a place counts
abbrev pub laid : List (Place × Byte) → Picture → Picture
laid [] m = m
laid (w ∷ ws) m = laid ws (lay m w.0 (w.1 ∷ []))

-- the bytes that a turn wrote, with its values
abbrev pub writes_of : TurnDone → List (Place × Byte)
writes_of d = map (λ p. (p, peek d.state.memory.objects p.name p.offset)) d.written

abbrev pub guessed_bytes : Course → List (Place × Byte)
guessed_bytes c = flat_map guessed c.plan.guesses

-- the base's bytes, over them those that the worker's earlier turns wrote, the later over the earlier, and over all the guesses
abbrev pub view_picture : Course → Picture
view_picture c = laid (guessed_bytes c) (laid (flat_map writes_of c.earlier) c.span.base.memory)

-- guessed bytes count as written
abbrev pub view_memory : Course → Marked
view_memory c = record { picture = view_picture c; written = map (λ w. w.0) (guessed_bytes c); live_in = []; peak = 0 }

abbrev pub unset_all : List ℕ → List (Option Value) → List (Option Value)
unset_all [] registers = registers
unset_all (r ∷ rs) registers = unset_all rs (slice_set registers r None)

abbrev pub set_all : List (ℕ × Value) → List (Option Value) → List (Option Value)
set_all [] registers = registers
set_all (s ∷ ss) registers = set_all ss (slice_set registers s.0 (Some s.1))

-- the registers that the loop defines are not set, but for the header's phis that have a guess
abbrev pub view_frame : Course → Frame → Frame
view_frame c f = record f { registers = set_all (phi_guesses c.code c.plan c.span c.turn) (unset_all (defined c.code c.plan.region) f.registers) }

abbrev pub view_frames : Course → Option Frame → List Frame
view_frames c (Some f) = with_top c.span.base.frames (view_frame c f)
view_frames c None = c.span.base.frames

-- objects, next name, place in the input and output are the base's, and no steps were taken
abbrev pub view : Course → State Marked
view c = record {
  frames = view_frames c (top c.span.base.frames);
  memory = view_memory c;
  input_place = c.span.base.input_place;
  output = c.span.base.output;
  steps = 0;
}
