-- When two states are the same but for what triples leave in registers, and when a state of a turn alone stands for one of the machine.
-- Both are told by index: by frame, by register, by name and by byte.
use Rattle.std.specs.Prelude.{ℕ, ◌+◌, ◌-◌, ◌<◌, ◌≤◌, ◌≡◌, nat_eq, Bool, true, false, List, ◌++◌, length, map, drop, slice_get, Option, Some, None}
use Rattle.std.specs.List.{flat_map, list_any}
use Rattle.pv_base.specs.declared.place.Place.{Place}
use Rattle.pv_base.specs.declared.place.Heap.TheVariants.{Reduction}
use Rattle.ir_tree.specs.declared.plans.Triple.{Triple}
use Rattle.ir_code.specs.declared.code.Code.{Code}
use Rattle.loop_plan.specs.declared.plan.LoopPlan.{LoopPlan}
use Rattle.mem_image.specs.declared.object.Object.{Object}
use Rattle.mem_image.specs.Picture.{Picture, find}
use Rattle.mem_image.specs.Lookups.{shape, peek}
use Rattle.seq_effects.specs.declared.state.Value.{Value}
use Rattle.seq_effects.specs.declared.state.Frame.{Frame}
use Rattle.seq_machine.specs.declared.state.State.{State}
use Rattle.turn_rules.specs.Loops.{scratch_of, own_registers}
use Rattle.turn_rules.specs.Marks.{Course, Marked, is_class, is_among}
use Rattle.period_rules.specs.Commits.{renamed, rename_value, rename_byte}

-- ---- the same but for scratch registers

abbrev pub is_scratch : Code → List Triple → ℕ → ℕ → Bool
is_scratch code triples function r = list_any (nat_eq r) (flat_map (scratch_of code function) triples)

pub record SameFrame (code : Code) (triples : List Triple) (f g : Frame) : Type 0 where
  pub function : g.function ≡ f.function
  pub block : g.block ≡ f.block
  pub place : g.place ≡ f.place
  pub own : g.own ≡ f.own
  pub registers : (r : ℕ) → is_scratch code triples f.function r ≡ false → slice_get g.registers r ≡ slice_get f.registers r

-- the states are equal in all but the registers of these triples
pub record IsSame (code : Code) (triples : List Triple) (s t : State Picture) : Type 0 where
  pub depth : length t.frames ≡ length s.frames
  pub frames : (i : ℕ) (f g : Frame) → slice_get s.frames i ≡ Some f → slice_get t.frames i ≡ Some g → SameFrame code triples f g
  pub memory : t.memory ≡ s.memory
  pub input_place : t.input_place ≡ s.input_place
  pub output : t.output ≡ s.output
  pub steps : t.steps ≡ s.steps

-- ---- a turn alone, and the same turn of the machine

abbrev pub is_reduced : LoopPlan → Option Object → Bool
is_reduced l (Some o) = is_class l Reduction o
is_reduced l None = false

-- Names from the base's next name on are counted from the next name at the turn's start; all others stand for themselves. `before` are the
-- bytes that turns of the span before this one wrote, whichever worker took them.
pub record LikeMemory (c : Course) (before : List Place) (begin : Picture) (a : Marked) (m : Picture) : Type 0 where
  pub next : m.next ≡ begin.next + (a.picture.next - c.span.base.memory.next)
  -- objects of the base, those that this turn made, and those that earlier turns kept
  pub base : (name : ℕ) → name < c.span.base.memory.next → shape m.objects name ≡ shape a.picture.objects name
  pub own : (name : ℕ) → c.span.base.memory.next ≤ name → shape m.objects (renamed c.span.base.memory.next begin.next name) ≡ shape a.picture.objects name
  pub kept : (name : ℕ) → c.span.base.memory.next ≤ name → name < begin.next → shape m.objects name ≡ shape begin.objects name
  pub kept_bytes : (name offset : ℕ) → c.span.base.memory.next ≤ name → name < begin.next → peek m.objects name offset ≡ peek begin.objects name offset
  -- bytes that this turn made or wrote, bytes that it did not write, and bytes that no turn so far wrote
  pub own_bytes : (name offset : ℕ) → c.span.base.memory.next ≤ name
      → peek m.objects (renamed c.span.base.memory.next begin.next name) offset ≡ rename_byte c.span.base.memory.next begin.next (peek a.picture.objects name offset)
  pub written : (p : Place) → is_among p a.written ≡ true
      → peek m.objects p.name p.offset ≡ rename_byte c.span.base.memory.next begin.next (peek a.picture.objects p.name p.offset)
  pub unwritten : (p : Place) → p.name < c.span.base.memory.next → is_among p a.written ≡ false → is_reduced c.plan (find p.name m.objects) ≡ false
      → peek m.objects p.name p.offset ≡ peek begin.objects p.name p.offset
  pub untouched : (p : Place) → p.name < c.span.base.memory.next → is_among p a.written ≡ false → is_among p before ≡ false → is_reduced c.plan (find p.name m.objects) ≡ false
      → peek m.objects p.name p.offset ≡ peek a.picture.objects p.name p.offset

-- frames at one place, whose set registers hold the same under that renaming
pub record LikeFrame (base next : ℕ) (f g : Frame) : Type 0 where
  pub function : g.function ≡ f.function
  pub block : g.block ≡ f.block
  pub place : g.place ≡ f.place
  pub own : g.own ≡ map (renamed base next) f.own
  pub set : (r : ℕ) (v : Value) → slice_get f.registers r ≡ Some (Some v) → slice_get g.registers r ≡ Some (Some (rename_value base next v))

-- The state `a` of a turn alone stands for the state `t` of the machine, where `begin` is the machine's state in which the turn begins.
pub record IsLike (c : Course) (before : List Place) (begin : State Picture) (a : State Marked) (t : State Picture) : Type 0 where
  pub depth : length t.frames ≡ length a.frames
  pub frames : (i : ℕ) (f g : Frame) → slice_get a.frames i ≡ Some f → slice_get t.frames i ≡ Some g → LikeFrame c.span.base.memory.next begin.memory.next f g
  -- a register of the loop's frame that this turn did not set is as at its start, but for those that a turn alone leaves out
  pub unset : (i r : ℕ) (f g h : Frame) → length c.span.base.frames ≡ i + 1 → slice_get a.frames i ≡ Some f → slice_get t.frames i ≡ Some g → slice_get begin.frames i ≡ Some h
      → slice_get f.registers r ≡ Some None → list_any (nat_eq r) (own_registers c.code c.plan) ≡ false → slice_get g.registers r ≡ slice_get h.registers r
  pub memory : LikeMemory c before begin.memory a.memory t.memory
  pub input_place : t.input_place ≡ a.input_place
  pub output : t.output ≡ begin.output ++ drop (length c.span.base.output) a.output
  pub steps : t.steps ≡ begin.steps + a.steps
