-- The memory of one turn on a worker's copy: an image, and marks of what the turn touched. What it does at each call is said once here.
use Rattle.std.specs.Prelude.{ℕ, zero, suc, ◌+◌, ◌-◌, nat_eq, nat_le, nat_lt, max, Bool, true, false, not, ◌&&◌, ◌||◌, pos, negsuc, List, [], ◌∷◌, ◌++◌, length, find, Option, Some, None, is_some, Result, Ok, Err, if◌then◌else◌}
use Rattle.std.specs.List.{filter, list_any}
use Rattle.std.specs.Option.{option_or}
use Rattle.int_num.specs.Integer.{Integer}
use Rattle.pv_base.specs.declared.place.Site.{Site}
use Rattle.pv_base.specs.declared.place.AllocSite.{AllocSite}
use Rattle.pv_base.specs.declared.place.AllocSite.TheVariants.{At}
use Rattle.pv_base.specs.declared.place.Place.{Place}
use Rattle.pv_base.specs.declared.place.Heap.{Heap}
use Rattle.pv_base.specs.declared.place.Heap.TheVariants.{Private, ShortLived, Reduction, ReadOnly, Untagged}
use Rattle.ir_tree.specs.declared.plans.Expect.{Expect}
use Rattle.ir_code.specs.declared.code.Code.{Code}
use Rattle.loop_plan.specs.declared.plan.LoopPlan.{LoopPlan}
use Rattle.loop_plan.specs.Triples.{same_site}
use Rattle.loop_plan.specs.Heaps.{same_place, same_heap}
use Rattle.mem_image.specs.declared.object.Pointer.{Pointer as Address}
use Rattle.mem_image.specs.declared.object.Pointer.TheVariants.{Null, Obj, Fun}
use Rattle.mem_image.specs.declared.object.Object.{Object}
use Rattle.mem_image.specs.declared.fault.Trap.{Trap as TrapWord}
use Rattle.mem_image.specs.declared.fault.CheckFault.{CheckFault}
use Rattle.mem_image.specs.declared.fault.CheckKind.TheVariants.{Separation, PrivateRead, PrivateWrite}
use Rattle.mem_image.specs.declared.fault.Kept.TheVariants.{Number, Of}
use Rattle.mem_image.specs.declared.fault.Fault.{Fault}
use Rattle.mem_image.specs.declared.fault.Fault.TheVariants.{Trap, Check}
use Rattle.mem_image.specs.Picture.{Picture, find as object_named, live}
use Rattle.mem_image.specs.Calls.{Call, ReadWord, WriteWord, CopyRange, Fill, Make, Release, EndFrame, Reply, does}
use Rattle.seq_machine.specs.declared.state.State.{State}
use Rattle.turn_laws.specs.Events.{Way, Reads, Writes}
use Rattle.span_types.specs.declared.span.Span.{Span}
use Rattle.turn_rules.specs.Spans.{period_start}

-- What a turn that passed leaves: its state back at the header, the private bytes that it read before it wrote them and those that it
-- wrote, the operands that it recorded in time order, and the most bytes of its own objects that were live at once.
pub record TurnDone : Type 0 where
  pub turn : ℕ
  pub state : State Picture
  pub live_in : List Place
  pub written : List Place
  pub operands : List (Place × Integer)
  pub phi_operands : List (Site × Integer)
  pub peak : ℕ

-- what a turn is run under: the module's code, the loop's plan, the span, the turn's number, and what the turns of the same worker
-- before it left, in order
pub record Course : Type 0 where
  pub code : Code
  pub plan : LoopPlan
  pub span : Span
  pub turn : ℕ
  pub earlier : List TurnDone

-- the memory of a turn: the image that it sees, the private bytes that it wrote and those that it read before, and its peak so far
pub record Marked : Type 0 where
  pub picture : Picture
  pub written : List Place
  pub live_in : List Place
  pub peak : ℕ

-- ---- classes of objects

-- the class that the plan gives to the objects of a site
abbrev pub class_of : LoopPlan → AllocSite → Heap
class_of l site = elim (find (λ t. same_place t.0 site) l.tags) [ Some t ↦ t.1.heap | None ↦ Untagged ]

abbrev pub is_class : LoopPlan → Heap → Object → Bool
is_class l heap o = same_heap (class_of l o.site) heap

-- an object that this turn made
abbrev pub is_own : Course → Object → Bool
is_own c o = nat_le c.span.base.memory.next o.name

-- the objects of a turn, and how many bytes of them are live
abbrev pub own_objects : Course → Picture → List Object
own_objects c m = filter (is_own c) m.objects

abbrev pub own_live : Course → Picture → ℕ
own_live c m = live (own_objects c m)

-- private bytes are those of objects of the base that are tagged so
abbrev pub is_private : Course → Object → Bool
is_private c o = not (is_own c o) && is_class c.plan Private o

abbrev pub is_writing : Way → Bool
is_writing Reads = false
is_writing Writes = true

abbrev pub is_expectation : Site → ℕ → Expect → Bool
is_expectation at slot e = same_site e.at at && nat_eq e.slot slot

-- a slot may touch the object: its expected class is the object's; a short-lived object is of this turn, and a reduced one is not; and
-- nothing that is only read is written
abbrev pub may_touch : Course → Way → Site → ℕ → Object → Bool
may_touch c way at slot o =
    list_any (λ e. is_expectation at slot e && is_class c.plan e.heap o) c.plan.expected
    && (is_own c o || not (is_class c.plan ShortLived o))
    && not (is_own c o && is_class c.plan Reduction o)
    && not (is_writing way && is_class c.plan ReadOnly o)

-- the check that objects of different classes are kept apart, which tells a class
abbrev pub apart : Heap → CheckFault
apart heap = record { kind = Separation; kept = Of heap }

-- ---- private bytes

abbrev pub same_byte : Place → Place → Bool
same_byte p q = nat_eq p.name q.name && nat_eq p.offset q.offset

abbrev pub is_among : Place → List Place → Bool
is_among p places = list_any (same_byte p) places

-- the greatest turn of these that wrote the byte
abbrev pub last_writer : Place → List TurnDone → Option ℕ
last_writer p [] = None
last_writer p (d ∷ ds) = option_or (last_writer p ds) (if is_among p d.written then Some d.turn else None)

-- a turn of these from that number on read the byte before it wrote it
abbrev pub was_read : Place → ℕ → List TurnDone → Bool
was_read p from earlier = list_any (λ d. nat_le from d.turn && is_among p d.live_in) earlier

-- the code of a byte that turn j wrote last: 1 where j lies in an earlier period than the one that begins at turn `from`
abbrev pub stamp : ℕ → ℕ → ℕ
stamp from j = if nat_lt j from then 1 else 3 + (j - from)

abbrev pub start : Course → ℕ
start c = period_start c.span c.turn

abbrev pub noted_read : Course → Marked → Place → Option ℕ → Result Marked CheckFault
noted_read c m p (Some j) = Err (record { kind = PrivateRead; kept = Number (stamp (start c) j) })
noted_read c m p None = Ok (record m { live_in = m.live_in ++ p ∷ [] })

-- a read of a byte that this turn did not write, where an earlier turn of this worker wrote it, fails; else the byte is live-in
abbrev pub read_byte : Course → Marked → Place → Result Marked CheckFault
read_byte c m p = if is_among p m.written then Ok m else noted_read c m p (last_writer p c.earlier)

abbrev pub noted_write : Marked → Place → Marked
noted_write m p = record m { written = m.written ++ p ∷ [] }

-- a write of a byte that no turn of this worker wrote, where this worker read it in this period, fails
abbrev pub write_byte : Course → Marked → Place → Result Marked CheckFault
write_byte c m p =
    if is_among p m.written then Ok m
    else if is_some (last_writer p c.earlier) then Ok (noted_write m p)
    else if is_among p m.live_in || was_read p (start c) c.earlier then Err (record { kind = PrivateWrite; kept = Number 2 })
    else Ok (noted_write m p)

abbrev pub touch_byte : Way → Course → Marked → Place → Result Marked CheckFault
touch_byte Reads c m p = read_byte c m p
touch_byte Writes c m p = write_byte c m p

abbrev pub then_marked : Result Marked CheckFault → (Marked → Result Marked CheckFault) → Result Marked CheckFault
then_marked (Ok m) next = next m
then_marked (Err e) next = Err e

-- so many bytes from an offset on, in rising order
abbrev pub touch_bytes : Way → Course → Marked → ℕ → ℕ → ℕ → Result Marked CheckFault
touch_bytes way c m name offset zero = Ok m
touch_bytes way c m name offset (suc len) = then_marked (touch_byte way c m (record { name = name; offset = offset })) (λ n. touch_bytes way c n name (offset + 1) len)

-- ---- slots and calls

abbrev pub slot_in : Way → Course → Marked → Site → ℕ → ℕ → ℕ → Option Object → Result Marked CheckFault
slot_in way c m at slot offset len (Some o) =
    if may_touch c way at slot o then (if is_private c o then touch_bytes way c m o.name offset len else Ok m) else Err (apart (class_of c.plan o.site))
slot_in way c m at slot offset len None = Ok m

-- the tests of one slot: first the object, then each byte; a length of 0 touches nothing
abbrev pub slot_test : Way → Course → Marked → Site → ℕ → Address → ℕ → Result Marked CheckFault
slot_test way c m at slot p zero = Ok m
slot_test way c m at slot (Obj name (pos offset)) (suc len) = slot_in way c m at slot offset (suc len) (object_named name m.picture.objects)
slot_test way c m at slot (Obj name (negsuc offset)) (suc len) = Ok m
slot_test way c m at slot Null (suc len) = Ok m
slot_test way c m at slot (Fun index) (suc len) = Ok m

-- an object of the base is not released
abbrev pub release_test : Course → Marked → Option Object → Result Marked CheckFault
release_test c m (Some o) = if is_own c o then Ok m else Err (apart (class_of c.plan o.site))
release_test c m None = Ok m

abbrev pub named : Address → Picture → Option Object
named (Obj name offset) m = object_named name m.objects
named Null m = None
named (Fun index) m = None

-- The tests of a call that is no trap. Slots that read come before slots that write; no object is made at a reduced site.
abbrev pub tests : Course → Marked → Call → Result Marked CheckFault
tests c m (ReadWord at slot from len) = slot_test Reads c m at slot from len
tests c m (WriteWord at slot to word) = slot_test Writes c m at slot to (length word)
tests c m (CopyRange at to from len overlap) = then_marked (slot_test Reads c m at 1 from len) (λ n. slot_test Writes c n at 0 to len)
tests c m (Fill at to value len) = slot_test Writes c m at 0 to len
tests c m (Make at kind size zeroed) = if same_heap (class_of c.plan (At at)) Reduction then Err (apart Reduction) else Ok m
tests c m (Release at pointer) = release_test c m (named pointer m.picture)
tests c m (EndFrame names) = Ok m

abbrev pub after_call : Course → Reply → Picture → Marked → Marked
after_call c r n m = record m { picture = n; peak = max m.peak (own_live c n) }

abbrev pub after_tests : Course → Marked → Reply → Picture → Result Marked CheckFault → Result Reply Fault × Marked
after_tests c m r n (Ok k) = (Ok r, after_call c r n k)
after_tests c m r n (Err e) = (Err (Check e), m)

abbrev pub by_image : Course → Marked → Call → Result (Reply × Picture) TrapWord → Result Reply Fault × Marked
by_image c m call (Ok p) = after_tests c m p.0 p.1 (tests c m call)
by_image c m call (Err t) = (Err (Trap t), m)

-- What a turn's memory answers to a call, and the memory after it. The traps of an image come first, since they are known without
-- content; then the tests; then the image's answer. A fault leaves the memory.
abbrev pub turn_acts : Course → Marked → Call → Result Reply Fault × Marked
turn_acts c m call = by_image c m call (does m.picture call)
