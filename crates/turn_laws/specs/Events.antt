-- What the calls of a tree do to memory, one event after another in time.
use Rattle.std.specs.Prelude.{ℕ, zero, suc, ◌+◌, ◌<◌, ◌≡◌, Some, List, [], ◌∷◌, ◌++◌, length, map, Result, Ok, Err, pos, negsuc}
use Rattle.pv_base.specs.declared.place.Site.{Site}
use Rattle.pv_base.specs.declared.place.Place.{Place}
use Rattle.mem_image.specs.declared.object.Pointer.{Pointer}
use Rattle.mem_image.specs.declared.object.Pointer.TheVariants.{Null, Obj, Fun}
use Rattle.mem_image.specs.declared.object.Kind.{Kind}
use Rattle.mem_image.specs.declared.object.Object.{Object}
use Rattle.mem_image.specs.declared.fault.Fault.{Fault}
use Rattle.mem_image.specs.declared.fault.Fault.TheVariants.{Trap}
use Rattle.mem_image.specs.Picture.{Picture, find, size_of}
use Rattle.mem_image.specs.Calls.{Call, ReadWord, WriteWord, CopyRange, Fill, Make, Release, EndFrame, Reply, Bytes, Made, Done}
use Rattle.seq_effects.specs.Script.{Script, Gives, Stops, Sizes, Asks}
use Rattle.turn_laws.specs.Over.{image_acts}

pub data Way : Type 0 where
  Reads : Way
  Writes : Way

-- an access to one byte: the instruction and the slot that make it, the way, and the name and the offset of the byte
pub record Access : Type 0 where
  pub site : Site
  pub slot : ℕ
  pub way : Way
  pub place : Place

-- a byte is read or written, an instruction makes an object or releases one, or an object ends with the frame that owns it
pub data Event : Type 0 where
  Touches : Access → Event
  Makes : (site : Site) (kind : Kind) (name : ℕ) (size : ℕ) → Event
  Releases : (site : Site) (name : ℕ) → Event
  Ends : (name : ℕ) → Event

-- so many bytes of an object from an offset on, by rising offset
abbrev pub touched_from : Site → ℕ → Way → ℕ → ℕ → ℕ → List Event
touched_from at slot way name offset zero = []
touched_from at slot way name offset (suc len) =
    Touches (record { site = at; slot = slot; way = way; place = record { name = name; offset = offset } }) ∷ touched_from at slot way name (offset + 1) len

-- so many bytes at a pointer
abbrev pub touched : Site → ℕ → Way → Pointer → ℕ → List Event
touched at slot way (Obj name (pos offset)) len = touched_from at slot way name offset len
touched at slot way (Obj name (negsuc offset)) len = []
touched at slot way Null len = []
touched at slot way (Fun index) len = []

abbrev pub made : Site → Kind → ℕ → Pointer → List Event
made at kind size (Obj name offset) = Makes at kind name size ∷ []
made at kind size Null = []
made at kind size (Fun index) = []

-- null is answered where no object was made
abbrev pub made_by : Site → Kind → ℕ → Reply → List Event
made_by at kind size (Made p) = made at kind size p
made_by at kind size (Bytes word) = []
made_by at kind size Done = []

abbrev pub released : Site → Pointer → List Event
released at (Obj name offset) = Releases at name ∷ []
released at Null = []
released at (Fun index) = []

-- What a call did that was answered so. A copy reads in slot 1 and writes in slot 0: all bytes are read before the first is
-- written. A length of 0 touches nothing.
abbrev pub events : Call → Reply → List Event
events (ReadWord at slot from len) r = touched at slot Reads from len
events (WriteWord at slot to word) r = touched at slot Writes to (length word)
events (CopyRange at to from len overlap) r = touched at 1 Reads from len ++ touched at 0 Writes to len
events (Fill at to value len) r = touched at 0 Writes to len
events (Make at kind size zeroed) r = made_by at kind size r
events (Release at pointer) r = released at pointer
events (EndFrame names) r = map Ends names

-- ---- logs

-- what a tree gives, the memory after it, and what its calls did until then
pub record Logged (A M : Type 0) : Type 0 where
  pub answer : Result A Fault
  pub memory : M
  pub log : List Event

abbrev pub logs : {A M : Type 0} → Result A Fault → M → List Event → Logged A M
logs answer m log = record { answer = answer; memory = m; log = log }

-- these came before
abbrev pub before : {A M : Type 0} → List Event → Logged A M → Logged A M
before log l = logs l.answer l.memory (log ++ l.log)

-- a call that faults did nothing
abbrev pub by_call : {A M : Type 0} → Call → Result Reply Fault × M → (Reply → M → Logged A M) → Logged A M
by_call call (Ok r, n) next = before (events call r) (next r n)
by_call call (Err f, n) next = logs (Err f) n []

-- a tree over any memory, with its log
abbrev pub logged_over : {A M : Type 0} → (M → Picture) → (M → Call → Result Reply Fault × M) → Script A → M → Logged A M
logged_over image act (Gives a) m = logs (Ok a) m []
logged_over image act (Stops t) m = logs (Err (Trap t)) m []
logged_over image act (Sizes p k) m = logged_over image act (k (size_of (image m) p)) m
logged_over image act (Asks call k) m = by_call call (act m call) (λ r n. logged_over image act (k r) n)

-- the same over an image
abbrev pub logged : {A : Type 0} → Script A → Picture → Logged A Picture
logged s m = logged_over (λ p. p) image_acts s m

abbrev pub joined : {A B M : Type 0} → Result A Fault → M → List Event → (A → M → Logged B M) → Logged B M
joined (Ok a) m log next = before log (next a m)
joined (Err f) m log next = logs (Err f) m log

-- goes on with the value that a tree gave, or stops at its fault
abbrev pub then_logged : {A B M : Type 0} → Logged A M → (A → M → Logged B M) → Logged B M
then_logged l next = joined l.answer l.memory l.log next

-- ---- a memory that keeps the events of its calls beside it

abbrev pub recorded : {M : Type 0} → Call → List Event → Result Reply Fault × M → Result Reply Fault × (M × List Event)
recorded call log (Ok r, n) = (Ok r, (n, log ++ events call r))
recorded call log (Err f, n) = (Err f, (n, log))

abbrev pub recording : {M : Type 0} → (M → Call → Result Reply Fault × M) → M × List Event → Call → Result Reply Fault × (M × List Event)
recording act p call = recorded call p.1 (act p.0 call)

-- ---- the accesses among the events, in the same order

abbrev pub accesses_of : List Event → List Access
accesses_of [] = []
accesses_of (Touches a ∷ log) = a ∷ accesses_of log
accesses_of (Makes site kind name size ∷ log) = accesses_of log
accesses_of (Releases site name ∷ log) = accesses_of log
accesses_of (Ends name ∷ log) = accesses_of log

-- the names of the objects that were made, in the same order
abbrev pub names_made : List Event → List ℕ
names_made [] = []
names_made (Touches a ∷ log) = names_made log
names_made (Makes site kind name size ∷ log) = name ∷ names_made log
names_made (Releases site name ∷ log) = names_made log
names_made (Ends name ∷ log) = names_made log

-- these are the names from one on up to another, one by one
abbrev pub RiseTo : ℕ → List ℕ → ℕ → Type 0
RiseTo low [] next = next ≡ low
RiseTo low (name ∷ names) next = (name ≡ low) × RiseTo (low + 1) names next

-- the byte of an access is one of a live object
pub record IsLive (m : Picture) (a : Access) : Type 0 where
  pub object : Object
  pub found : find a.place.name m.objects ≡ Some object
  pub inside : a.place.offset < length object.bytes
