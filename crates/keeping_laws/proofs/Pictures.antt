-- What each call of a memory keeps, and what a tree of calls keeps.
use Rattle.std.proofs.Common.{ℕ, zero, suc, ◌+◌, ◌≤◌, ◌==◌, ◌||◌, pos, negsuc, Bool, true, false, List, [], ◌∷◌, ◌++◌, replicate, take, drop, length, Option, Some, None, Result, Ok, Err, arith, subst, if◌then◌else◌, FitsSigned}
use Rattle.std.specs.Prelude.{IfOk, nat_lt}
use Rattle.std.specs.Int.{w64}
use Rattle.std.specs.List.{AllByRecursion}
use Rattle.pv_base.specs.declared.place.AllocSite.{AllocSite}
use Rattle.pv_base.specs.declared.place.AllocSite.TheVariants.{At}
use Rattle.pv_base.specs.declared.place.Place.{Place}
use Rattle.mem_image.specs.declared.object.Pointer.{Pointer as Address}
use Rattle.mem_image.specs.declared.object.Pointer.TheVariants.{Null, Obj, Fun}
use Rattle.mem_image.specs.declared.object.Byte.{Byte}
use Rattle.mem_image.specs.declared.object.Byte.TheVariants.{Unset, Num, Ptr}
use Rattle.mem_image.specs.declared.object.Kind.{Kind}
use Rattle.mem_image.specs.declared.object.Kind.TheVariants.{Global, Stack, Heap}
use Rattle.mem_image.specs.declared.object.Object.{Object}
use Rattle.mem_image.specs.declared.fault.Trap.{Trap}
use Rattle.mem_image.specs.declared.fault.Trap.TheVariants.{Names}
use Rattle.mem_image.specs.Picture.{Picture, name_limit, find, with_bytes, without, without_all, bytes_of, bytes_at, access, write_access, bytes_from, read, read_at, spliced, lay, laid, write, fill, copied, copy, apart, over, added, fresh, past, make, freed, released, release, end_frame, size_of}
use Rattle.mem_image.specs.Calls.{Call, Reply, does, done_reply, made_reply, read_reply, ReadWord, WriteWord, CopyRange, Fill, Make, Release, EndFrame}
use Rattle.seq_effects.specs.Script.{Script, Gives, Stops, Sizes, Asks, outcome}
use Rattle.keeping_laws.specs.Keeping.{PointerFits, IsByte, ByteFits, ObjectFits, PictureFits}
use Rattle.keeping_laws.specs.Trees.{CallFits, ReplyFits, TreeFits, EffectFits}
use Rattle.keeping_laws.specs.Laws.{TreesKeep}
use Rattle.keeping_laws.proofs.Lists.{by_append, by_take, by_drop, by_range, by_replicate, by_weaker}

-- ---- what fits, fits where the next name is a later one

pub pointer_later : (next later : ℕ) → next ≤ later → (p : Address) → PointerFits next p → PointerFits later p
pointer_later next later le Null h = tt
pointer_later next later le (Obj name offset) h = (omega (arith, h.0, le), h.1)
pointer_later next later le (Fun index) h = tt

byte_later : (next later : ℕ) → next ≤ later → (b : Byte) → ByteFits next b → ByteFits later b
byte_later next later le Unset h = tt
byte_later next later le (Num n) h = h
byte_later next later le (Ptr part p) h = pointer_later next later le p h

object_later : (next later : ℕ) → next ≤ later → (o : Object) → ObjectFits next o → ObjectFits later o
object_later next later le o h = by_weaker (ByteFits next) (ByteFits later) (byte_later next later le) o.bytes h

pub objects_later : (next later : ℕ) → next ≤ later → (os : List Object) → AllByRecursion (ObjectFits next) os → AllByRecursion (ObjectFits later) os
objects_later next later le os h = by_weaker (ObjectFits next) (ObjectFits later) (object_later next later le) os h

-- ---- objects

bytes_fit : (next name : ℕ) (os : List Object) → AllByRecursion (ObjectFits next) os → AllByRecursion (ByteFits next) (bytes_at name os)
bytes_fit next name [] h = tt
bytes_fit next name (o ∷ os) h = elim (name == o.name) as (λ b. AllByRecursion (ByteFits next) (bytes_of (if b then Some o else find name os))) [
  | true ↦ h.0
  | false ↦ bytes_fit next name os h.1
]

with_fit : (next name : ℕ) (bytes : List Byte) (os : List Object) → AllByRecursion (ByteFits next) bytes → AllByRecursion (ObjectFits next) os → AllByRecursion (ObjectFits next) (with_bytes name bytes os)
with_fit next name bytes [] b h = tt
with_fit next name bytes (o ∷ os) b h = elim (name == o.name) as (λ t. AllByRecursion (ObjectFits next) (if t then record o { bytes = bytes } ∷ os else o ∷ with_bytes name bytes os)) [
  | true ↦ (b, h.1)
  | false ↦ (h.0, with_fit next name bytes os b h.1)
]

without_fit : (next name : ℕ) (os : List Object) → AllByRecursion (ObjectFits next) os → AllByRecursion (ObjectFits next) (without name os)
without_fit next name [] h = tt
without_fit next name (o ∷ os) h = elim (name == o.name) as (λ t. AllByRecursion (ObjectFits next) (if t then os else o ∷ without name os)) [
  | true ↦ h.1
  | false ↦ (h.0, without_fit next name os h.1)
]

all_fit : (next : ℕ) (names : List ℕ) (os : List Object) → AllByRecursion (ObjectFits next) os → AllByRecursion (ObjectFits next) (without_all names os)
all_fit next [] os h = h
all_fit next (name ∷ names) os h = all_fit next names (without name os) (without_fit next name os h)

spliced_fit : (next at : ℕ) (bytes others : List Byte) → AllByRecursion (ByteFits next) bytes → AllByRecursion (ByteFits next) others → AllByRecursion (ByteFits next) (spliced bytes at others)
spliced_fit next at bytes others b o =
    by_append (ByteFits next) (take at bytes ++ others) (drop (at + length others) bytes) (by_append (ByteFits next) (take at bytes) others (by_take (ByteFits next) at bytes b) o) (by_drop (ByteFits next) (at + length others) bytes b)

-- ---- calls

-- a memory that fits, and has lost no name
abbrev pub Held : Picture → Picture → Type 0
Held m n = PictureFits n × (m.next ≤ n.next)

abbrev Replied : Picture → Reply × Picture → Type 0
Replied m r = ReplyFits r.1.next r.0 × Held m r.1

abbrev MadeIn : Picture → Address × Picture → Type 0
MadeIn m r = PointerFits r.1.next r.0 × Held m r.1

same_next : (m : Picture) → m.next ≤ m.next
same_next m = omega arith

if_held : (m : Picture) (b : Bool) (r s : Result Picture Trap) → IfOk r (Held m) → IfOk s (Held m) → IfOk (if b then r else s) (Held m)
if_held m true r s h k = h
if_held m false r s h k = k

read_kept : (m : Picture) (r : Result (List Byte) Trap) → PictureFits m → IfOk r (AllByRecursion (ByteFits m.next)) → IfOk (read_reply m r) (Replied m)
read_kept m (Ok word) p h = (h, (p, same_next m))
read_kept m (Err t) p h = tt

done_kept : (m : Picture) (r : Result Picture Trap) → IfOk r (Held m) → IfOk (done_reply r) (Replied m)
done_kept m (Ok n) h = (tt, h)
done_kept m (Err t) h = tt

made_kept : (m : Picture) (r : Result (Address × Picture) Trap) → IfOk r (MadeIn m) → IfOk (made_reply r) (Replied m)
made_kept m (Ok p) h = h
made_kept m (Err t) h = tt

read_fits : (m : Picture) (len : ℕ) (r : Result Place Trap) → PictureFits m → IfOk (read_at m len r) (AllByRecursion (ByteFits m.next))
read_fits m len (Ok place) p = by_range (ByteFits m.next) (bytes_at place.name m.objects) place.offset (place.offset + len) (bytes_fit m.next place.name m.objects p)
read_fits m len (Err t) p = tt

lay_held : (m : Picture) (place : Place) (bytes : List Byte) → PictureFits m → AllByRecursion (ByteFits m.next) bytes → Held m (lay m place bytes)
lay_held m place bytes p b = (with_fit m.next place.name _ m.objects (spliced_fit m.next place.offset (bytes_at place.name m.objects) bytes (bytes_fit m.next place.name m.objects p) b) p, same_next m)

laid_held : (m : Picture) (bytes : List Byte) (r : Result Place Trap) → PictureFits m → AllByRecursion (ByteFits m.next) bytes → IfOk (laid m bytes r) (Held m)
laid_held m bytes (Ok place) p b = lay_held m place bytes p b
laid_held m bytes (Err t) p b = tt

fill_held : (m : Picture) (to : Address) (value len : ℕ) → PictureFits m → IsByte value → IfOk (fill m to value len) (Held m)
fill_held m to value len p b = if_held m (len == 0) (Ok m) _ (p, same_next m) (laid_held m (replicate len (Num value)) (write_access m to len) p (by_replicate (ByteFits m.next) len (Num value) b))

copied_held : (m : Picture) (len : ℕ) (overlap : Bool) (source target : Result Place Trap) → PictureFits m → IfOk (copied m len overlap source target) (Held m)
copied_held m len overlap (Err t) target p = tt
copied_held m len overlap (Ok a) (Err t) p = tt
copied_held m len overlap (Ok a) (Ok b) p = if_held m (overlap || apart a b len) (Ok (lay m b (bytes_from m a len))) _ (lay_held m b (bytes_from m a len) p (read_fits m len (Ok a) p)) tt

copy_held : (m : Picture) (to from : Address) (len : ℕ) (overlap : Bool) → PictureFits m → IfOk (copy m to from len overlap) (Held m)
copy_held m to from len overlap p = if_held m (len == 0) (Ok m) _ (p, same_next m) (copied_held m len overlap (access m from len) (write_access m to len) p)

fresh_fits : (next size : ℕ) (zeroed : Bool) → AllByRecursion (ByteFits next) (fresh size zeroed)
fresh_fits next size true = by_replicate (ByteFits next) size (Num 0) (omega arith)
fresh_fits next size false = by_replicate (ByteFits next) size Unset tt

pub start_fits : FitsSigned w64 (pos 0)
start_fits = record { sfits = omega arith }

added_held : (m : Picture) (site : AllocSite) (kind : Kind) (bytes : List Byte) → PictureFits m → AllByRecursion (ByteFits (m.next + 1)) bytes → Held m (added m site kind false bytes)
added_held m site kind bytes p b =
    let later : m.next ≤ m.next + 1 = omega arith in
    (by_append (ObjectFits (m.next + 1)) m.objects _ (objects_later m.next (m.next + 1) later m.objects p) (b, tt), later)

past_held : (m : Picture) (kind : Kind) → PictureFits m → IfOk (past kind m) (MadeIn m)
past_held m Heap p = (tt, (p, same_next m))
past_held m Stack p = tt
past_held m Global p = tt

make_held : (m : Picture) (site : AllocSite) (kind : Kind) (size : ℕ) (zeroed : Bool) → PictureFits m → IfOk (make m site kind size zeroed) (MadeIn m)
make_held m site kind size zeroed p = go (over m size) (nat_lt m.next name_limit)
  where
    go : (o l : Bool) → IfOk (if o then past kind m else if l then Ok (Obj m.next (pos 0), added m site kind false (fresh size zeroed)) else Err Names) (MadeIn m)
    go true l = past_held m kind p
    go false true = ((omega arith, start_fits), added_held m site kind (fresh size zeroed) p (fresh_fits (m.next + 1) size zeroed))
    go false false = tt

freed_held : (m : Picture) (name : ℕ) (kind : Kind) → PictureFits m → IfOk (freed m name kind) (Held m)
freed_held m name Heap p = (without_fit m.next name m.objects p, same_next m)
freed_held m name Stack p = tt
freed_held m name Global p = tt

released_held : (m : Picture) (name : ℕ) (f : Option Object) → PictureFits m → IfOk (released m name f) (Held m)
released_held m name None p = tt
released_held m name (Some o) p = freed_held m name o.kind p

release_held : (m : Picture) (q : Address) → PictureFits m → IfOk (release m q) (Held m)
release_held m (Obj name (pos zero)) p = released_held m name (find name m.objects) p
release_held m (Obj name (pos (suc o))) p = tt
release_held m (Obj name (negsuc o)) p = tt
release_held m Null p = tt
release_held m (Fun index) p = tt

end_fits : (names : List ℕ) (m : Picture) → PictureFits m → Held m (end_frame m names)
end_fits names m p = (all_fit m.next names m.objects p, same_next m)

pub calls_fit : (m : Picture) (call : Call) → PictureFits m → CallFits m.next call → IfOk (does m call) (Replied m)
calls_fit m (ReadWord site slot from len) p h = read_kept m (read m from len) p (read_fits m len (access m from len) p)
calls_fit m (WriteWord site slot to word) p h = done_kept m (write m to word) (laid_held m word _ p h.1)
calls_fit m (CopyRange site to from len overlap) p h = done_kept m (copy m to from len overlap) (copy_held m to from len overlap p)
calls_fit m (Fill site to value len) p h = done_kept m (fill m to value len) (fill_held m to value len p h.1)
calls_fit m (Make site kind size zeroed) p h = made_kept m (make m (At site) kind size zeroed) (make_held m (At site) kind size zeroed p)
calls_fit m (Release site pointer) p h = done_kept m (release m pointer) (release_held m pointer p)
calls_fit m (EndFrame names) p h = (tt, end_fits names m p)

-- ---- trees

-- what a tree gives, where it gives something, is as P says, and the memory after it fits
abbrev pub Ending : {A : Type 0} → (ℕ → A → Type 0) → Picture → Result A Trap × Picture → Type 0
Ending P m o = IfOk o.0 (λ a. P o.1.next a × Held m o.1)

ending_earlier : {A : Type 0} (P : ℕ → A → Type 0) (m x : Picture) (r : Result A Trap) (n : Picture) → m.next ≤ x.next → Ending P x (r, n) → Ending P m (r, n)
ending_earlier P m x (Ok a) n le h = (h.0, (h.1.0, omega (arith, le, h.1.1)))
ending_earlier P m x (Err t) n le h = tt

pub tree_keeps : {A : Type 0} (P : ℕ → A → Type 0) (tree : Script A) (m : Picture) → TreeFits P m.next tree → PictureFits m → Ending P m (outcome tree m)
tree_keeps P (Gives a) m h p = (h, (p, same_next m))
tree_keeps P (Stops t) m h p = tt
tree_keeps P (Sizes q k) m h p = tree_keeps P (k (size_of m q)) m (h.1 (size_of m q)) p
tree_keeps {A = A} P (Asks call k) m h p = go (λ r n f q. tree_keeps P (k r) n f q) (does m call) (calls_fit m call p h.0)
  where
    go : ((r : Reply) (n : Picture) → TreeFits P n.next (k r) → PictureFits n → Ending P n (outcome (k r) n)) → (d : Result (Reply × Picture) Trap) → IfOk d (Replied m) → Ending P m (elim d as (λ _. Result A Trap × Picture) [ Ok r ↦ outcome (k r.0) r.1 | Err t ↦ (Err t, m) ])
    go again (Ok r) q = ending_earlier P m r.1 (outcome (k r.0) r.1).0 (outcome (k r.0) r.1).1 q.1.1 (again r.0 r.1 (h.1 r.1.next r.0 q.1.1 q.0) q.1.0)
    go again (Err t) q = tt

pub trees_keep : TreesKeep
trees_keep tree m n e h p is = let k : Ending EffectFits m (Ok e, n) = subst (Ending EffectFits m) is (tree_keeps EffectFits tree m h p) in (k.0, k.1.0, k.1.1)
