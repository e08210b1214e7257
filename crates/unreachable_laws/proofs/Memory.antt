-- An image answers each call in its kind, and at no trap `unreachable`; so a safe tree has a sound outcome on it.
use Rattle.std.proofs.Common.{◌≡◌, ℕ, zero, suc, ◌==◌, Bool, List, length, replicate, Option, Some, None, Result, Ok, Err, refl, pos, if◌then◌else◌}
use Rattle.std.specs.Prelude.{ℤ, negsuc, nat_le, nat_lt, ◌||◌, ◌+◌}
use Rattle.pv_base.specs.declared.place.Place.{Place}
use Rattle.pv_base.specs.declared.place.AllocSite.{AllocSite}
use Rattle.pv_base.specs.declared.place.AllocSite.TheVariants.{At}
use Rattle.mem_image.specs.declared.object.Pointer.{Pointer}
use Rattle.mem_image.specs.declared.object.Pointer.TheVariants.{Null, Obj, Fun}
use Rattle.mem_image.specs.declared.object.Byte.{Byte}
use Rattle.mem_image.specs.declared.object.Byte.TheVariants.{Num}
use Rattle.mem_image.specs.declared.object.Object.{Object}
use Rattle.mem_image.specs.declared.object.Kind.{Kind}
use Rattle.mem_image.specs.declared.object.Kind.TheVariants.{Stack, Heap, Global}
use Rattle.mem_image.specs.declared.fault.Trap.{Trap}
use Rattle.mem_image.specs.Picture.{Picture, find, is_fixed, reached, access, unfixed, write_access, read_at, read, laid, write, fill, apart, copied, copy, over, past, make, freed, released, release, name_limit, size_of}
use Rattle.mem_image.specs.Calls.{Call, Reply, ReadWord, WriteWord, CopyRange, Fill, Make, Release, EndFrame, Bytes, Made, Done, read_reply, made_reply, done_reply, does}
use Rattle.seq_effects.specs.Script.{Script, Gives, Stops, Sizes, Asks, outcome}
use Rattle.unreachable_laws.specs.Trees.{IsOther, Sound, Replies, Safe}
use Rattle.unreachable_laws.proofs.Trees.{Anything, if_sound}

reached_sound : (name : ℕ) (offset : ℤ) (len : ℕ) (o : Option Object) → Sound Anything (reached name offset len o)
reached_sound name offset len None = λ e. absurd cc
reached_sound name (negsuc k) len (Some x) = λ e. absurd cc
reached_sound name (pos k) len (Some x) = if_sound Anything (nat_le (k + len) (length x.bytes)) _ _ (λ e. tt) (λ e q. absurd cc)

access_sound : (m : Picture) (p : Pointer) (len : ℕ) → Sound Anything (access m p len)
access_sound m Null len = λ e. absurd cc
access_sound m (Fun index) len = λ e. absurd cc
access_sound m (Obj name offset) len = reached_sound name offset len (find name m.objects)

unfixed_sound : (m : Picture) (r : Result Place Trap) → Sound Anything r → Sound Anything (unfixed m r)
unfixed_sound m (Ok place) h = if_sound Anything (is_fixed (find place.name m.objects)) _ _ (λ e q. absurd cc) (λ e. tt)
unfixed_sound m (Err t) h = h

write_sound : (m : Picture) (p : Pointer) (len : ℕ) → Sound Anything (write_access m p len)
write_sound m p len = unfixed_sound m (access m p len) (access_sound m p len)

read_at_sound : (m : Picture) (len : ℕ) (r : Result Place Trap) → Sound Anything r → Sound Anything (read_at m len r)
read_at_sound m len (Ok place) h = tt
read_at_sound m len (Err t) h = h

laid_sound : (m : Picture) (bytes : List Byte) (r : Result Place Trap) → Sound Anything r → Sound Anything (laid m bytes r)
laid_sound m bytes (Ok place) h = tt
laid_sound m bytes (Err t) h = h

fill_sound : (m : Picture) (p : Pointer) (value len : ℕ) → Sound Anything (fill m p value len)
fill_sound m p value len = if_sound Anything (len == 0) _ _ (λ e. tt) (λ e. laid_sound m (replicate len (Num value)) (write_access m p len) (write_sound m p len))

copied_sound : (m : Picture) (len : ℕ) (overlap : Bool) (a b : Result Place Trap) → Sound Anything a → Sound Anything b → Sound Anything (copied m len overlap a b)
copied_sound m len overlap (Err t) b h k = h
copied_sound m len overlap (Ok a) (Err t) h k = k
copied_sound m len overlap (Ok a) (Ok b) h k = if_sound Anything (overlap || apart a b len) _ _ (λ e. tt) (λ e q. absurd cc)

copy_sound : (m : Picture) (p q : Pointer) (len : ℕ) (overlap : Bool) → Sound Anything (copy m p q len overlap)
copy_sound m p q len overlap = if_sound Anything (len == 0) _ _ (λ e. tt) (λ e. copied_sound m len overlap (access m q len) (write_access m p len) (access_sound m q len) (write_sound m p len))

past_sound : (kind : Kind) (m : Picture) → Sound Anything (past kind m)
past_sound Heap m = tt
past_sound Stack m = λ e. absurd cc
past_sound Global m = λ e. absurd cc

make_sound : (m : Picture) (at : AllocSite) (kind : Kind) (n : ℕ) (zeroed : Bool) → Sound Anything (make m at kind n zeroed)
make_sound m at kind n zeroed = if_sound Anything (over m n) _ _ (λ e. past_sound kind m) (λ e. if_sound Anything (nat_lt m.next name_limit) _ _ (λ f. tt) (λ f q. absurd cc))

freed_sound : (m : Picture) (name : ℕ) (kind : Kind) → Sound Anything (freed m name kind)
freed_sound m name Heap = tt
freed_sound m name Stack = λ e. absurd cc
freed_sound m name Global = λ e. absurd cc

released_sound : (m : Picture) (name : ℕ) (o : Option Object) → Sound Anything (released m name o)
released_sound m name None = λ e. absurd cc
released_sound m name (Some o) = freed_sound m name o.kind

release_sound : (m : Picture) (p : Pointer) → Sound Anything (release m p)
release_sound m (Obj name (pos zero)) = released_sound m name (find name m.objects)
release_sound m (Obj name (pos (suc o))) = λ e. absurd cc
release_sound m (Obj name (negsuc o)) = λ e. absurd cc
release_sound m Null = λ e. absurd cc
release_sound m (Fun index) = λ e. absurd cc

-- ---- calls

abbrev In : Call → Reply × Picture → Type 0
In call p = Replies call p.0

read_in : (m : Picture) (call : Call) (r : Result (List Byte) Trap) → ((word : List Byte) → Replies call (Bytes word)) → Sound Anything r → Sound (In call) (read_reply m r)
read_in m call (Ok word) g h = g word
read_in m call (Err t) g h = h

made_in : (call : Call) (r : Result (Pointer × Picture) Trap) → ((p : Pointer) → Replies call (Made p)) → Sound Anything r → Sound (In call) (made_reply r)
made_in call (Ok p) g h = g p.0
made_in call (Err t) g h = h

done_in : (call : Call) (r : Result Picture Trap) → Replies call Done → Sound Anything r → Sound (In call) (done_reply r)
done_in call (Ok m) g h = g
done_in call (Err t) g h = h

does_sound : (m : Picture) (call : Call) → Sound (In call) (does m call)
does_sound m (ReadWord at slot p len) = read_in m (ReadWord at slot p len) (read m p len) (λ word. tt) (read_at_sound m len (access m p len) (access_sound m p len))
does_sound m (WriteWord at slot p word) = done_in (WriteWord at slot p word) (write m p word) tt (laid_sound m word (write_access m p (length word)) (write_sound m p (length word)))
does_sound m (CopyRange at p q len overlap) = done_in (CopyRange at p q len overlap) (copy m p q len overlap) tt (copy_sound m p q len overlap)
does_sound m (Fill at p value len) = done_in (Fill at p value len) (fill m p value len) tt (fill_sound m p value len)
does_sound m (Make at kind size zeroed) = made_in (Make at kind size zeroed) (make m (At at) kind size zeroed) (λ p. tt) (make_sound m (At at) kind size zeroed)
does_sound m (Release at p) = done_in (Release at p) (release m p) tt (release_sound m p)
does_sound m (EndFrame names) = tt

-- ---- a tree

pub outcome_sound : {A : Type 0} (P : A → Type 0) (s : Script A) (m : Picture) → Safe P s → Sound P (outcome s m).0
outcome_sound P (Gives a) m h = h
outcome_sound P (Stops t) m h = h
outcome_sound P (Sizes p k) m h = outcome_sound P (k (size_of m p)) m (h (size_of m p))
outcome_sound {A = A} P (Asks call k) m h = go (λ r l q. outcome_sound P (k r) l (h r q)) (does m call) (does_sound m call)
  where
    go : ((r : Reply) (l : Picture) → Replies call r → Sound P (outcome (k r) l).0) → (d : Result (Reply × Picture) Trap) → Sound (In call) d → Sound P (elim d as (λ _. Result A Trap × Picture) [ Ok p ↦ outcome (k p.0) p.1 | Err t ↦ (Err t, m) ]).0
    go again (Ok p) q = again p.0 p.1 q
    go again (Err t) q = q
