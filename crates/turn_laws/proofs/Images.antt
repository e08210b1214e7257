-- What calls and trees do to an image: they touch live objects, and take the next names.
use Rattle.std.proofs.Common.{◌≡◌, ℕ, zero, suc, ◌+◌, ◌≤◌, ◌==◌, Bool, true, false, List, [], ◌∷◌, ◌++◌, length, map, Option, Some, None, Result, Ok, Err, refl, sym, ap, subst, ◌∙◌, arith, eqb-true, if◌then◌else◌}
use Rattle.std.specs.Prelude.{IfOk, nat_le, nat_lt, pos, negsuc, ◌||◌, replicate}
use Rattle.std.specs.List.{AllByRecursion}
use Rattle.std.proofs.lemmas.Bool.Decides.{nat_tests}
use Rattle.pv_base.specs.declared.place.Site.{Site}
use Rattle.pv_base.specs.declared.place.AllocSite.TheVariants.{At}
use Rattle.pv_base.specs.declared.place.Place.{Place}
use Rattle.mem_image.specs.declared.fault.Trap.{Trap as TrapWord}
use Rattle.mem_image.specs.declared.fault.Trap.TheVariants.{Range, Overlap, Names}
use Rattle.mem_image.specs.declared.object.Pointer.{Pointer}
use Rattle.mem_image.specs.declared.object.Pointer.TheVariants.{Null, Obj, Fun}
use Rattle.mem_image.specs.declared.object.Byte.{Byte}
use Rattle.mem_image.specs.declared.object.Kind.{Kind}
use Rattle.mem_image.specs.declared.object.Kind.TheVariants.{Global, Stack, Heap}
use Rattle.mem_image.specs.declared.object.Byte.TheVariants.{Num}
use Rattle.mem_image.specs.declared.object.Object.{Object}
use Rattle.mem_image.specs.Picture.{Picture, find, size_of, reached, access, unfixed, write_access, read_at, laid, fill, copied, copy, name_limit, over, past, added, fresh, make, lay, bytes_from, apart, freed, released as freed_of, release}
use Rattle.mem_image.specs.Calls.{Call, ReadWord, WriteWord, CopyRange, Fill, Make, Release, EndFrame, Reply, Bytes, Made, Done, read_reply, made_reply, done_reply, does}
use Rattle.seq_effects.specs.Script.{Gives, Stops, Sizes, Asks}
use Rattle.turn_laws.specs.Over.{image_reply}
use Rattle.turn_laws.specs.Events.{Way, Reads, Writes, Access, Event, Touches, Makes, Releases, Ends, touched_from, touched, made_by, released, events, by_call, logged, accesses_of, names_made, RiseTo, IsLive}
use Rattle.turn_laws.specs.Laws.{AccessesJoin, AccessesAreLive, NamesRise}

-- ---- events one after another

pub accesses_join : AccessesJoin
accesses_join [] more = (refl, refl)
accesses_join (Touches a ∷ log) more = let next = accesses_join log more in (ap (λ (rest : List Access). a ∷ rest) next.0, next.1)
accesses_join (Makes site kind name size ∷ log) more = let next = accesses_join log more in (next.0, ap (λ (rest : List ℕ). name ∷ rest) next.1)
accesses_join (Releases site name ∷ log) more = accesses_join log more
accesses_join (Ends name ∷ log) more = accesses_join log more

pub rise_join : (low mid next : ℕ) (xs ys : List ℕ) → RiseTo low xs mid → RiseTo mid ys next → RiseTo low (xs ++ ys) next
rise_join low mid next [] ys h g = subst (λ (n : ℕ). RiseTo n ys next) h g
rise_join low mid next (x ∷ xs) ys h g = (h.0, rise_join (low + 1) mid next xs ys h.1 g)

pub rise_logs : (low mid next : ℕ) (log more : List Event) → RiseTo low (names_made log) mid → RiseTo mid (names_made more) next → RiseTo low (names_made (log ++ more)) next
rise_logs low mid next log more h g = subst (λ (names : List ℕ). RiseTo low names next) (sym (accesses_join log more).1) (rise_join low mid next (names_made log) (names_made more) h g)

quiet : (low next : ℕ) (log : List Event) → names_made log ≡ [] → next ≡ low → RiseTo low (names_made log) next
quiet low next log e h = subst (λ (names : List ℕ). RiseTo low names next) (sym e) h

all_join : (P : Access → Type 0) (xs ys : List Access) → AllByRecursion P xs → AllByRecursion P ys → AllByRecursion P (xs ++ ys)
all_join P [] ys h g = g
all_join P (x ∷ xs) ys h g = (h.0, all_join P xs ys h.1 g)

-- ---- what the events of a call are

no_names_from : (at : Site) (slot : ℕ) (way : Way) (name offset len : ℕ) → names_made (touched_from at slot way name offset len) ≡ []
no_names_from at slot way name offset zero = refl
no_names_from at slot way name offset (suc len) = no_names_from at slot way name (offset + 1) len

no_names : (at : Site) (slot : ℕ) (way : Way) (p : Pointer) (len : ℕ) → names_made (touched at slot way p len) ≡ []
no_names at slot way (Obj name (pos offset)) len = no_names_from at slot way name offset len
no_names at slot way (Obj name (negsuc offset)) len = refl
no_names at slot way Null len = refl
no_names at slot way (Fun index) len = refl

no_names_copied : (at : Site) (p q : Pointer) (len : ℕ) → names_made (touched at 1 Reads p len ++ touched at 0 Writes q len) ≡ []
no_names_copied at p q len = (accesses_join (touched at 1 Reads p len) (touched at 0 Writes q len)).1 ∙ rw (no_names at 1 Reads p len, no_names at 0 Writes q len) refl

no_names_released : (at : Site) (p : Pointer) → names_made (released at p) ≡ []
no_names_released at (Obj name offset) = refl
no_names_released at Null = refl
no_names_released at (Fun index) = refl

no_names_ended : (names : List ℕ) → names_made (map Ends names) ≡ []
no_names_ended [] = refl
no_names_ended (name ∷ names) = no_names_ended names

no_accesses_made : (at : Site) (kind : Kind) (size : ℕ) (r : Reply) → accesses_of (made_by at kind size r) ≡ []
no_accesses_made at kind size (Made (Obj name offset)) = refl
no_accesses_made at kind size (Made Null) = refl
no_accesses_made at kind size (Made (Fun index)) = refl
no_accesses_made at kind size (Bytes word) = refl
no_accesses_made at kind size Done = refl

no_accesses_released : (at : Site) (p : Pointer) → accesses_of (released at p) ≡ []
no_accesses_released at (Obj name offset) = refl
no_accesses_released at Null = refl
no_accesses_released at (Fun index) = refl

no_accesses_ended : (names : List ℕ) → accesses_of (map Ends names) ≡ []
no_accesses_ended [] = refl
no_accesses_ended (name ∷ names) = no_accesses_ended names

-- ---- the accesses of a call

always : {A : Type 0} (P : Type 0) (x : Result A TrapWord) → P → IfOk x (λ a. P)
always P (Ok a) h = h
always P (Err t) h = tt

module _ (m : Picture) where
  abbrev Live : List Event → Type 0
  Live log = AllByRecursion (IsLive m) (accesses_of log)

  live_from : (at : Site) (slot : ℕ) (way : Way) (name offset len : ℕ) (o : Object) → find name m.objects ≡ Some o → offset + len ≤ length o.bytes → Live (touched_from at slot way name offset len)
  live_from at slot way name offset zero o e le = tt
  live_from at slot way name offset (suc len) o e le = (record { object = o; found = e; inside = omega arith }, live_from at slot way name (offset + 1) len o e (omega arith))

  live_found : (at : Site) (slot : ℕ) (way : Way) (name offset len : ℕ) (o : Option Object) → find name m.objects ≡ o → IfOk (reached name (pos offset) len o) (λ p. Live (touched_from at slot way name offset len))
  live_found at slot way name offset len None e = tt
  live_found at slot way name offset len (Some x) e = go (nat_le (offset + len) (length x.bytes)) refl
    where
      go : (b : Bool) → nat_le (offset + len) (length x.bytes) ≡ b → IfOk {T = Place} {E = TrapWord} (if b then Ok (record { name = name; offset = offset }) else Err Range) (λ p. Live (touched_from at slot way name offset len))
      go true q = live_from at slot way name offset len x e (grind (arith, nat_tests))
      go false q = tt

  live_access : (at : Site) (slot : ℕ) (way : Way) (p : Pointer) (len : ℕ) → IfOk (access m p len) (λ place. Live (touched at slot way p len))
  live_access at slot way (Obj name (pos offset)) len = live_found at slot way name offset len (find name m.objects) refl
  live_access at slot way (Obj name (negsuc offset)) len = always _ (reached name (negsuc offset) len (find name m.objects)) tt
  live_access at slot way Null len = tt
  live_access at slot way (Fun index) len = tt

  live_none : (at : Site) (slot : ℕ) (way : Way) (p : Pointer) → Live (touched at slot way p 0)
  live_none at slot way (Obj name (pos offset)) = tt
  live_none at slot way (Obj name (negsuc offset)) = tt
  live_none at slot way Null = tt
  live_none at slot way (Fun index) = tt

  live_both : (log more : List Event) → Live log → Live more → Live (log ++ more)
  live_both log more h g = subst (AllByRecursion (IsLive m)) (sym (accesses_join log more).0) (all_join (IsLive m) (accesses_of log) (accesses_of more) h g)

  read_live : (log : List Event) (len : ℕ) (x : Result Place TrapWord) → IfOk x (λ place. Live log) → IfOk (read_reply m (read_at m len x)) (λ q. Live log)
  read_live log len (Ok place) h = h
  read_live log len (Err t) h = tt

  -- what is laid where an access falls
  laid_live : (log : List Event) (bytes : List Byte) (x : Result Place TrapWord) → IfOk x (λ place. Live log) → IfOk (done_reply (laid m bytes (unfixed m x))) (λ q. Live log)
  laid_live log bytes (Ok place) h = always (Live log) (done_reply (laid m bytes (unfixed m (Ok place)))) h
  laid_live log bytes (Err t) h = tt

  fill_live : (at : Site) (to : Pointer) (value len : ℕ) → IfOk (done_reply (fill m to value len)) (λ q. Live (touched at 0 Writes to len))
  fill_live at to value len = go (len == 0) refl
    where
      go : (b : Bool) → (len == 0) ≡ b → IfOk (done_reply (if b then Ok m else laid m (replicate len (Num value)) (write_access m to len))) (λ q. Live (touched at 0 Writes to len))
      go true e = let z = eqb-true len 0 e in rw z (live_none at 0 Writes to)
      go false e = laid_live (touched at 0 Writes to len) (replicate len (Num value)) (access m to len) (live_access at 0 Writes to len)

  copied_live : (log more : List Event) (len : ℕ) (overlap : Bool) (x y : Result Place TrapWord) → IfOk x (λ place. Live log) → IfOk y (λ place. Live more) → IfOk (done_reply (copied m len overlap x (unfixed m y))) (λ q. Live (log ++ more))
  copied_live log more len overlap (Ok p) (Ok q) h g = always (Live (log ++ more)) (done_reply (copied m len overlap (Ok p) (unfixed m (Ok q)))) (live_both log more h g)
  copied_live log more len overlap (Ok p) (Err t) h g = tt
  copied_live log more len overlap (Err t) y h g = tt

  copy_live : (at : Site) (to from : Pointer) (len : ℕ) (overlap : Bool) → IfOk (done_reply (copy m to from len overlap)) (λ q. Live (touched at 1 Reads from len ++ touched at 0 Writes to len))
  copy_live at to from len overlap = go (len == 0) refl
    where
      go : (b : Bool) → (len == 0) ≡ b → IfOk (done_reply (if b then Ok m else copied m len overlap (access m from len) (write_access m to len))) (λ q. Live (touched at 1 Reads from len ++ touched at 0 Writes to len))
      go true e = let z = eqb-true len 0 e in rw z (live_both (touched at 1 Reads from 0) (touched at 0 Writes to 0) (live_none at 1 Reads from) (live_none at 0 Writes to))
      go false e = copied_live (touched at 1 Reads from len) (touched at 0 Writes to len) len overlap (access m from len) (access m to len) (live_access at 1 Reads from len) (live_access at 0 Writes to len)

  no_live : (log : List Event) → accesses_of log ≡ [] → Live log
  no_live log e = subst (AllByRecursion (IsLive m)) (sym e) tt

  made_live : (at : Site) (kind : Kind) (size : ℕ) (x : Result (Reply × Picture) TrapWord) → IfOk x (λ q. Live (made_by at kind size q.0))
  made_live at kind size (Ok q) = no_live (made_by at kind size q.0) (no_accesses_made at kind size q.0)
  made_live at kind size (Err t) = tt

  call_live : (call : Call) → IfOk (does m call) (λ q. Live (events call q.0))
  call_live (ReadWord at slot from len) = read_live (touched at slot Reads from len) len (access m from len) (live_access at slot Reads from len)
  call_live (WriteWord at slot to word) = laid_live (touched at slot Writes to (length word)) word (access m to (length word)) (live_access at slot Writes to (length word))
  call_live (CopyRange at to from len overlap) = copy_live at to from len overlap
  call_live (Fill at to value len) = fill_live at to value len
  call_live (Make at kind size zeroed) = made_live at kind size (does m (Make at kind size zeroed))
  call_live (Release at pointer) = always (Live (released at pointer)) (does m (Release at pointer)) (no_live (released at pointer) (no_accesses_released at pointer))
  call_live (EndFrame names) = no_live (map Ends names) (no_accesses_ended names)

of_ok : {A : Type 0} (P : A → Type 0) (x : Result A TrapWord) (a : A) → IfOk x P → x ≡ Ok a → P a
of_ok P x a h e = rw e at h

pub accesses_are_live : AccessesAreLive
accesses_are_live m n call r e = of_ok (λ (q : Reply × Picture). Live m (events call q.0)) (does m call) (r, n) (call_live m call) e

-- ---- the names that a call gives

module _ (m : Picture) where
  abbrev Rises : List Event → Picture → Type 0
  Rises log n = RiseTo m.next (names_made log) n.next

  -- the next name stays, and no object is made
  done_rises : (log : List Event) → names_made log ≡ [] → (x : Result Picture TrapWord) → IfOk x (λ n. n.next ≡ m.next) → IfOk (done_reply x) (λ q. Rises log q.1)
  done_rises log e (Ok n) h = quiet m.next n.next log e h
  done_rises log e (Err t) h = tt

  read_rises : (log : List Event) → names_made log ≡ [] → (len : ℕ) (x : Result Place TrapWord) → IfOk (read_reply m (read_at m len x)) (λ q. Rises log q.1)
  read_rises log e len (Ok place) = quiet m.next m.next log e refl
  read_rises log e len (Err t) = tt

  laid_next : (bytes : List Byte) (x : Result Place TrapWord) → IfOk (laid m bytes x) (λ n. n.next ≡ m.next)
  laid_next bytes (Ok place) = refl
  laid_next bytes (Err t) = tt

  same_if : (b : Bool) (x : Result Picture TrapWord) → IfOk x (λ n. n.next ≡ m.next) → IfOk (if b then Ok m else x) (λ n. n.next ≡ m.next)
  same_if true x h = refl
  same_if false x h = h

  copied_next : (len : ℕ) (overlap : Bool) (x y : Result Place TrapWord) → IfOk (copied m len overlap x y) (λ n. n.next ≡ m.next)
  copied_next len overlap (Err t) y = tt
  copied_next len overlap (Ok p) (Err t) = tt
  copied_next len overlap (Ok p) (Ok q) = go (overlap || apart p q len)
    where
      go : (b : Bool) → IfOk {T = Picture} {E = TrapWord} (if b then Ok (lay m q (bytes_from m p len)) else Err Overlap) (λ n. n.next ≡ m.next)
      go true = refl
      go false = tt

  freed_next : (name : ℕ) (kind : Kind) → IfOk (freed m name kind) (λ n. n.next ≡ m.next)
  freed_next name Heap = refl
  freed_next name Stack = tt
  freed_next name Global = tt

  released_next : (name : ℕ) (o : Option Object) → IfOk (freed_of m name o) (λ n. n.next ≡ m.next)
  released_next name None = tt
  released_next name (Some o) = freed_next name o.kind

  release_next : (p : Pointer) → IfOk (release m p) (λ n. n.next ≡ m.next)
  release_next (Obj name (pos zero)) = released_next name (find name m.objects)
  release_next (Obj name (pos (suc o))) = tt
  release_next (Obj name (negsuc o)) = tt
  release_next Null = tt
  release_next (Fun index) = tt

  past_rises : (at : Site) (kind : Kind) (size : ℕ) → IfOk (made_reply (past kind m)) (λ q. Rises (made_by at kind size q.0) q.1)
  past_rises at Heap size = refl
  past_rises at Stack size = tt
  past_rises at Global size = tt

  made_rises : (at : Site) (kind : Kind) (size : ℕ) (zeroed : Bool) → IfOk (made_reply (make m (At at) kind size zeroed)) (λ q. Rises (made_by at kind size q.0) q.1)
  made_rises at kind size zeroed = go (over m size) (nat_lt m.next name_limit)
    where
      go : (a b : Bool) → IfOk (made_reply (if a then past kind m else if b then Ok (Obj m.next (pos 0), added m (At at) kind false (fresh size zeroed)) else Err Names)) (λ q. Rises (made_by at kind size q.0) q.1)
      go true b = past_rises at kind size
      go false true = (refl, refl)
      go false false = tt

  call_rises : (call : Call) → IfOk (does m call) (λ q. Rises (events call q.0) q.1)
  call_rises (ReadWord at slot from len) = read_rises (touched at slot Reads from len) (no_names at slot Reads from len) len (access m from len)
  call_rises (WriteWord at slot to word) = done_rises (touched at slot Writes to (length word)) (no_names at slot Writes to (length word)) (laid m word (write_access m to (length word))) (laid_next word (write_access m to (length word)))
  call_rises (CopyRange at to from len overlap) =
      done_rises (touched at 1 Reads from len ++ touched at 0 Writes to len) (no_names_copied at from to len) (copy m to from len overlap)
      (same_if (len == 0) (copied m len overlap (access m from len) (write_access m to len)) (copied_next len overlap (access m from len) (write_access m to len)))
  call_rises (Fill at to value len) =
      done_rises (touched at 0 Writes to len) (no_names at 0 Writes to len) (fill m to value len)
      (same_if (len == 0) (laid m (replicate len (Num value)) (write_access m to len)) (laid_next (replicate len (Num value)) (write_access m to len)))
  call_rises (Make at kind size zeroed) = made_rises at kind size zeroed
  call_rises (Release at pointer) = done_rises (released at pointer) (no_names_released at pointer) (release m pointer) (release_next pointer)
  call_rises (EndFrame names) = quiet m.next m.next (map Ends names) (no_names_ended names) refl

pub names_rise : (A : Type 0) → NamesRise A
names_rise A (Gives a) m = refl
names_rise A (Stops t) m = refl
names_rise A (Sizes p k) m = names_rise A (k (size_of m p)) m
names_rise A (Asks call k) m = go (λ r n. names_rise A (k r) n) (does m call) (call_rises m call)
  where
    go : ((r : Reply) (n : Picture) → RiseTo n.next (names_made (logged (k r) n).log) (logged (k r) n).memory.next) → (d : Result (Reply × Picture) TrapWord) → IfOk d (λ q. Rises m (events call q.0) q.1)
        → RiseTo m.next (names_made (by_call call (image_reply m d) (λ r n. logged (k r) n)).log) (by_call call (image_reply m d) (λ r n. logged (k r) n)).memory.next
    go again (Ok q) h = rise_logs m.next q.1.next (logged (k q.0) q.1).memory.next (events call q.0) (logged (k q.0) q.1).log h (again q.0 q.1)
    go again (Err t) h = refl
