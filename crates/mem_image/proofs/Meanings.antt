-- The laws of the calls, from their definitions.
use Rattle.std.proofs.Common.{◌≡◌, ◌≢◌, ℕ, suc, zero, max, ◌+◌, ◌<◌, ◌≤◌, ◌==◌, ◌||◌, ℤ, pos, negsuc, nat_le, nat_lt, Bool, true, false, List, [], ◌∷◌, length, slice_range, replicate, Option, Some, None, Result, Ok, Err, arith, refl, sym, ◌∙◌, ap, subst, if◌then◌else◌, inl, inr}
use Rattle.std.proofs.lemmas.Grind.{common_steps}
use Rattle.std.proofs.lemmas.Bool.Decides.{nat_tests, eqb_tells}
use Rattle.std.proofs.lemmas.List.{length-replicate}
use Rattle.std.proofs.lemmas.List.Elements.{All-replicate}
use Rattle.std.specs.List.{All}
use Rattle.pv_base.specs.declared.place.AllocSite.{AllocSite}
use Rattle.pv_base.specs.declared.place.AllocSite.TheVariants.{At}
use Rattle.pv_base.specs.declared.place.Place.{Place}
use Rattle.mem_image.specs.declared.object.Pointer.{Pointer}
use Rattle.mem_image.specs.declared.object.Pointer.TheVariants.{Null, Obj, Fun}
use Rattle.mem_image.specs.declared.object.Byte.{Byte}
use Rattle.mem_image.specs.declared.object.Byte.TheVariants.{Unset, Num}
use Rattle.mem_image.specs.declared.object.Kind.{Kind}
use Rattle.mem_image.specs.declared.object.Kind.TheVariants.{Global, Stack, Heap}
use Rattle.mem_image.specs.declared.object.Object.{Object}
use Rattle.mem_image.specs.declared.fault.Trap.{Trap}
use Rattle.mem_image.specs.declared.fault.Trap.TheVariants.{Names}
use Rattle.pv_base.specs.Limits.{live_limit}
use Rattle.mem_image.specs.Picture.{Picture, PartFits, Rising, IsPicture, live, name_limit, find, with_bytes, without, bytes_of, bytes_at, is_fixed, reached, access, unfixed, write_access, bytes_from, read, read_at, spliced, lay, laid, write, fill, copied, copy, apart, over, added, fresh, past, make, remove, freed, released, release, end_frame, passed_over}
use Rattle.mem_image.specs.Calls.{Call, Reply, does, done_reply, made_reply, read_reply, ReadWord, WriteWord, CopyRange, Fill, Make, Release, EndFrame, Bytes, Made, Done}
use Rattle.mem_image.specs.Laws.{IsCall}
use Rattle.mem_image.proofs.Objects.{rising_higher, rising_without, rising_with_bytes, rising_pushed, parts_at, live_pushed, live_without, live_with_bytes, length_spliced, parts_spliced}

pub if_ok : {A E : Type 0} (b : Bool) (x y : A) (t : E) → (if b then Ok x else Err t) ≡ Ok y → (b ≡ true) × (x ≡ y)
if_ok true x y t e = (refl, cc)
if_ok false x y t e = absurd (cc)

unless_ok : {A E : Type 0} (b : Bool) (x y : A) (t : E) → (if b then Err t else Ok x) ≡ Ok y → x ≡ y
unless_ok true x y t e = absurd (cc)
unless_ok false x y t e = cc

pub reached_inside : (name : ℕ) (offset : ℤ) (len : ℕ) (f : Option Object) (place : Place) → reached name offset len f ≡ Ok place → (place.name ≡ name) × (place.offset + len ≤ length (bytes_of f))
reached_inside name offset len None place e = absurd (cc)
reached_inside name (negsuc o) len (Some x) place e = absurd (cc)
reached_inside name (pos o) len (Some x) place e =
    let h = if_ok (nat_le (o + len) (length x.bytes)) (record { name = name; offset = o }) place _ e in
    let fits : o + len ≤ length x.bytes = grind (arith, nat_tests, h.0) in
    (sym (ap (λ p. p.name) h.1), rw (sym (ap (λ p. p.offset) h.1)) fits)

-- an access falls inside its object
access_inside : (m : Picture) (p : Pointer) (len : ℕ) (place : Place) → access m p len ≡ Ok place → place.offset + len ≤ length (bytes_at place.name m.objects)
access_inside m Null len place e = absurd (cc)
access_inside m (Fun index) len place e = absurd (cc)
access_inside m (Obj name offset) len place e =
    let h = reached_inside name offset len (find name m.objects) place e in
    rw h.0 h.1

unfixed_is : (m : Picture) (r : Result Place Trap) (place : Place) → unfixed m r ≡ Ok place → r ≡ Ok place
unfixed_is m (Ok p) place e = ap Ok (unless_ok (is_fixed (find p.name m.objects)) p place _ e)
unfixed_is m (Err t) place e = absurd (cc)

write_inside : (m : Picture) (p : Pointer) (len : ℕ) (place : Place) → write_access m p len ≡ Ok place → place.offset + len ≤ length (bytes_at place.name m.objects)
write_inside m p len place e = access_inside m p len place (unfixed_is m (access m p len) place e)

-- the memory with other bytes at a place
pub lay_keeps : (m : Picture) (place : Place) (bytes : List Byte) → IsPicture m → place.offset + length bytes ≤ length (bytes_at place.name m.objects) → All PartFits bytes → IsPicture (lay m place bytes)
lay_keeps m place bytes k le parts =
    let whole = parts_at place.name m.objects 0 m.next k.rising in
    let len = length_spliced (bytes_at place.name m.objects) bytes place.offset le in
    record {
      rising = rising_with_bytes place.name _ m.objects 0 m.next (parts_spliced (bytes_at place.name m.objects) bytes place.offset whole parts) k.rising;
      live = rw (live_with_bytes place.name (spliced (bytes_at place.name m.objects) place.offset bytes) m.objects len) k.live;
      names = k.names;
    }

laid_keeps : (m n : Picture) (bytes : List Byte) (r : Result Place Trap) → IsPicture m → All PartFits bytes → ((place : Place) → r ≡ Ok place → place.offset + length bytes ≤ length (bytes_at place.name m.objects)) → laid m bytes r ≡ Ok n → IsPicture n
laid_keeps m n bytes (Ok place) k parts inside e = let same : lay m place bytes ≡ n = cc in subst IsPicture same (lay_keeps m place bytes k (inside place refl) parts)
laid_keeps m n bytes (Err t) k parts inside e = absurd (cc)

pub remove_keeps : (m : Picture) (name : ℕ) → IsPicture m → IsPicture (remove m name)
remove_keeps m name k = record {
  rising = rising_without name m.objects 0 m.next k.rising;
  live = omega (arith, live_without name m.objects, k.live);
  names = k.names;
}

pub all_keep : (names : List ℕ) (m : Picture) → IsPicture m → IsPicture (end_frame m names)
all_keep [] m k = k
all_keep (name ∷ names) m k = all_keep names (remove m name) (remove_keeps m name k)

pub added_keeps : (m : Picture) (site : AllocSite) (kind : Kind) (fixed : Bool) (bytes : List Byte) → IsPicture m → live m.objects + length bytes ≤ live_limit → m.next < name_limit → All PartFits bytes → IsPicture (added m site kind fixed bytes)
added_keeps m site kind fixed bytes k room names parts = record {
  rising = rising_pushed m.objects 0 m.next (record { name = m.next; site = site; kind = kind; fixed = fixed; bytes = bytes }) k.rising (omega arith) refl parts;
  live = omega (arith, live_pushed m.objects (record { name = m.next; site = site; kind = kind; fixed = fixed; bytes = bytes }), room);
  names = omega (arith, names);
}

pub passed_keeps : (m : Picture) (next : ℕ) → IsPicture m → next ≤ name_limit → IsPicture (passed_over m next)
passed_keeps m next k le = record { rising = rising_higher m.objects 0 m.next (max m.next next) k.rising (omega arith); live = k.live; names = omega (arith, le, k.names) }

abbrev state : Picture → Result (Reply × Picture) Trap → Picture
state m (Ok p) = p.1
state m (Err t) = m

-- the memory after a call that answered
after : (m n : Picture) (r reply : Reply) → ◌≡◌ {A = Result (Reply × Picture) Trap} (Ok (r, m)) (Ok (reply, n)) → m ≡ n
after m n r reply e = ap (state m) e

done_is : (r : Result Picture Trap) (reply : Reply) (n : Picture) → done_reply r ≡ Ok (reply, n) → r ≡ Ok n
done_is (Ok m) reply n e = ap Ok (after m n Done reply e)
done_is (Err t) reply n e = absurd (cc)

read_leaves : (m : Picture) (r : Result (List Byte) Trap) (reply : Reply) (n : Picture) → read_reply m r ≡ Ok (reply, n) → m ≡ n
read_leaves m (Ok w) reply n e = after m n (Bytes w) reply e
read_leaves m (Err t) reply n e = absurd (cc)

write_keeps : (m n : Picture) (to : Pointer) (word : List Byte) → IsPicture m → All PartFits word → write m to word ≡ Ok n → IsPicture n
write_keeps m n to word k parts e = laid_keeps m n word (write_access m to (length word)) k parts (write_inside m to (length word)) e

fill_keeps : (m n : Picture) (to : Pointer) (value len : ℕ) (b : Bool) → IsPicture m → (if b then Ok m else laid m (replicate len (Num value)) (write_access m to len)) ≡ Ok n → IsPicture n
fill_keeps m n to value len true k e = let same : m ≡ n = cc in subst IsPicture same k
fill_keeps m n to value len false k e = laid_keeps m n (replicate len (Num value)) (write_access m to len) k (All-replicate PartFits len (Num value) tt) (λ place q. rw (length-replicate len (Num value)) (write_inside m to len place q)) e

copied_keeps : (m n : Picture) (len : ℕ) (overlap : Bool) (source target : Result Place Trap) → IsPicture m → ((p : Place) → source ≡ Ok p → p.offset + len ≤ length (bytes_at p.name m.objects)) → ((p : Place) → target ≡ Ok p → p.offset + len ≤ length (bytes_at p.name m.objects)) → copied m len overlap source target ≡ Ok n → IsPicture n
copied_keeps m n len overlap (Err t) target k s d e = absurd (cc)
copied_keeps m n len overlap (Ok p) (Err t) k s d e = absurd (cc)
copied_keeps m n len overlap (Ok p) (Ok q) k s d e =
    let same = if_ok (overlap || apart p q len) (lay m q (bytes_from m p len)) n _ e in
    let all : length (bytes_from m p len) ≡ len = grind (arith, common_steps, s p refl) in
    let parts : All PartFits (bytes_from m p len) = grind (arith, common_steps, parts_at p.name m.objects 0 m.next k.rising) in
    subst IsPicture same.1 (lay_keeps m q (bytes_from m p len) k (rw all (d q refl)) parts)

copy_keeps : (m n : Picture) (to from : Pointer) (len : ℕ) (overlap b : Bool) → IsPicture m → (if b then Ok m else copied m len overlap (access m from len) (write_access m to len)) ≡ Ok n → IsPicture n
copy_keeps m n to from len overlap true k e = let same : m ≡ n = cc in subst IsPicture same k
copy_keeps m n to from len overlap false k e = copied_keeps m n len overlap (access m from len) (write_access m to len) k (access_inside m from len) (write_inside m to len) e

past_keeps : (m n : Picture) (kind : Kind) (reply : Reply) → made_reply (past kind m) ≡ Ok (reply, n) → m ≡ n
past_keeps m n Heap reply e = after m n (Made Null) reply e
past_keeps m n Stack reply e = absurd (cc)
past_keeps m n Global reply e = absurd (cc)

fresh_parts : (size : ℕ) (zeroed : Bool) → All PartFits (fresh size zeroed)
fresh_parts size true = All-replicate PartFits size (Num 0) tt
fresh_parts size false = All-replicate PartFits size Unset tt

make_keeps : (m n : Picture) (site : AllocSite) (kind : Kind) (size : ℕ) (zeroed : Bool) (reply : Reply) → IsPicture m → made_reply (make m site kind size zeroed) ≡ Ok (reply, n) → IsPicture n
make_keeps m n site kind size zeroed reply k e = within (over m size) (nat_lt m.next name_limit) refl refl e
  where
    within : (o l : Bool) → over m size ≡ o → nat_lt m.next name_limit ≡ l → made_reply (if o then past kind m else if l then Ok (Obj m.next (pos 0), added m site kind false (fresh size zeroed)) else Err Names) ≡ Ok (reply, n) → IsPicture n
    within true l p q e = subst IsPicture (past_keeps m n kind reply e) k
    within false false p q e = absurd (cc)
    within false true p q e =
        let room : live m.objects + length (fresh size zeroed) ≤ live_limit = rw (length-replicate size (if zeroed then Num 0 else Unset)) (grind (arith, nat_tests, p)) in
        let names : m.next < name_limit = grind (arith, nat_tests, q) in
        subst IsPicture (after (added m site kind false (fresh size zeroed)) n (Made (Obj m.next (pos 0))) reply e) (added_keeps m site kind false (fresh size zeroed) k room names (fresh_parts size zeroed))

freed_is : (m n : Picture) (name : ℕ) (kind : Kind) → freed m name kind ≡ Ok n → remove m name ≡ n
freed_is m n name Heap e = cc
freed_is m n name Stack e = absurd (cc)
freed_is m n name Global e = absurd (cc)

released_is : (m n : Picture) (name : ℕ) (f : Option Object) → released m name f ≡ Ok n → remove m name ≡ n
released_is m n name None e = absurd (cc)
released_is m n name (Some o) e = freed_is m n name o.kind e

release_is : (m n : Picture) (name : ℕ) (offset : ℤ) → release m (Obj name offset) ≡ Ok n → remove m name ≡ n
release_is m n name (pos zero) e = released_is m n name (find name m.objects) e
release_is m n name (pos (suc o)) e = absurd (cc)
release_is m n name (negsuc o) e = absurd (cc)

release_keeps : (m n : Picture) (pointer : Pointer) → IsPicture m → release m pointer ≡ Ok n → IsPicture n
release_keeps m n Null k e = absurd (cc)
release_keeps m n (Fun index) k e = absurd (cc)
release_keeps m n (Obj name offset) k e = subst IsPicture (release_is m n name offset e) (remove_keeps m name k)

pub calls_keep : (m n : Picture) (call : Call) (reply : Reply) → IsPicture m → IsCall call → does m call ≡ Ok (reply, n) → IsPicture n
calls_keep m n (ReadWord site slot from len) reply k w e = subst IsPicture (read_leaves m (read m from len) reply n e) k
calls_keep m n (WriteWord site slot to word) reply k w e = write_keeps m n to word k w (done_is (write m to word) reply n e)
calls_keep m n (CopyRange site to from len overlap) reply k w e = copy_keeps m n to from len overlap (len == 0) k (done_is (copy m to from len overlap) reply n e)
calls_keep m n (Fill site to value len) reply k w e = fill_keeps m n to value len (len == 0) k (done_is (fill m to value len) reply n e)
calls_keep m n (Make site kind size zeroed) reply k w e = make_keeps m n (At site) kind size zeroed reply k e
calls_keep m n (Release site pointer) reply k w e = release_keeps m n pointer k (done_is (release m pointer) reply n e)
calls_keep m n (EndFrame names) reply k w e = subst IsPicture (after (end_frame m names) n Done reply e) (all_keep names m k)

pub find_others : (name other : ℕ) (bytes : List Byte) (os : List Object) → other ≢ name → find other (with_bytes name bytes os) ≡ find other os
find_others name other bytes [] ne = refl
find_others name other bytes (o ∷ os) ne = elim (eqb_tells name o.name) [
  | inl h ↦ rw h.0 (grind (arith, nat_tests, h.1, ne))
  | inr h ↦ rw (h.0, find_others name other bytes os ne) refl
]

some_is : (x o : Object) → Some x ≡ Some o → x ≡ o
some_is x o e = cc

pub find_same : (name : ℕ) (bytes : List Byte) (os : List Object) (o : Object) → find name os ≡ Some o → find name (with_bytes name bytes os) ≡ Some (record o { bytes = bytes })
find_same name bytes [] o e = absurd (cc)
find_same name bytes (x ∷ os) o e = elim (eqb_tells name x.name) [
  | inl h ↦ let same : x ≡ o = some_is x o (rw h.0 at e) in rw (h.0, ← same, h.0) refl
  | inr h ↦ rw (h.0, h.0) (find_same name bytes os o (rw h.0 at e))
]

pub find_above : (name : ℕ) (os : List Object) (low n : ℕ) → Rising low os n → name < low → find name os ≡ None
find_above name [] low n h lt = refl
find_above name (o ∷ os) low n h lt = elim (eqb_tells name o.name) [
  | inl q ↦ absurd (omega (arith, q.1, lt, h.0))
  | inr q ↦ rw q.0 (find_above name os (o.name + 1) n h.3 (omega (arith, lt, h.0)))
]

pub find_removed : (name : ℕ) (os : List Object) (low n : ℕ) → Rising low os n → find name (without name os) ≡ None
find_removed name [] low n h = refl
find_removed name (o ∷ os) low n h = elim (eqb_tells name o.name) [
  | inl q ↦ rw q.0 (find_above name os (o.name + 1) n h.3 (omega (arith, q.1)))
  | inr q ↦ rw (q.0, q.0) (find_removed name os (o.name + 1) n h.3)
]

pub find_kept : (name other : ℕ) (os : List Object) → other ≢ name → find other (without name os) ≡ find other os
find_kept name other [] ne = refl
find_kept name other (o ∷ os) ne = elim (eqb_tells name o.name) [
  | inl h ↦ rw h.0 (grind (arith, nat_tests, h.1, ne))
  | inr h ↦ rw (h.0, find_kept name other os ne) refl
]

pub released_is_dead : (m n : Picture) (name : ℕ) (offset : ℤ) → IsPicture m → release m (Obj name offset) ≡ Ok n → (find name n.objects ≡ None) × ((other : ℕ) → other ≢ name → find other n.objects ≡ find other m.objects)
released_is_dead m n name offset k e =
    let same = release_is m n name offset e in (
      subst (λ x. find name x.objects ≡ None) same (find_removed name m.objects 0 m.next k.rising),
      λ other ne. subst (λ x. find other x.objects ≡ find other m.objects) same (find_kept name other m.objects ne),
    )

laid_is : (m n : Picture) (bytes : List Byte) (r : Result Place Trap) → laid m bytes r ≡ Ok n → (place : Place) × (r ≡ Ok place) × (lay m place bytes ≡ n)
laid_is m n bytes (Ok place) e = (place, refl, cc)
laid_is m n bytes (Err t) e = absurd (cc)

access_name : (m : Picture) (name : ℕ) (offset : ℤ) (len : ℕ) (place : Place) → write_access m (Obj name offset) len ≡ Ok place → place.name ≡ name
access_name m name offset len place e = (reached_inside name offset len (find name m.objects) place (unfixed_is m (access m (Obj name offset) len) place e)).0

pub others_stay : (m n : Picture) (name other : ℕ) (offset : ℤ) (word : List Byte) → write m (Obj name offset) word ≡ Ok n → other ≢ name → find other n.objects ≡ find other m.objects
others_stay m n name other offset word e ne =
    let at = laid_is m n word (write_access m (Obj name offset) (length word)) e in
    let here = access_name m name offset (length word) at.0 at.1 in
    subst (λ x. find other x.objects ≡ find other m.objects) at.2 (find_others at.0.name other _ m.objects (rw here ne))

spliced_here : (bytes word : List Byte) (at : ℕ) → at + length word ≤ length bytes → slice_range (spliced bytes at word) at (at + length word) ≡ word
spliced_here bytes word at le = grind (arith, common_steps)

reached_same : (name : ℕ) (offset : ℤ) (len : ℕ) (f : Option Object) (o : Object) (place : Place) → reached name offset len f ≡ Ok place → length o.bytes ≡ length (bytes_of f) → reached name offset len (Some o) ≡ Ok place
reached_same name offset len None o place e same = absurd (cc)
reached_same name (negsuc k) len (Some x) o place e same = absurd (cc)
reached_same name (pos k) len (Some x) o place e same = rw same e

reached_some : (name : ℕ) (offset : ℤ) (len : ℕ) (f : Option Object) (place : Place) → reached name offset len f ≡ Ok place → (o : Object) × (f ≡ Some o)
reached_some name offset len None place e = absurd (cc)
reached_some name offset len (Some x) place e = (x, refl)

laid_reads : (m : Picture) (name : ℕ) (offset : ℤ) (word : List Byte) (place : Place) (o : Object) → access m (Obj name offset) (length word) ≡ Ok place → find place.name m.objects ≡ Some o → place.name ≡ name → read (lay m place word) (Obj name offset) (length word) ≡ Ok word
laid_reads m name offset word place o e f same =
    let fits : place.offset + length word ≤ length (bytes_at place.name m.objects) = access_inside m (Obj name offset) (length word) place e in
    let there : find place.name (lay m place word).objects ≡ Some (record o { bytes = spliced (bytes_at place.name m.objects) place.offset word }) = find_same place.name (spliced (bytes_at place.name m.objects) place.offset word) m.objects o f in
    let here : find name (lay m place word).objects ≡ Some (record o { bytes = spliced (bytes_at place.name m.objects) place.offset word }) = rw (← same) there in
    let len : length (spliced (bytes_at place.name m.objects) place.offset word) ≡ length (bytes_of (find name m.objects)) = length_spliced (bytes_at place.name m.objects) word place.offset fits ∙ ap (λ k. length (bytes_at k m.objects)) same in
    let again : access (lay m place word) (Obj name offset) (length word) ≡ Ok place = ap (reached name offset (length word)) here ∙ reached_same name offset (length word) (find name m.objects) (record o { bytes = spliced (bytes_at place.name m.objects) place.offset word }) place e len in
    ap (read_at (lay m place word) (length word)) again ∙ ap Ok (ap (λ x. slice_range (bytes_of x) place.offset (place.offset + length word)) there ∙ spliced_here (bytes_at place.name m.objects) word place.offset fits)

pub reads_back : (m n : Picture) (to : Pointer) (word : List Byte) → write m to word ≡ Ok n → read n to (length word) ≡ Ok word
reads_back m n Null word e = absurd (cc)
reads_back m n (Fun index) word e = absurd (cc)
reads_back m n (Obj name offset) word e =
    let at = laid_is m n word (write_access m (Obj name offset) (length word)) e in
    let fell = unfixed_is m (access m (Obj name offset) (length word)) at.0 at.1 in
    let here = (reached_inside name offset (length word) (find name m.objects) at.0 fell).0 in
    let some = reached_some name offset (length word) (find name m.objects) at.0 fell in
    subst (λ x. read x (Obj name offset) (length word) ≡ Ok word) at.2 (laid_reads m name offset word at.0 some.0 fell (ap (λ k. find k m.objects) here ∙ some.1) here)

copied_writes : (m n : Picture) (to from : Pointer) (len : ℕ) (overlap : Bool) (source target : Result Place Trap) → access m from len ≡ source → write_access m to len ≡ target → copied m len overlap source target ≡ Ok n
    → (word : List Byte) × (read m from len ≡ Ok word) × (length word ≡ len) × (write m to word ≡ Ok n)
copied_writes m n to from len overlap (Err t) target s d e = absurd (cc)
copied_writes m n to from len overlap (Ok p) (Err t) s d e = absurd (cc)
copied_writes m n to from len overlap (Ok p) (Ok q) s d e =
    let same = if_ok (overlap || apart p q len) (lay m q (bytes_from m p len)) n _ e in
    let all : length (bytes_from m p len) ≡ len = grind (arith, common_steps, access_inside m from len p s) in
    (bytes_from m p len, ap (read_at m len) s, all, rw all (ap (laid m (bytes_from m p len)) d ∙ ap Ok same.1))

not_empty : (len : ℕ) (b : Bool) → 0 < len → (len == 0) ≡ b → b ≡ false
not_empty len b h e = grind (arith, nat_tests)

pub copies_are_writes : (m n : Picture) (to from : Pointer) (len : ℕ) (overlap : Bool) → 0 < len → copy m to from len overlap ≡ Ok n → (word : List Byte) × (read m from len ≡ Ok word) × (length word ≡ len) × (write m to word ≡ Ok n)
copies_are_writes m n to from len overlap h e = copied_writes m n to from len overlap (access m from len) (write_access m to len) refl refl (rw (not_empty len (len == 0) h refl) at e)

pub fills_are_writes : (m n : Picture) (to : Pointer) (value len : ℕ) → 0 < len → fill m to value len ≡ Ok n → write m to (replicate len (Num value)) ≡ Ok n
fills_are_writes m n to value len h e =
    let f : laid m (replicate len (Num value)) (write_access m to len) ≡ Ok n = rw (not_empty len (len == 0) h refl) at e in
    rw (length-replicate len (Num value)) f
