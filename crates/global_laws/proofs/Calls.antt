-- Each call of a memory keeps its globals.
use Rattle.std.proofs.Common.{◌≡◌, ◌∙◌, ℕ, zero, suc, ◌+◌, ◌≤◌, ◌==◌, ◌||◌, nat_le, nat_lt, ℤ, pos, negsuc, List, [], ◌∷◌, length, replicate, Option, Some, None, Result, Ok, Err, Bool, true, false, refl, sym, ap, subst, arith, if◌then◌else◌}
use Rattle.std.proofs.lemmas.Grind.{common_steps}
use Rattle.std.proofs.lemmas.Bool.Decides.{nat_tests}
use Rattle.std.proofs.lemmas.List.{length-replicate}
use Rattle.pv_base.specs.declared.place.Place.{Place}
use Rattle.pv_base.specs.declared.place.Site.{Site}
use Rattle.pv_base.specs.declared.place.AllocSite.TheVariants as site
use Rattle.mem_image.specs.declared.object.Object.{Object}
use Rattle.mem_image.specs.declared.object.Byte.{Byte}
use Rattle.mem_image.specs.declared.object.Byte.TheVariants.{Num}
use Rattle.mem_image.specs.declared.object.Kind.{Kind}
use Rattle.mem_image.specs.declared.object.Kind.TheVariants as kind
use Rattle.mem_image.specs.declared.object.Pointer.{Pointer}
use Rattle.mem_image.specs.declared.object.Pointer.TheVariants.{Null, Obj, Fun}
use Rattle.mem_image.specs.declared.fault.Trap.{Trap}
use Rattle.mem_image.specs.declared.fault.Trap.TheVariants.{Overlap, Names}
use Rattle.mem_image.specs.Picture.{Picture, IsPicture, find, lay, laid, reached, access, unfixed, is_fixed, write_access, copied, past, added, make, over, fresh, freed, released, release, end_frame, bytes_from, bytes_of, bytes_at, apart, name_limit}
use Rattle.mem_image.specs.Calls.{Call, Reply, does, done_reply, made_reply, read_reply, ReadWord, WriteWord, CopyRange, Fill, Make, Release, EndFrame}
use Rattle.mem_image.proofs.Objects.{length_spliced}
use Rattle.seq_machine.specs.Owned.{AreSlots}
use Rattle.global_laws.proofs.Shapes.{Evolves, evolves_same, bytes_stay, pushed, removed_evolves, no_slot}

-- ---- where accesses fall

if_ok : {A E : Type 0} (b : Bool) (x y : A) (t : E) → (if b then Ok x else Err t) ≡ Ok y → (b ≡ true) × (x ≡ y)
if_ok true x y t e = (refl, cc)
if_ok false x y t e = absurd (cc)

unless_ok : {A E : Type 0} (b : Bool) (x y : A) (t : E) → (if b then Err t else Ok x) ≡ Ok y → x ≡ y
unless_ok true x y t e = absurd (cc)
unless_ok false x y t e = cc

reached_inside : (name : ℕ) (offset : ℤ) (len : ℕ) (f : Option Object) (place : Place) → reached name offset len f ≡ Ok place → (place.name ≡ name) × (place.offset + len ≤ length (bytes_of f))
reached_inside name offset len None place e = absurd (cc)
reached_inside name (negsuc o) len (Some x) place e = absurd (cc)
reached_inside name (pos o) len (Some x) place e =
    let h = if_ok (nat_le (o + len) (length x.bytes)) (record { name = name; offset = o }) place _ e in
    let fits : o + len ≤ length x.bytes = grind (arith, nat_tests, h.0) in
    (sym (ap (λ p. p.name) h.1), rw (sym (ap (λ p. p.offset) h.1)) fits)

access_inside : (m : Picture) (p : Pointer) (len : ℕ) (place : Place) → access m p len ≡ Ok place → place.offset + len ≤ length (bytes_at place.name m.objects)
access_inside m Null len place e = absurd (cc)
access_inside m (Fun index) len place e = absurd (cc)
access_inside m (Obj name offset) len place e =
    let h = reached_inside name offset len (find name m.objects) place e in
    rw h.0 h.1

unfixed_is : (m : Picture) (r : Result Place Trap) (place : Place) → unfixed m r ≡ Ok place → r ≡ Ok place
unfixed_is m (Ok p) place e = ap Ok (unless_ok (is_fixed (find p.name m.objects)) p place _ e)
unfixed_is m (Err t) place e = absurd (cc)

write_inside : (m : Picture) (p : Pointer) (len : ℕ) (place : Place) → write_access m p len ≡ Ok place → place.offset + len ≤ length (bytes_at place.name m.objects)
write_inside m p len place e = access_inside m p len place (unfixed_is m (access m p len) place e)

-- ---- replies

abbrev fine : {A : Type 0} → A → Result A Trap
fine a = Ok a

ok_same : {A : Type 0} (x y : A) → fine x ≡ Ok y → x ≡ y
ok_same x y e = cc

done_is : (x : Result Picture Trap) (r : Reply) (n : Picture) → done_reply x ≡ Ok (r, n) → x ≡ Ok n
done_is (Ok k) r n e = ap Ok (ap (λ (x : Reply × Picture). x.1) (ok_same _ _ e))
done_is (Err t) r n e = absurd (cc)

read_is : (m : Picture) (x : Result (List Byte) Trap) (r : Reply) (n : Picture) → read_reply m x ≡ Ok (r, n) → m ≡ n
read_is m (Ok word) r n e = ap (λ (x : Reply × Picture). x.1) (ok_same _ _ e)
read_is m (Err t) r n e = absurd (cc)

made_is : (x : Result (Pointer × Picture) Trap) (r : Reply) (n : Picture) → made_reply x ≡ Ok (r, n) → (p : Pointer) × (x ≡ Ok (p, n))
made_is (Ok (p, k)) r n e = (p, ap (λ q. Ok (p, q)) (ap (λ (x : Reply × Picture). x.1) (ok_same _ _ e)))
made_is (Err t) r n e = absurd (cc)

-- ---- writes

to_ok : (m k n : Picture) → Evolves m k → fine k ≡ Ok n → Evolves m n
to_ok m k n g e = subst (λ (x : Picture). Evolves m x) (ok_same k n e) g

lay_evolves : (m : Picture) (place : Place) (bytes : List Byte) → place.offset + length bytes ≤ length (bytes_at place.name m.objects) → Evolves m (lay m place bytes)
lay_evolves m place bytes le = λ name. bytes_stay place.name _ m.objects name (length_spliced (bytes_at place.name m.objects) bytes place.offset le)

laid_evolves : (m n : Picture) (bytes : List Byte) (r : Result Place Trap) → ((place : Place) → r ≡ Ok place → place.offset + length bytes ≤ length (bytes_at place.name m.objects)) → laid m bytes r ≡ Ok n → Evolves m n
laid_evolves m n bytes (Ok place) inside e = to_ok m (lay m place bytes) n (lay_evolves m place bytes (inside place refl)) e
laid_evolves m n bytes (Err t) inside e = absurd (cc)

if_evolves : (m n : Picture) (b : Bool) (x y : Result Picture Trap) → (x ≡ Ok n → Evolves m n) → (y ≡ Ok n → Evolves m n) → (if b then x else y) ≡ Ok n → Evolves m n
if_evolves m n true x y f g e = f e
if_evolves m n false x y f g e = g e

copied_evolves : (m n : Picture) (len : ℕ) (overlap : Bool) (from to : Result Place Trap)
    → ((p : Place) → from ≡ Ok p → p.offset + len ≤ length (bytes_at p.name m.objects)) → ((p : Place) → to ≡ Ok p → p.offset + len ≤ length (bytes_at p.name m.objects))
    → copied m len overlap from to ≡ Ok n → Evolves m n
copied_evolves m n len overlap (Ok p) (Ok q) s d e =
    let all : length (bytes_from m p len) ≡ len = grind (arith, common_steps, s p refl) in
    if_evolves m n (overlap || apart p q len) (Ok (lay m q (bytes_from m p len))) (Err Overlap) (to_ok m _ n (lay_evolves m q (bytes_from m p len) (rw all (d q refl)))) (λ x. absurd (cc)) e
copied_evolves m n len overlap (Ok p) (Err t) s d e = absurd (cc)
copied_evolves m n len overlap (Err t) to s d e = absurd (cc)

-- ---- new objects

no_global : (at : Site) (i : ℕ) → site.At at ≡ site.Global i → ⊥
no_global at i e = cc

pub added_evolves : (m : Picture) (at : Site) (k : Kind) (bytes : List Byte) → Evolves m (added m (site.At at) k false bytes)
added_evolves m at k bytes = λ name. pushed m.objects _ name (no_global at)

past_is : (k : Kind) (m n : Picture) (p : Pointer) → past k m ≡ Ok (p, n) → m ≡ n
past_is kind.Heap m n p e = ap (λ (x : Pointer × Picture). x.1) (ok_same _ _ e)
past_is kind.Stack m n p e = absurd (cc)
past_is kind.Global m n p e = absurd (cc)

made_evolves : (m n : Picture) (p : Pointer) (at : Site) (k : Kind) (size : ℕ) (zeroed : Bool) → make m (site.At at) k size zeroed ≡ Ok (p, n) → Evolves m n
made_evolves m n p at k size zeroed e = go (over m size) (nat_lt m.next name_limit) e
  where
    go : (a b : Bool) → (if a then past k m else if b then fine {A = Pointer × Picture} (Obj m.next (pos 0), added m (site.At at) k false (fresh size zeroed)) else Err Names) ≡ Ok (p, n) → Evolves m n
    go true b e = evolves_same m n (past_is k m n p e)
    go false true e = subst (λ (x : Picture). Evolves m x) (ap (λ (x : Pointer × Picture). x.1) (ok_same _ _ e)) (added_evolves m at k (fresh size zeroed))
    go false false e = absurd (cc)

-- ---- objects that go

freed_evolves : (m n : Picture) (name : ℕ) (o : Object) (k : Kind) → IsPicture m → find name m.objects ≡ Some o → o.kind ≡ k → freed m name k ≡ Ok n → Evolves m n
freed_evolves m n name o kind.Heap p f q e =
    let other : (x : ℕ) (y : Object) → find x m.objects ≡ Some y → y.kind ≡ kind.Global → x ≡ name → ⊥ = λ x y g k same. (let h : Some o ≡ Some y = sym f ∙ ap (λ (i : ℕ). find i m.objects) (sym same) ∙ g in let s : o ≡ y = cc in let t : o.kind ≡ kind.Global = ap (λ (z : Object). z.kind) s ∙ k in absurd (cc)) in
    to_ok m _ n (removed_evolves m (name ∷ []) p (λ x y g k. (other x y g k, tt))) e
freed_evolves m n name o kind.Stack p f q e = absurd (cc)
freed_evolves m n name o kind.Global p f q e = absurd (cc)

released_evolves : (m n : Picture) (name : ℕ) (f : Option Object) → IsPicture m → find name m.objects ≡ f → released m name f ≡ Ok n → Evolves m n
released_evolves m n name None p f e = absurd (cc)
released_evolves m n name (Some o) p f e = freed_evolves m n name o o.kind p f refl e

release_evolves : (m n : Picture) (x : Pointer) → IsPicture m → release m x ≡ Ok n → Evolves m n
release_evolves m n (Obj name (pos zero)) p e = released_evolves m n name (find name m.objects) p refl e
release_evolves m n (Obj name (pos (suc o))) p e = absurd (cc)
release_evolves m n (Obj name (negsuc o)) p e = absurd (cc)
release_evolves m n Null p e = absurd (cc)
release_evolves m n (Fun index) p e = absurd (cc)

pub end_evolves : (m : Picture) (names : List ℕ) → IsPicture m → AreSlots m names → Evolves m (end_frame m names)
end_evolves m names p h = removed_evolves m names p (λ name o f g. no_slot m names name o h f g)

-- ---- all calls

-- the names of a frame that ends are those of live stack slots
abbrev pub EndsSlots : Picture → Call → Type 0
EndsSlots m (ReadWord site slot from len) = Unit {0}
EndsSlots m (WriteWord site slot to word) = Unit {0}
EndsSlots m (CopyRange site to from len overlap) = Unit {0}
EndsSlots m (Fill site to value len) = Unit {0}
EndsSlots m (Make site kind size zeroed) = Unit {0}
EndsSlots m (Release site pointer) = Unit {0}
EndsSlots m (EndFrame names) = AreSlots m names

pub call_evolves : (m n : Picture) (call : Call) (r : Reply) → IsPicture m → EndsSlots m call → does m call ≡ Ok (r, n) → Evolves m n
call_evolves m n (ReadWord at slot from len) r p h e = evolves_same m n (read_is m _ r n e)
call_evolves m n (WriteWord at slot to word) r p h e = laid_evolves m n word (write_access m to (length word)) (write_inside m to (length word)) (done_is _ r n e)
call_evolves m n (CopyRange at to from len overlap) r p h e =
    if_evolves m n (len == 0) (Ok m) _ (λ q. evolves_same m n (ok_same m n q)) (copied_evolves m n len overlap (access m from len) (write_access m to len) (access_inside m from len) (write_inside m to len)) (done_is _ r n e)
call_evolves m n (Fill at to value len) r p h e =
    let inside : (place : Place) → write_access m to len ≡ Ok place → place.offset + length (replicate len (Num value)) ≤ length (bytes_at place.name m.objects) = λ place q. rw (length-replicate len (Num value)) (write_inside m to len place q) in
    if_evolves m n (len == 0) (Ok m) _ (λ q. evolves_same m n (ok_same m n q)) (laid_evolves m n _ (write_access m to len) inside) (done_is _ r n e)
call_evolves m n (Make at k size zeroed) r p h e = let x = made_is _ r n e in made_evolves m n x.0 at k size zeroed x.1
call_evolves m n (Release at pointer) r p h e = release_evolves m n pointer p (done_is _ r n e)
call_evolves m n (EndFrame names) r p h e = subst (λ (x : Picture). Evolves m x) (ap (λ (x : Reply × Picture). x.1) (ok_same _ _ e)) (end_evolves m names p h)
