-- Calls of a memory keep the stack slots of frames, but a frame's end, which releases its own.
use Rattle.std.proofs.Common.{◌≡◌, ◌∙◌, ◌<◌, ◌+◌, ◌==◌, ℕ, zero, suc, List, [], ◌∷◌, ◌++◌, length, Option, Some, None, Result, Ok, Err, Bool, true, false, refl, sym, ap, subst, arith, if◌then◌else◌}
use Rattle.std.specs.Prelude.{pos, negsuc, nat_lt, ◌||◌}
use Rattle.std.specs.List.{All}
use Rattle.std.proofs.lemmas.Bool.Decides.{nat_tests}
use Rattle.pv_base.specs.declared.place.Place.{Place}
use Rattle.pv_base.specs.declared.place.AllocSite.{AllocSite}
use Rattle.pv_base.specs.declared.place.AllocSite.TheVariants.{At}
use Rattle.mem_image.specs.declared.object.Object.{Object}
use Rattle.mem_image.specs.declared.object.Byte.{Byte}
use Rattle.mem_image.specs.declared.object.Kind.{Kind}
use Rattle.mem_image.specs.declared.object.Kind.TheVariants.{Stack, Heap, Global}
use Rattle.mem_image.specs.declared.object.Pointer.{Pointer}
use Rattle.mem_image.specs.declared.object.Pointer.TheVariants.{Null, Obj, Fun}
use Rattle.mem_image.specs.declared.fault.Trap.{Trap}
use Rattle.mem_image.specs.declared.fault.Trap.TheVariants.{Overlap, Names}
use Rattle.mem_image.specs.Picture.{Picture, PartFits, IsPicture, Rising, find, with_bytes, without, without_all, lay, laid, access, write_access, copied, added, make, over, fresh, freed, released, release, end_frame, bytes_from, apart, name_limit}
use Rattle.mem_image.specs.Calls.{Call, Reply, does, done_reply, made_reply, read_reply, ReadWord, WriteWord, CopyRange, Fill, Make, Release, EndFrame}
use Rattle.mem_image.specs.Laws.{IsCall}
use Rattle.seq_machine.specs.Owned.{IsSlot, AreSlots, Without, AreOnce}

-- every slot of one memory is one of the other
abbrev pub Grows : Picture → Picture → Type 0
Grows m n = (name : ℕ) → IsSlot (find name m.objects) → IsSlot (find name n.objects)

-- a call that releases no slot, and makes none
abbrev pub IsQuiet : Call → Type 0
IsQuiet (ReadWord site slot from len) = Unit {0}
IsQuiet (WriteWord site slot to word) = All PartFits word
IsQuiet (CopyRange site to from len overlap) = Unit {0}
IsQuiet (Fill site to value len) = Unit {0}
IsQuiet (Make site kind size zeroed) = kind ≡ Heap
IsQuiet (Release site pointer) = Unit {0}
IsQuiet (EndFrame names) = ⊥

pub quiet_call : (call : Call) → IsQuiet call → IsCall call
quiet_call (ReadWord site slot from len) h = tt
quiet_call (WriteWord site slot to word) h = h
quiet_call (CopyRange site to from len overlap) h = tt
quiet_call (Fill site to value len) h = tt
quiet_call (Make site kind size zeroed) h = tt
quiet_call (Release site pointer) h = tt
quiet_call (EndFrame names) h = tt

-- ---- objects

eq_true : (m n : ℕ) → (m == n) ≡ true → m ≡ n
eq_true m n e = grind (arith, nat_tests)

pick : (b : Bool) (x x' y y' : Option Object) → (IsSlot x → IsSlot x') → (IsSlot y → IsSlot y') → IsSlot (if b then x else y) → IsSlot (if b then x' else y')
pick true x x' y y' f g h = f h
pick false x x' y y' f g h = g h

behind : (b : Bool) (x y : Option Object) → (b ≡ true → ⊥) → IsSlot (if b then x else y) → IsSlot y
behind true x y ne h = absurd (ne refl)
behind false x y ne h = h

-- other bytes leave slots
slot_with_bytes : (k : ℕ) (bytes : List Byte) (os : List Object) (name : ℕ) → IsSlot (find name os) → IsSlot (find name (with_bytes k bytes os))
slot_with_bytes k bytes [] name h = h
slot_with_bytes k bytes (o ∷ os) name h = elim (k == o.name) as (λ b. IsSlot (find name (if b then record o { bytes = bytes } ∷ os else o ∷ with_bytes k bytes os))) [
  | true ↦ pick (name == o.name) (Some o) (Some (record o { bytes = bytes })) (find name os) (find name os) (λ s. s) (λ s. s) h
  | false ↦ pick (name == o.name) (Some o) (Some o) (find name os) (find name (with_bytes k bytes os)) (λ s. s) (slot_with_bytes k bytes os name) h
]

-- objects at the end leave slots
slot_pushed : (os more : List Object) (name : ℕ) → IsSlot (find name os) → IsSlot (find name (os ++ more))
slot_pushed [] more name h = elim h [ ]
slot_pushed (o ∷ os) more name h = pick (name == o.name) (Some o) (Some o) (find name os) (find name (os ++ more)) (λ s. s) (slot_pushed os more name) h

-- a slot of another name stays
slot_without : (k : ℕ) (os : List Object) (name : ℕ) → (name ≡ k → ⊥) → IsSlot (find name os) → IsSlot (find name (without k os))
slot_without k [] name ne h = h
slot_without k (o ∷ os) name ne h = (elim (k == o.name) as (λ b. (k == o.name) ≡ b → IsSlot (find name (if b then os else o ∷ without k os))) [
  | true ↦ λ e. behind (name == o.name) (Some o) (find name os) (λ q. ne (eq_true name o.name q ∙ sym (eq_true k o.name e))) h
  | false ↦ λ e. pick (name == o.name) (Some o) (Some o) (find name os) (find name (without k os)) (λ s. s) (slot_without k os name ne) h
]) refl

slot_without_all : (ks : List ℕ) (os : List Object) (name : ℕ) → Without name ks → IsSlot (find name os) → IsSlot (find name (without_all ks os))
slot_without_all [] os name w h = h
slot_without_all (k ∷ ks) os name w h = slot_without_all ks (without k os) name w.1 (slot_without k os name w.0 h)

-- a slot's name is below the next
slot_below : (os : List Object) (low next name : ℕ) → Rising low os next → IsSlot (find name os) → name < next
slot_below [] low next name r h = elim h [ ]
slot_below (o ∷ os) low next name r h = (elim (name == o.name) as (λ b. (name == o.name) ≡ b → IsSlot (if b then Some o else find name os) → name < next) [
  | true ↦ λ e s. let q : name ≡ o.name = eq_true name o.name e in omega (arith, q, r.1)
  | false ↦ λ e s. slot_below os (o.name + 1) next name r.3 s
]) refl h

-- a new slot stands under the next name
slot_new : (os : List Object) (low next : ℕ) (o : Object) → Rising low os next → o.name ≡ next → o.kind ≡ Stack → IsSlot (find next (os ++ o ∷ []))
slot_new [] low next o r e k = (elim (next == o.name) as (λ b. (next == o.name) ≡ b → IsSlot (if b then Some o else None)) [
  | true ↦ λ q. k
  | false ↦ λ q. absurd (grind (arith, nat_tests))
]) refl
slot_new (x ∷ os) low next o r e k = (elim (next == x.name) as (λ b. (next == x.name) ≡ b → IsSlot (if b then Some x else find next (os ++ o ∷ []))) [
  | true ↦ λ q. let same : next ≡ x.name = eq_true next x.name q in absurd (omega (arith, same, r.1))
  | false ↦ λ q. slot_new os (x.name + 1) next o r.3 e k
]) refl

-- ---- calls

abbrev fine : {A : Type 0} → A → Result A Trap
fine a = Ok a

ok_same : {A : Type 0} (x y : A) → fine x ≡ Ok y → x ≡ y
ok_same x y e = cc

grows_same : (m n : Picture) → m ≡ n → Grows m n
grows_same m n e = λ name h. subst (λ (x : Picture). IsSlot (find name x.objects)) e h

lay_grows : (m : Picture) (place : Place) (bytes : List Byte) → Grows m (lay m place bytes)
lay_grows m place bytes = λ name h. slot_with_bytes place.name _ m.objects name h

to_ok : (m k n : Picture) → Grows m k → fine k ≡ Ok n → Grows m n
to_ok m k n g e = λ name h. subst (λ (x : Picture). IsSlot (find name x.objects)) (ok_same k n e) (g name h)

laid_grows : (m n : Picture) (bytes : List Byte) (r : Result Place Trap) → laid m bytes r ≡ Ok n → Grows m n
laid_grows m n bytes (Ok place) e = to_ok m (lay m place bytes) n (lay_grows m place bytes) e
laid_grows m n bytes (Err t) e = absurd (cc)

if_grows : (m n : Picture) (b : Bool) (x y : Result Picture Trap) → (x ≡ Ok n → Grows m n) → (y ≡ Ok n → Grows m n) → (if b then x else y) ≡ Ok n → Grows m n
if_grows m n true x y f g e = f e
if_grows m n false x y f g e = g e

copied_grows : (m n : Picture) (len : ℕ) (overlap : Bool) (from to : Result Place Trap) → copied m len overlap from to ≡ Ok n → Grows m n
copied_grows m n len overlap (Ok source) (Ok target) e =
    if_grows m n (overlap || apart source target len) (Ok (lay m target (bytes_from m source len))) (Err Overlap) (to_ok m _ n (lay_grows m target _)) (λ q. absurd (cc)) e
copied_grows m n len overlap (Ok source) (Err t) e = absurd (cc)
copied_grows m n len overlap (Err t) to e = absurd (cc)

made_grows : (m n : Picture) (p : Pointer) (site : AllocSite) (size : ℕ) (zeroed : Bool) → make m site Heap size zeroed ≡ Ok (p, n) → Grows m n
made_grows m n p site size zeroed e = go (over m size) (nat_lt m.next name_limit) e
  where
    go : (a b : Bool) → (if a then fine {A = Pointer × Picture} (Null, m) else if b then Ok (Obj m.next (pos 0), added m site Heap false (fresh size zeroed)) else Err Names) ≡ Ok (p, n) → Grows m n
    go true b e = grows_same m n (ap (λ (x : Pointer × Picture). x.1) (ok_same _ _ e))
    go false true e = λ name h. subst (λ (x : Picture). IsSlot (find name x.objects)) (ap (λ (x : Pointer × Picture). x.1) (ok_same _ _ e)) (slot_pushed m.objects _ name h)
    go false false e = absurd (cc)

made_by : (m n : Picture) (p : Pointer) (site : AllocSite) (kind : Kind) (size : ℕ) (zeroed : Bool) → kind ≡ Heap → make m site kind size zeroed ≡ Ok (p, n) → Grows m n
made_by m n p site Heap size zeroed h e = made_grows m n p site size zeroed e
made_by m n p site Stack size zeroed h e = absurd (cc)
made_by m n p site Global size zeroed h e = absurd (cc)

freed_grows : (m n : Picture) (name : ℕ) (o : Object) (k : Kind) → find name m.objects ≡ Some o → o.kind ≡ k → freed m name k ≡ Ok n → Grows m n
freed_grows m n name o Heap f q e =
    let apart : (other : ℕ) → IsSlot (find other m.objects) → other ≡ name → ⊥ = λ other s same. (let t : o.kind ≡ Stack = rw (same, f) at s in absurd (cc)) in
    to_ok m _ n (λ other s. slot_without name m.objects other (apart other s) s) e
freed_grows m n name o Stack f q e = absurd (cc)
freed_grows m n name o Global f q e = absurd (cc)

released_grows : (m n : Picture) (name : ℕ) (f : Option Object) → find name m.objects ≡ f → released m name f ≡ Ok n → Grows m n
released_grows m n name None f e = absurd (cc)
released_grows m n name (Some o) f e = freed_grows m n name o o.kind f refl e

release_grows : (m n : Picture) (p : Pointer) → release m p ≡ Ok n → Grows m n
release_grows m n (Obj name (pos zero)) e = released_grows m n name (find name m.objects) refl e
release_grows m n (Obj name (pos (suc o))) e = absurd (cc)
release_grows m n (Obj name (negsuc o)) e = absurd (cc)
release_grows m n Null e = absurd (cc)
release_grows m n (Fun index) e = absurd (cc)

done_is : (x : Result Picture Trap) (r : Reply) (n : Picture) → done_reply x ≡ Ok (r, n) → x ≡ Ok n
done_is (Ok k) r n e = ap Ok (ap (λ (x : Reply × Picture). x.1) (ok_same _ _ e))
done_is (Err t) r n e = absurd (cc)

read_is : (m : Picture) (x : Result (List Byte) Trap) (r : Reply) (n : Picture) → read_reply m x ≡ Ok (r, n) → m ≡ n
read_is m (Ok word) r n e = ap (λ (x : Reply × Picture). x.1) (ok_same _ _ e)
read_is m (Err t) r n e = absurd (cc)

made_is : (x : Result (Pointer × Picture) Trap) (r : Reply) (n : Picture) → made_reply x ≡ Ok (r, n) → (p : Pointer) × (x ≡ Ok (p, n))
made_is (Ok (p, k)) r n e = (p, ap (λ q. Ok (p, q)) (ap (λ (x : Reply × Picture). x.1) (ok_same _ _ e)))
made_is (Err t) r n e = absurd (cc)

pub quiet_grows : (m n : Picture) (call : Call) (r : Reply) → IsQuiet call → does m call ≡ Ok (r, n) → Grows m n
quiet_grows m n (ReadWord site slot from len) r h e = grows_same m n (read_is m _ r n e)
quiet_grows m n (WriteWord site slot to word) r h e = laid_grows m n word (write_access m to (length word)) (done_is _ r n e)
quiet_grows m n (CopyRange site to from len overlap) r h e =
    if_grows m n (len == 0) (Ok m) _ (λ q. grows_same m n (ok_same m n q)) (copied_grows m n len overlap (access m from len) (write_access m to len)) (done_is _ r n e)
quiet_grows m n (Fill site to value len) r h e =
    if_grows m n (len == 0) (Ok m) _ (λ q. grows_same m n (ok_same m n q)) (laid_grows m n _ (write_access m to len)) (done_is _ r n e)
quiet_grows m n (Make site kind size zeroed) r h e =
    let p = made_is _ r n e in
    made_by m n p.0 (At site) kind size zeroed h p.1
quiet_grows m n (Release site pointer) r h e = release_grows m n pointer (done_is _ r n e)
quiet_grows m n (EndFrame names) r h e = elim h [ ]

-- ---- the names of a state

pub slots_grow : (m n : Picture) (names : List ℕ) → Grows m n → AreSlots m names → AreSlots n names
slots_grow m n [] g h = tt
slots_grow m n (x ∷ xs) g h = (g x h.0, slots_grow m n xs g h.1)

pub slots_front : (m : Picture) (xs ys : List ℕ) → AreSlots m (xs ++ ys) → AreSlots m xs
slots_front m [] ys h = tt
slots_front m (x ∷ xs) ys h = (h.0, slots_front m xs ys h.1)

pub slots_push : (m : Picture) (xs : List ℕ) (name : ℕ) → AreSlots m xs → IsSlot (find name m.objects) → AreSlots m (xs ++ name ∷ [])
slots_push m [] name h s = (s, tt)
slots_push m (x ∷ xs) name h s = (h.0, slots_push m xs name h.1 s)

without_front : (name : ℕ) (xs ys : List ℕ) → Without name (xs ++ ys) → Without name xs
without_front name [] ys h = tt
without_front name (x ∷ xs) ys h = (h.0, without_front name xs ys h.1)

without_back : (name : ℕ) (xs ys : List ℕ) → Without name (xs ++ ys) → Without name ys
without_back name [] ys h = h
without_back name (x ∷ xs) ys h = without_back name xs ys h.1

without_push : (name other : ℕ) (xs : List ℕ) → Without name xs → (name ≡ other → ⊥) → Without name (xs ++ other ∷ [])
without_push name other [] h ne = (ne, tt)
without_push name other (x ∷ xs) h ne = (h.0, without_push name other xs h.1 ne)

pub once_front : (xs ys : List ℕ) → AreOnce (xs ++ ys) → AreOnce xs
once_front [] ys h = tt
once_front (x ∷ xs) ys h = (without_front x xs ys h.0, once_front xs ys h.1)

-- the next name stands nowhere yet
pub once_push : (m : Picture) (xs : List ℕ) → IsPicture m → AreSlots m xs → AreOnce xs → AreOnce (xs ++ m.next ∷ [])
once_push m [] p s h = (tt, tt)
once_push m (x ∷ xs) p s h =
    let lt : x < m.next = slot_below m.objects 0 m.next x p.rising s.0 in
    (without_push x m.next xs h.0 (λ e. omega (arith, e, lt)), once_push m xs p s.1 h.1)

-- the end of a frame leaves the slots of the others
pub slots_end : (m : Picture) (xs ys : List ℕ) → AreSlots m (xs ++ ys) → AreOnce (xs ++ ys) → AreSlots (end_frame m ys) xs
slots_end m [] ys s h = tt
slots_end m (x ∷ xs) ys s h = (slot_without_all ys m.objects x (without_back x xs ys h.0) s.0, slots_end m xs ys s.1 h.1)

-- a new slot
pub slot_added : (m : Picture) (site : AllocSite) (bytes : List Byte) → IsPicture m → IsSlot (find m.next (added m site Stack false bytes).objects)
slot_added m site bytes p = slot_new m.objects 0 m.next _ p.rising refl refl

pub added_grows : (m : Picture) (site : AllocSite) (bytes : List Byte) → Grows m (added m site Stack false bytes)
added_grows m site bytes = λ name h. slot_pushed m.objects _ name h
