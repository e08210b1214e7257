-- What changes of a memory keep of its globals.
use Rattle.std.proofs.Common.{◌≡◌, ◌∙◌, ℕ, ◌+◌, ◌<◌, ◌==◌, List, [], ◌∷◌, ◌++◌, length, Option, Some, None, true, false, refl, sym, ap, subst, arith, if◌then◌else◌, inl, inr}
use Rattle.std.proofs.lemmas.Bool.Decides.{eqb_tells}
use Rattle.pv_base.specs.declared.place.AllocSite.TheVariants as site
use Rattle.mem_image.specs.declared.object.Byte.{Byte}
use Rattle.mem_image.specs.declared.object.Kind.{Kind}
use Rattle.mem_image.specs.declared.object.Kind.TheVariants as kind
use Rattle.mem_image.specs.declared.object.Object.{Object}
use Rattle.mem_image.specs.Picture.{Picture, IsPicture, Rising, find, with_bytes, without, without_all, end_frame, bytes_of, bytes_at}
use Rattle.mem_image.proofs.Objects.{rising_without, with_bytes_none}
use Rattle.mem_image.proofs.Meanings.{find_others, find_same}
use Rattle.seq_machine.specs.Owned.{IsSlot, AreSlots, Without}
use Rattle.global_laws.specs.Globals.{SameShape, KeepsGlobals}

-- what stands under a name before and after: no global goes, and none comes
abbrev pub Stays : Option Object → Option Object → Type 0
Stays None None = Unit {0}
Stays None (Some p) = (i : ℕ) → p.site ≡ site.Global i → ⊥
Stays (Some o) None = o.kind ≡ kind.Global → ⊥
Stays (Some o) (Some p) = SameShape o p

abbrev pub Evolves : Picture → Picture → Type 0
Evolves m n = (name : ℕ) → Stays (find name m.objects) (find name n.objects)

-- the globals of whatever memory was the first
abbrev pub Keeps : Picture → Picture → Type 0
Keeps m n = (first : Picture) → KeepsGlobals first m → KeepsGlobals first n

pub same_shape : (o : Object) → SameShape o o
same_shape o = record { site = refl; kind = refl; fixed = refl; size = refl }

shape_then : (o p q : Object) → SameShape o p → SameShape p q → SameShape o q
shape_then o p q a b = record { site = b.site ∙ a.site; kind = b.kind ∙ a.kind; fixed = b.fixed ∙ a.fixed; size = b.size ∙ a.size }

pub stays_same : (x : Option Object) → Stays x x
stays_same None = tt
stays_same (Some o) = same_shape o

pub evolves_same : (m n : Picture) → m ≡ n → Evolves m n
evolves_same m n e = λ name. subst (λ (x : Picture). Stays (find name m.objects) (find name x.objects)) e (stays_same (find name m.objects))

later : (o p : Object) (x : Option Object) → SameShape o p → o.kind ≡ kind.Global → Stays (Some p) x → (q : Object) × (x ≡ Some q) × SameShape o q
later o p None s g h = absurd (h (s.kind ∙ g))
later o p (Some q) s g h = (q, refl, shape_then o p q s h)

pub evolved : (m n : Picture) → Evolves m n → Keeps m n
evolved m n e = λ first k. (let h : KeepsGlobals first n = record {
  kept = λ name o f g. (let p = k.kept name o f g in later o p.0 (find name n.objects) p.2 g (subst (λ (x : Option Object). Stays x (find name n.objects)) p.1 (e name)));
  only = λ name i q f s. before first k name i q (find name m.objects) (subst (λ (x : Option Object). Stays (find name m.objects) x) f (e name)) s refl;
} in h)
  where
    before : (first : Picture) → KeepsGlobals first m → (name i : ℕ) (q : Object) (x : Option Object) → Stays x (Some q) → q.site ≡ site.Global i → find name m.objects ≡ x
        → (o : Object) × (find name first.objects ≡ Some o) × (o.kind ≡ kind.Global) × SameShape o q
    before first k name i q None h s f = absurd (h i s)
    before first k name i q (Some p) h s f = let o = k.only name i p f (sym h.site ∙ s) in (o.0, o.1, o.2, shape_then o.0 p q o.3 h)

-- ---- other bytes

changed : (k : ℕ) (bytes : List Byte) (os : List Object) (x : Option Object) → length bytes ≡ length (bytes_at k os) → find k os ≡ x → Stays (find k os) (find k (with_bytes k bytes os))
changed k bytes os None e f = subst (λ (xs : List Object). Stays (find k os) (find k xs)) (sym (with_bytes_none k bytes os f)) (stays_same (find k os))
changed k bytes os (Some o) e f =
    let shape : SameShape o (record o { bytes = bytes }) = record { site = refl; kind = refl; fixed = refl; size = e ∙ ap (λ (x : Option Object). length (bytes_of x)) f } in
    subst (λ (x : Option Object). Stays x (find k (with_bytes k bytes os))) (sym f) (subst (λ (y : Option Object). Stays (Some o) y) (sym (find_same k bytes os o f)) shape)

pub bytes_stay : (k : ℕ) (bytes : List Byte) (os : List Object) (name : ℕ) → length bytes ≡ length (bytes_at k os) → Stays (find name os) (find name (with_bytes k bytes os))
bytes_stay k bytes os name e = elim (eqb_tells name k) [
  | inl h ↦ subst (λ (n : ℕ). Stays (find n os) (find n (with_bytes k bytes os))) (sym h.1) (changed k bytes os (find k os) e refl)
  | inr h ↦ subst (λ (x : Option Object). Stays (find name os) x) (sym (find_others k name bytes os h.1)) (stays_same (find name os))
]

-- ---- one object more

pub pushed : (os : List Object) (o : Object) (name : ℕ) → ((i : ℕ) → o.site ≡ site.Global i → ⊥) → Stays (find name os) (find name (os ++ o ∷ []))
pushed [] o name h = elim (name == o.name) as (λ b. Stays None (if b then Some o else None)) [
  | true ↦ h
  | false ↦ tt
]
pushed (x ∷ os) o name h = elim (name == x.name) as (λ b. Stays (if b then Some x else find name os) (if b then Some x else find name (os ++ o ∷ []))) [
  | true ↦ same_shape x
  | false ↦ pushed os o name h
]

-- ---- objects fewer

above : (name : ℕ) (os : List Object) (low next : ℕ) → Rising low os next → name < low → find name os ≡ None
above name [] low next h lt = refl
above name (o ∷ os) low next h lt = elim (eqb_tells name o.name) [
  | inl q ↦ absurd (omega (arith, q.1, lt, h.0))
  | inr q ↦ rw q.0 (above name os (o.name + 1) next h.3 (omega (arith, lt, h.0)))
]

found_before : (k : ℕ) (os : List Object) (low next name : ℕ) (p : Object) → Rising low os next → find name (without k os) ≡ Some p → find name os ≡ Some p
found_before k [] low next name p r f = f
found_before k (o ∷ os) low next name p r f = (elim (k == o.name) as (λ b. find name (if b then os else o ∷ without k os) ≡ Some p → find name (o ∷ os) ≡ Some p) [
  | true ↦ λ g. elim (eqb_tells name o.name) [
    | inl q ↦ (let none : find name os ≡ None = above name os (o.name + 1) next r.3 (omega (arith, q.1)) in absurd (cc))
    | inr q ↦ rw q.0 g
  ]
  | false ↦ λ g. elim (eqb_tells name o.name) [
    | inl q ↦ (let h : Some o ≡ Some p = rw q.0 at g in rw q.0 h)
    | inr q ↦ (let h : find name (without k os) ≡ Some p = rw q.0 at g in rw q.0 (found_before k os (o.name + 1) next name p r.3 h))
  ]
]) f

found_before_all : (ks : List ℕ) (os : List Object) (next name : ℕ) (p : Object) → Rising 0 os next → find name (without_all ks os) ≡ Some p → find name os ≡ Some p
found_before_all [] os next name p r f = f
found_before_all (k ∷ ks) os next name p r f =
    found_before k os 0 next name p r (found_before_all ks (without k os) next name p (rising_without k os 0 next r) f)

left_alone : (k name : ℕ) (os : List Object) → (name ≡ k → ⊥) → find name (without k os) ≡ find name os
left_alone k name [] ne = refl
left_alone k name (o ∷ os) ne = elim (eqb_tells k o.name) [
  | inl h ↦ elim (eqb_tells name o.name) [
    | inl q ↦ absurd (ne (q.1 ∙ sym h.1))
    | inr q ↦ rw (h.0, q.0) refl
  ]
  | inr h ↦ rw (h.0, left_alone k name os ne) refl
]

left_alone_all : (ks : List ℕ) (name : ℕ) (os : List Object) → Without name ks → find name (without_all ks os) ≡ find name os
left_alone_all [] name os w = refl
left_alone_all (k ∷ ks) name os w = left_alone_all ks name (without k os) w.1 ∙ left_alone k name os w.0

fewer : (x y : Option Object) → ((o : Object) → x ≡ Some o → o.kind ≡ kind.Global → y ≡ Some o) → ((p : Object) → y ≡ Some p → x ≡ Some p) → Stays x y
fewer None None k u = tt
fewer None (Some p) k u = λ i s. (let e : None ≡ Some p = u p refl in absurd (cc))
fewer (Some o) None k u = λ g. (let e : None ≡ Some o = k o refl g in absurd (cc))
fewer (Some o) (Some p) k u =
    let e : Some o ≡ Some p = u p refl in
    let s : o ≡ p = cc in
    subst (λ (q : Object). SameShape o q) s (same_shape o)

-- none of the objects that go is a global
pub removed_evolves : (m : Picture) (names : List ℕ) → IsPicture m → ((name : ℕ) (o : Object) → find name m.objects ≡ Some o → o.kind ≡ kind.Global → Without name names) → Evolves m (end_frame m names)
removed_evolves m names p h = λ name.
    fewer (find name m.objects) (find name (without_all names m.objects))
    (λ o f g. left_alone_all names name m.objects (h name o f g) ∙ f)
    (λ o f. found_before_all names m.objects m.next name o p.rising f)

-- a global is no stack slot
pub no_slot : (m : Picture) (names : List ℕ) (name : ℕ) (o : Object) → AreSlots m names → find name m.objects ≡ Some o → o.kind ≡ kind.Global → Without name names
no_slot m [] name o h f g = tt
no_slot m (k ∷ ks) name o h f g = (
  λ e. (let s : IsSlot (Some o) = subst (λ (x : Option Object). IsSlot x) (ap (λ (n : ℕ). find n m.objects) (sym e) ∙ f) h.0 in absurd (other o.kind s g)),
  no_slot m ks name o h.1 f g,
)
  where
    other : (x : Kind) → x ≡ kind.Stack → x ≡ kind.Global → ⊥
    other x s g = cc
