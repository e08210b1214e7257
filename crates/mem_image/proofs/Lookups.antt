-- The two look-ups of a memory after each change of it, and what they tell.
use Rattle.std.proofs.Common.{◌≡◌, ◌≢◌, ℕ, ◌+◌, ◌-◌, ◌<◌, ◌≤◌, ◌==◌, ◌&&◌, ℤ, pos, negsuc, nat_le, nat_lt, nat_eq, Bool, true, false, List, [], ◌∷◌, ◌++◌, length, take, drop, get_or, slice_range, Option, Some, None, Result, Ok, Err, arith, refl, sym, ◌∙◌, ap, subst, if◌then◌else◌, inl, inr, ext_get_or}
use Rattle.std.proofs.Math.ListN.{get_or-append}
use Rattle.std.proofs.lemmas.List.{length-append, length-take-le, get_or-take, get_or-drop, get_or-append_right}
use Rattle.std.proofs.lemmas.Grind.{common_steps}
use Rattle.std.proofs.lemmas.Bool.Decides.{nat_tests, eqb_tells}
use Rattle.std.proofs.lemmas.Bool.{cases_lt}
use Rattle.std.specs.List.{list_any}
use Rattle.std.specs.Option.{option_map}
use Rattle.pv_base.specs.declared.place.AllocSite.{AllocSite}
use Rattle.pv_base.specs.declared.place.Place.{Place}
use Rattle.mem_image.specs.declared.object.Pointer.{Pointer}
use Rattle.mem_image.specs.declared.object.Pointer.TheVariants.{Null, Obj, Fun}
use Rattle.mem_image.specs.declared.object.Byte.{Byte}
use Rattle.mem_image.specs.declared.object.Byte.TheVariants.{Unset}
use Rattle.mem_image.specs.declared.object.Kind.{Kind}
use Rattle.mem_image.specs.declared.object.Object.{Object}
use Rattle.mem_image.specs.declared.fault.Trap.{Trap}
use Rattle.mem_image.specs.declared.fault.Trap.TheVariants.{Dead, Range, ConstWrite}
use Rattle.mem_image.specs.Picture.{Picture, Rising, IsPicture, size, find, with_bytes, without, without_all, bytes_of, bytes_at, is_fixed, reached, access, unfixed, write_access, bytes_from, read, read_at, spliced, lay, added, remove, end_frame, size_of}
use Rattle.mem_image.specs.Lookups.{Shape, shaped, shape, peek, covers, SameShape, SameBytes}
use Rattle.mem_image.proofs.Objects.{rising_without, length_spliced}
use Rattle.mem_image.proofs.Meanings.{find_others, find_above, find_removed, find_kept, if_ok, reached_inside}

pub shape_is : (os : List Object) (name : ℕ) → shape os name ≡ shaped (find name os)
unfolding shape
shape_is os name = refl

pub peek_is : (os : List Object) (name offset : ℕ) → peek os name offset ≡ get_or (bytes_at name os) offset Unset
unfolding peek
peek_is os name offset = refl

-- where the same object is found, its shape and bytes are the same
pub shape_found : (os ps : List Object) (n m : ℕ) → find n os ≡ find m ps → shape os n ≡ shape ps m
unfolding shape
shape_found os ps n m e = ap shaped e

pub peek_found : (os ps : List Object) (n m i : ℕ) → find n os ≡ find m ps → peek os n i ≡ peek ps m i
unfolding peek
peek_found os ps n m i e = ap (λ f. get_or (bytes_of f) i Unset) e

pub shape_none : (os : List Object) (n : ℕ) → find n os ≡ None → shape os n ≡ None
unfolding shape
shape_none os n e = ap shaped e

pub peek_none : (os : List Object) (n i : ℕ) → find n os ≡ None → peek os n i ≡ Unset
unfolding peek
peek_none os n i e = ap (λ f. get_or (bytes_of f) i Unset) e

none_found : (f : Option Object) → shaped f ≡ None → f ≡ None
none_found None e = refl
none_found (Some o) e = absurd (cc)

-- an object that has no shape is not live, and its bytes are not set
pub find_dead : (os : List Object) (n : ℕ) → shape os n ≡ None → find n os ≡ None
unfolding shape
find_dead os n e = none_found (find n os) e

pub peek_dead : (os : List Object) (n i : ℕ) → shape os n ≡ None → peek os n i ≡ Unset
peek_dead os n i e = peek_none os n i (find_dead os n e)

sized : (f : Option Object) (s : Shape) → shaped f ≡ Some s → length (bytes_of f) ≡ s.size
sized None s e = absurd (cc)
sized (Some o) s e = ap (λ (z : Option Shape). elim z [ None ↦ 0 | Some t ↦ t.size ]) e

-- an object has as many bytes as its shape says, and none past them
pub length_shaped : (os : List Object) (n : ℕ) (s : Shape) → shape os n ≡ Some s → length (bytes_at n os) ≡ s.size
unfolding shape
length_shaped os n s e = sized (find n os) s e

pub peek_past : (os : List Object) (n i : ℕ) (s : Shape) → shape os n ≡ Some s → s.size ≤ i → peek os n i ≡ Unset
unfolding peek
peek_past os n i s e le = let len = length_shaped os n s e in grind (arith, common_steps, len, le)

-- bytes that are laid
abbrev put : List Byte → Object → Object
put bytes o = record o { bytes = bytes }

find_with : (name : ℕ) (bytes : List Byte) (os : List Object) → find name (with_bytes name bytes os) ≡ option_map (put bytes) (find name os)
find_with name bytes [] = refl
find_with name bytes (o ∷ os) = elim (eqb_tells name o.name) [
  | inl h ↦ rw (h.0, h.0) refl
  | inr h ↦ rw (h.0, h.0) (find_with name bytes os)
]

shaped_with : (bytes : List Byte) (f : Option Object) → length bytes ≡ length (bytes_of f) → shaped (option_map (put bytes) f) ≡ shaped f
shaped_with bytes None e = refl
shaped_with bytes (Some o) e = ap (λ n. Some (record { site = o.site; kind = o.kind; fixed = o.fixed; size = n })) e

pub shape-lay : (m : Picture) (place : Place) (bytes : List Byte) (n : ℕ) → place.offset + length bytes ≤ length (bytes_at place.name m.objects) → shape (lay m place bytes).objects n ≡ shape m.objects n
unfolding shape
shape-lay m place bytes n le =
    let all = spliced (bytes_at place.name m.objects) place.offset bytes in
    elim (eqb_tells n place.name) [
      | inl h ↦ rw h.1 (ap shaped (find_with place.name all m.objects) ∙ shaped_with all (find place.name m.objects) (length_spliced (bytes_at place.name m.objects) bytes place.offset le))
      | inr h ↦ ap shaped (find_others place.name n all m.objects h.1)
    ]

spliced_nothing : (at : ℕ) (others : List Byte) → at + length others ≤ 0 → [] ≡ spliced [] at others
spliced_nothing at [] le = grind (arith, common_steps)
spliced_nothing at (x ∷ others) le = absurd (omega (arith, le))

bytes_with : (f : Option Object) (at : ℕ) (others : List Byte) → at + length others ≤ length (bytes_of f) → bytes_of (option_map (put (spliced (bytes_of f) at others)) f) ≡ spliced (bytes_of f) at others
bytes_with None at others le = spliced_nothing at others le
bytes_with (Some o) at others le = refl

-- the bytes of the object in which bytes were laid
pub bytes_laid : (m : Picture) (place : Place) (bytes : List Byte) → place.offset + length bytes ≤ length (bytes_at place.name m.objects) → bytes_at place.name (lay m place bytes).objects ≡ spliced (bytes_at place.name m.objects) place.offset bytes
bytes_laid m place bytes le =
    ap bytes_of (find_with place.name (spliced (bytes_at place.name m.objects) place.offset bytes) m.objects) ∙ bytes_with (find place.name m.objects) place.offset bytes le

module _ (bytes others : List Byte) (at i : ℕ) (le : at + length others ≤ length bytes) where
  front : length (take at bytes) ≡ at
  front = length-take-le at bytes (omega (arith, le))

  both : length (take at bytes ++ others) ≡ at + length others
  both = length-append (take at bytes) others ∙ ap (λ n. n + length others) front

  spliced_before : i < at → get_or (spliced bytes at others) i Unset ≡ get_or bytes i Unset
  spliced_before lt =
      get_or-append (take at bytes ++ others) (drop (at + length others) bytes) Unset i (omega (arith, both, lt))
      ∙ get_or-append (take at bytes) others Unset i (omega (arith, front, lt))
      ∙ get_or-take at bytes i Unset lt

  spliced_inside : at ≤ i → i < at + length others → get_or (spliced bytes at others) i Unset ≡ get_or others (i - at) Unset
  spliced_inside ge lt =
      get_or-append (take at bytes ++ others) (drop (at + length others) bytes) Unset i (omega (arith, both, lt))
      ∙ get_or-append_right (take at bytes) others at i Unset front ge

  spliced_after : at + length others ≤ i → get_or (spliced bytes at others) i Unset ≡ get_or bytes i Unset
  spliced_after ge =
      let same : at + length others + (i - (at + length others)) ≡ i = omega (arith, ge) in
      get_or-append_right (take at bytes ++ others) (drop (at + length others) bytes) (at + length others) i Unset both ge
      ∙ get_or-drop (at + length others) bytes (i - (at + length others)) Unset
      ∙ ap (λ j. get_or bytes j Unset) same

get_spliced : (bytes others : List Byte) (at i : ℕ) → at + length others ≤ length bytes → get_or (spliced bytes at others) i Unset ≡ (if nat_le at i && nat_lt i (at + length others) then get_or others (i - at) Unset else get_or bytes i Unset)
get_spliced bytes others at i le = elim (cases_lt i at) [
  | inl lt ↦ let e = spliced_before bytes others at i le lt in grind (arith, nat_tests, e, lt)
  | inr ge ↦ elim (cases_lt i (at + length others)) [
    | inl lt ↦ let e = spliced_inside bytes others at i le ge lt in grind (arith, nat_tests, e, lt, ge)
    | inr ge2 ↦ let e = spliced_after bytes others at i le ge2 in grind (arith, nat_tests, e, ge2)
  ]
]

pub peek-lay_same : (m : Picture) (place : Place) (bytes : List Byte) (i : ℕ) → place.offset + length bytes ≤ length (bytes_at place.name m.objects) → peek (lay m place bytes).objects place.name i ≡ (if nat_le place.offset i && nat_lt i (place.offset + length bytes) then get_or bytes (i - place.offset) Unset else peek m.objects place.name i)
unfolding peek
peek-lay_same m place bytes i le = ap (λ bs. get_or bs i Unset) (bytes_laid m place bytes le) ∙ get_spliced (bytes_at place.name m.objects) bytes place.offset i le

pub peek-lay_name : (m : Picture) (place : Place) (bytes : List Byte) (n i : ℕ) → n ≢ place.name → peek (lay m place bytes).objects n i ≡ peek m.objects n i
unfolding peek
peek-lay_name m place bytes n i ne = ap (λ f. get_or (bytes_of f) i Unset) (find_others place.name n (spliced (bytes_at place.name m.objects) place.offset bytes) m.objects ne)

pub peek-lay : (m : Picture) (place : Place) (bytes : List Byte) (n i : ℕ) → place.offset + length bytes ≤ length (bytes_at place.name m.objects) → peek (lay m place bytes).objects n i ≡ (if covers place (length bytes) n i then get_or bytes (i - place.offset) Unset else peek m.objects n i)
peek-lay m place bytes n i le = elim (eqb_tells n place.name) [
  | inl h ↦ rw (h.0, h.1) (peek-lay_same m place bytes i le)
  | inr h ↦ rw h.0 (peek-lay_name m place bytes n i h.1)
]

-- the bytes that were laid, and those beside them
pub peek-lay_inside : (m : Picture) (place : Place) (bytes : List Byte) (k : ℕ) → place.offset + length bytes ≤ length (bytes_at place.name m.objects) → k < length bytes → peek (lay m place bytes).objects place.name (place.offset + k) ≡ get_or bytes k Unset
peek-lay_inside m place bytes k le lt = let e = peek-lay_same m place bytes (place.offset + k) le in grind (arith, nat_tests, e, lt)

pub peek-lay_beside : (m : Picture) (place : Place) (bytes : List Byte) (n i : ℕ) → place.offset + length bytes ≤ length (bytes_at place.name m.objects) → covers place (length bytes) n i ≡ false → peek (lay m place bytes).objects n i ≡ peek m.objects n i
peek-lay_beside m place bytes n i le e = peek-lay m place bytes n i le ∙ ap (λ b. if b then get_or bytes (i - place.offset) Unset else peek m.objects n i) e

-- an object of the next name that is added
pub find_next : (name : ℕ) (os : List Object) (low n : ℕ) → Rising low os n → n ≤ name → find name os ≡ None
find_next name [] low n h le = refl
find_next name (o ∷ os) low n h le = elim (eqb_tells name o.name) [
  | inl q ↦ absurd (omega (arith, q.1, le, h.1))
  | inr q ↦ rw q.0 (find_next name os (o.name + 1) n h.3 le)
]

find_last : (os : List Object) (o : Object) → find o.name os ≡ None → find o.name (os ++ o ∷ []) ≡ Some o
find_last [] o e = grind (arith, nat_tests)
find_last (x ∷ os) o e = elim (eqb_tells o.name x.name) [
  | inl h ↦ let f : ◌≡◌ {A = Option Object} (Some x) None = rw h.0 at e in absurd (cc)
  | inr h ↦ rw h.0 (find_last os o (rw h.0 at e))
]

find_before : (name : ℕ) (os : List Object) (o : Object) → name ≢ o.name → find name (os ++ o ∷ []) ≡ find name os
find_before name [] o ne = grind (arith, nat_tests)
find_before name (x ∷ os) o ne = elim (eqb_tells name x.name) [
  | inl h ↦ rw h.0 refl
  | inr h ↦ rw h.0 (find_before name os o ne)
]

module _ (m : Picture) (site : AllocSite) (kind : Kind) (fixed : Bool) (bytes : List Byte) where
  pub shape-added_same : IsPicture m → shape (added m site kind fixed bytes).objects m.next ≡ Some (record { site = site; kind = kind; fixed = fixed; size = length bytes })
  unfolding shape
  shape-added_same k = ap shaped (find_last m.objects (record { name = m.next; site = site; kind = kind; fixed = fixed; bytes = bytes }) (find_next m.next m.objects 0 m.next k.rising (omega arith)))

  pub peek-added_same : (i : ℕ) → IsPicture m → peek (added m site kind fixed bytes).objects m.next i ≡ get_or bytes i Unset
  unfolding peek
  peek-added_same i k = ap (λ f. get_or (bytes_of f) i Unset) (find_last m.objects (record { name = m.next; site = site; kind = kind; fixed = fixed; bytes = bytes }) (find_next m.next m.objects 0 m.next k.rising (omega arith)))

  pub shape-added_other : (n : ℕ) → n ≢ m.next → shape (added m site kind fixed bytes).objects n ≡ shape m.objects n
  shape-added_other n ne = shape_found _ _ n n (find_before n m.objects (record { name = m.next; site = site; kind = kind; fixed = fixed; bytes = bytes }) ne)

  pub peek-added_other : (n i : ℕ) → n ≢ m.next → peek (added m site kind fixed bytes).objects n i ≡ peek m.objects n i
  peek-added_other n i ne = peek_found _ _ n n i (find_before n m.objects (record { name = m.next; site = site; kind = kind; fixed = fixed; bytes = bytes }) ne)

  pub shape-added : (n : ℕ) → IsPicture m → shape (added m site kind fixed bytes).objects n ≡ (if n == m.next then Some (record { site = site; kind = kind; fixed = fixed; size = length bytes }) else shape m.objects n)
  shape-added n k = elim (eqb_tells n m.next) [
    | inl h ↦ rw (h.0, h.1) (shape-added_same k)
    | inr h ↦ rw h.0 (shape-added_other n h.1)
  ]

  pub peek-added : (n i : ℕ) → IsPicture m → peek (added m site kind fixed bytes).objects n i ≡ (if n == m.next then get_or bytes i Unset else peek m.objects n i)
  peek-added n i k = elim (eqb_tells n m.next) [
    | inl h ↦ rw (h.0, h.1) (peek-added_same i k)
    | inr h ↦ rw h.0 (peek-added_other n i h.1)
  ]

-- an object that is removed
module _ (m : Picture) (old : ℕ) where
  pub shape-remove_same : IsPicture m → shape (remove m old).objects old ≡ None
  shape-remove_same k = shape_none _ old (find_removed old m.objects 0 m.next k.rising)

  pub peek-remove_same : (i : ℕ) → IsPicture m → peek (remove m old).objects old i ≡ Unset
  peek-remove_same i k = peek_none _ old i (find_removed old m.objects 0 m.next k.rising)

  pub shape-remove_other : (n : ℕ) → n ≢ old → shape (remove m old).objects n ≡ shape m.objects n
  shape-remove_other n ne = shape_found _ _ n n (find_kept old n m.objects ne)

  pub peek-remove_other : (n i : ℕ) → n ≢ old → peek (remove m old).objects n i ≡ peek m.objects n i
  peek-remove_other n i ne = peek_found _ _ n n i (find_kept old n m.objects ne)

  pub shape-remove : (n : ℕ) → IsPicture m → shape (remove m old).objects n ≡ (if n == old then None else shape m.objects n)
  shape-remove n k = elim (eqb_tells n old) [
    | inl h ↦ rw (h.0, h.1) (shape-remove_same k)
    | inr h ↦ rw h.0 (shape-remove_other n h.1)
  ]

  pub peek-remove : (n i : ℕ) → IsPicture m → peek (remove m old).objects n i ≡ (if n == old then Unset else peek m.objects n i)
  peek-remove n i k = elim (eqb_tells n old) [
    | inl h ↦ rw (h.0, h.1) (peek-remove_same i k)
    | inr h ↦ rw h.0 (peek-remove_other n i h.1)
  ]

-- the objects of a frame that ends
find_gone : (names : List ℕ) (name : ℕ) (os : List Object) (low n : ℕ) → Rising low os n → find name os ≡ None → find name (without_all names os) ≡ None
find_gone [] name os low n h e = e
find_gone (old ∷ names) name os low n h e = find_gone names name (without old os) low n (rising_without old os low n h) (elim (eqb_tells name old) [
  | inl q ↦ rw q.1 (find_removed old os low n h)
  | inr q ↦ find_kept old name os q.1 ∙ e
])

pub find_ended : (names : List ℕ) (name : ℕ) (os : List Object) (low n : ℕ) → Rising low os n → find name (without_all names os) ≡ (if list_any (nat_eq name) names then None else find name os)
find_ended [] name os low n h = refl
find_ended (old ∷ names) name os low n h = elim (eqb_tells name old) [
  | inl q ↦ rw q.0 (find_gone names name (without old os) low n (rising_without old os low n h) (rw q.1 (find_removed old os low n h)))
  | inr q ↦ rw q.0 (find_ended names name (without old os) low n (rising_without old os low n h) ∙ ap (λ f. if list_any (nat_eq name) names then None else f) (find_kept old name os q.1))
]

shaped_if : (b : Bool) (f : Option Object) → shaped (if b then None else f) ≡ (if b then None else shaped f)
shaped_if true f = refl
shaped_if false f = refl

byte_if : (b : Bool) (f : Option Object) (i : ℕ) → get_or (bytes_of (if b then None else f)) i Unset ≡ (if b then Unset else get_or (bytes_of f) i Unset)
byte_if true f i = refl
byte_if false f i = refl

pub shape-end_frame : (m : Picture) (names : List ℕ) (n : ℕ) → IsPicture m → shape (end_frame m names).objects n ≡ (if list_any (nat_eq n) names then None else shape m.objects n)
unfolding shape
shape-end_frame m names n k = ap shaped (find_ended names n m.objects 0 m.next k.rising) ∙ shaped_if (list_any (nat_eq n) names) (find n m.objects)

pub peek-end_frame : (m : Picture) (names : List ℕ) (n i : ℕ) → IsPicture m → peek (end_frame m names).objects n i ≡ (if list_any (nat_eq n) names then Unset else peek m.objects n i)
unfolding peek
peek-end_frame m names n i k = ap (λ f. get_or (bytes_of f) i Unset) (find_ended names n m.objects 0 m.next k.rising) ∙ byte_if (list_any (nat_eq n) names) (find n m.objects) i

-- equal look-ups find equal objects
pub find_name : (name : ℕ) (os : List Object) (o : Object) → find name os ≡ Some o → o.name ≡ name
find_name name [] o e = absurd (cc)
find_name name (x ∷ os) o e = elim (eqb_tells name x.name) [
  | inl h ↦ let f : ◌≡◌ {A = Option Object} (Some x) (Some o) = rw h.0 at e in let same : x ≡ o = cc in rw (← same) (sym h.1)
  | inr h ↦ find_name name os o (rw h.0 at e)
]

same_shapes : (s t : Shape) → ◌≡◌ {A = Option Shape} (Some s) (Some t) → s ≡ t
same_shapes s t e = cc

same_found : (name : ℕ) (f g : Option Object) → ((o : Object) → f ≡ Some o → o.name ≡ name) → ((o : Object) → g ≡ Some o → o.name ≡ name) → shaped f ≡ shaped g → ((i : ℕ) → get_or (bytes_of f) i Unset ≡ get_or (bytes_of g) i Unset) → f ≡ g
same_found name None None u v e b = refl
same_found name None (Some y) u v e b = absurd (cc)
same_found name (Some x) None u v e b = absurd (cc)
same_found name (Some x) (Some y) u v e b =
    let s = same_shapes _ _ e in
    let names : x.name ≡ y.name = u x refl ∙ sym (v y refl) in
    let bytes : x.bytes ≡ y.bytes = ext_get_or Unset x.bytes y.bytes (ap (λ (z : Shape). z.size) s) (λ i l. b i) in
    λ j. Some (record { name = names j; site = (s j).site; kind = (s j).kind; fixed = (s j).fixed; bytes = bytes j })

pub find_same_lookups : (os ps : List Object) (name : ℕ) → shape os name ≡ shape ps name → ((i : ℕ) → peek os name i ≡ peek ps name i) → find name os ≡ find name ps
unfolding shape peek
find_same_lookups os ps name s b = same_found name (find name os) (find name ps) (λ o e. find_name name os o e) (λ o e. find_name name ps o e) s b

find_head : (o : Object) (os : List Object) → find o.name (o ∷ os) ≡ Some o
find_head o os = grind (arith, nat_tests)

find_tail : (name : ℕ) (o : Object) (os : List Object) → name ≢ o.name → find name (o ∷ os) ≡ find name os
find_tail name o os ne = grind (arith, nat_tests)

no_object : (o : Object) → ◌≡◌ {A = Option Object} None (Some o) → ⊥
no_object o e = cc

one_object : (x y : Object) → ◌≡◌ {A = Option Object} (Some x) (Some y) → x ≡ y
one_object x y e = cc

-- where the heads' names differ, the lesser is not in the other list
not_less : (x y : Object) (xs ys : List Object) (n : ℕ) → Rising (y.name + 1) ys n → y.name < n → ((name : ℕ) → find name (x ∷ xs) ≡ find name (y ∷ ys)) → y.name ≤ x.name
not_less x y xs ys n r lt e = elim (cases_lt x.name y.name) [
  | inl l ↦ absurd (no_object x (sym (find_tail x.name y ys (omega (arith, l)) ∙ find_above x.name ys (y.name + 1) n r (omega (arith, l))) ∙ sym (e x.name) ∙ find_head x xs))
  | inr l ↦ l
]

-- lists of rising names that find the same objects are equal
pub same_objects : (xs ys : List Object) (a b n : ℕ) → Rising a xs n → Rising b ys n → ((name : ℕ) → find name xs ≡ find name ys) → xs ≡ ys
same_objects [] [] a b n r q e = refl
same_objects [] (y ∷ ys) a b n r q e = absurd (no_object y (e y.name ∙ find_head y ys))
same_objects (x ∷ xs) [] a b n r q e = absurd (no_object x (sym (e x.name) ∙ find_head x xs))
same_objects (x ∷ xs) (y ∷ ys) a b n r q e =
    let u = not_less x y xs ys n q.3 q.1 e in
    let w = not_less y x ys xs n r.3 r.1 (λ name. sym (e name)) in
    let names : x.name ≡ y.name = omega (arith, u, w) in
    let one : x ≡ y = one_object x y (sym (find_head x xs) ∙ e x.name ∙ ap (λ k. find k (y ∷ ys)) names ∙ find_head y ys) in
    let rest : xs ≡ ys = same_objects xs ys (x.name + 1) (y.name + 1) n r.3 q.3 (λ name. elim (eqb_tells name x.name) [
      | inl h ↦ find_above name xs (x.name + 1) n r.3 (omega (arith, h.1)) ∙ sym (find_above name ys (y.name + 1) n q.3 (omega (arith, h.1, names)))
      | inr h ↦ sym (find_tail name x xs h.1) ∙ e name ∙ find_tail name y ys (λ z. h.1 (z ∙ sym names))
    ]) in
    ap (λ z. z ∷ xs) one ∙ ap (λ z. y ∷ z) rest

-- memories with the same next name and equal look-ups are equal
pub same_pictures : (m n : Picture) → IsPicture m → IsPicture n → m.next ≡ n.next → ((name : ℕ) → shape m.objects name ≡ shape n.objects name) → ((name offset : ℕ) → peek m.objects name offset ≡ peek n.objects name offset) → m ≡ n
same_pictures m n k l e s b =
    let objects : m.objects ≡ n.objects = same_objects m.objects n.objects 0 0 m.next k.rising (subst (λ x. Rising 0 n.objects x) (sym e) l.rising) (λ name. find_same_lookups m.objects n.objects name (s name) (b name)) in
    λ i. record { objects = objects i; next = e i }

-- where an access falls, from the shape of its object
reached_in : ℕ → ℤ → ℕ → Option Shape → Result Place Trap
reached_in name offset len None = Err Dead
reached_in name (negsuc o) len (Some s) = Err Range
reached_in name (pos o) len (Some s) = if nat_le (o + len) s.size then Ok (record { name = name; offset = o }) else Err Range

reached_is : (name : ℕ) (offset : ℤ) (len : ℕ) (f : Option Object) → reached name offset len f ≡ reached_in name offset len (shaped f)
unfolding reached_in
reached_is name offset len None = refl
reached_is name (negsuc o) len (Some x) = refl
reached_is name (pos o) len (Some x) = refl

pub same_access : (m n : Picture) (pointer : Pointer) (len : ℕ) → SameShape m n pointer → access m pointer len ≡ access n pointer len
unfolding shape
same_access m n Null len e = refl
same_access m n (Fun index) len e = refl
same_access m n (Obj name offset) len e = reached_is name offset len (find name m.objects) ∙ ap (reached_in name offset len) e ∙ sym (reached_is name offset len (find name n.objects))

fixed_in : Option Shape → Bool
fixed_in None = false
fixed_in (Some s) = s.fixed

fixed_is : (f : Option Object) → is_fixed f ≡ fixed_in (shaped f)
unfolding fixed_in
fixed_is None = refl
fixed_is (Some o) = refl

-- an object is a constant or not by its shape
pub same_fixed : (m n : Picture) (name : ℕ) → shape m.objects name ≡ shape n.objects name → is_fixed (find name m.objects) ≡ is_fixed (find name n.objects)
unfolding shape
same_fixed m n name e = fixed_is (find name m.objects) ∙ ap fixed_in e ∙ sym (fixed_is (find name n.objects))

same_unfixed : (m n : Picture) (r : Result Place Trap) → ((place : Place) → r ≡ Ok place → shape m.objects place.name ≡ shape n.objects place.name) → unfixed m r ≡ unfixed n r
same_unfixed m n (Err t) e = refl
same_unfixed m n (Ok place) e = ap (λ b. if b then Err ConstWrite else Ok place) (same_fixed m n place.name (e place refl))

access_name : (m n : Picture) (pointer : Pointer) (len : ℕ) (place : Place) → SameShape m n pointer → access m pointer len ≡ Ok place → shape m.objects place.name ≡ shape n.objects place.name
access_name m n Null len place e a = absurd (cc)
access_name m n (Fun index) len place e a = absurd (cc)
access_name m n (Obj name offset) len place e a = rw (reached_inside name offset len (find name m.objects) place a).0 e

pub same_write_access : (m n : Picture) (pointer : Pointer) (len : ℕ) → SameShape m n pointer → write_access m pointer len ≡ write_access n pointer len
same_write_access m n pointer len e = same_unfixed m n (access m pointer len) (λ place a. access_name m n pointer len place e a) ∙ ap (unfixed n) (same_access m n pointer len e)

size_is : (f : Option Object) → option_map size f ≡ option_map (λ (s : Shape). s.size) (shaped f)
size_is None = refl
size_is (Some o) = refl

pub same_size : (m n : Picture) (pointer : Pointer) → SameShape m n pointer → size_of m pointer ≡ size_of n pointer
unfolding shape
same_size m n Null e = refl
same_size m n (Fun index) e = refl
same_size m n (Obj name offset) e = size_is (find name m.objects) ∙ ap (λ s. option_map (λ (z : Shape). z.size) s) e ∙ sym (size_is (find name n.objects))

length_slice : (xs : List Byte) (o len : ℕ) → o + len ≤ length xs → length (slice_range xs o (o + len)) ≡ len
length_slice xs o len le = grind (arith, common_steps, le)

get_slice : (xs : List Byte) (o len k : ℕ) → k < len → get_or (slice_range xs o (o + len)) k Unset ≡ get_or xs (o + k) Unset
get_slice xs o len k lt = get_or-take (o + len - o) (drop o xs) k Unset (omega (arith, lt)) ∙ get_or-drop o xs k Unset

-- the bytes from a place on
pub peek_from : (m : Picture) (place : Place) (len k : ℕ) → k < len → get_or (bytes_from m place len) k Unset ≡ peek m.objects place.name (place.offset + k)
unfolding peek
peek_from m place len k lt = get_slice (bytes_at place.name m.objects) place.offset len k lt

same_slices : (xs ys : List Byte) (o len : ℕ) → o + len ≤ length xs → o + len ≤ length ys → ((i : ℕ) → o ≤ i → i < o + len → get_or xs i Unset ≡ get_or ys i Unset) → slice_range xs o (o + len) ≡ slice_range ys o (o + len)
same_slices xs ys o len x y e =
    let all = length_slice xs o len x in
    ext_get_or Unset _ _ (all ∙ sym (length_slice ys o len y)) (λ k lt.
    let l : k < len = omega (arith, lt, all) in
    get_slice xs o len k l ∙ e (o + k) (omega arith) (omega (arith, l)) ∙ sym (get_slice ys o len k l))

reached_at : (name : ℕ) (offset : ℤ) (len : ℕ) (f : Option Object) (place : Place) → reached name offset len f ≡ Ok place → offset ≡ pos place.offset
reached_at name offset len None place e = absurd (cc)
reached_at name (negsuc o) len (Some x) place e = absurd (cc)
reached_at name (pos o) len (Some x) place e = ap (λ p. pos p.offset) (if_ok (nat_le (o + len) (length x.bytes)) (record { name = name; offset = o }) place _ e).1

same_bytes : (m n : Picture) (name : ℕ) (offset : ℤ) (len : ℕ) (place : Place) → offset ≡ pos place.offset → SameBytes m n (Obj name offset) len → (i : ℕ) → place.offset ≤ i → i < place.offset + len → peek m.objects name i ≡ peek n.objects name i
same_bytes m n name offset len place o b = subst (λ z. SameBytes m n (Obj name z) len) o b

same_read_at : (m n : Picture) (len : ℕ) (r : Result Place Trap) → ((place : Place) → r ≡ Ok place → bytes_from m place len ≡ bytes_from n place len) → read_at m len r ≡ read_at n len r
same_read_at m n len (Err t) e = refl
same_read_at m n len (Ok place) e = ap Ok (e place refl)

pub same_read : (m n : Picture) (from : Pointer) (len : ℕ) → SameShape m n from → SameBytes m n from len → read m from len ≡ read n from len
unfolding peek
same_read m n Null len s b = refl
same_read m n (Fun index) len s b = refl
same_read m n (Obj name offset) len s b =
    let there = same_access m n (Obj name offset) len s in
    same_read_at m n len (access m (Obj name offset) len) (λ place a.
    let x = reached_inside name offset len (find name m.objects) place a in
    let y = reached_inside name offset len (find name n.objects) place (sym there ∙ a) in
    rw x.0 (same_slices (bytes_at name m.objects) (bytes_at name n.objects) place.offset len x.1 y.1 (same_bytes m n name offset len place (reached_at name offset len (find name m.objects) place a) b)))
    ∙ ap (read_at n len) there
