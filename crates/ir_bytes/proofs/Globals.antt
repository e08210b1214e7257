-- The objects of globals, one after another, and their bytes.
use Rattle.std.proofs.Common.{◌≡◌, ℕ, zero, suc, ◌+◌, ◌/◌, ◌<◌, ◌≤◌, max, Bool, List, [], ◌∷◌, ◌++◌, length, map, take, drop, get_or, Option, Some, None, refl, sym, ap, ◌∙◌, arith, lit<}
use Rattle.std.specs.List.{AllByRecursion}
use Rattle.std.proofs.lemmas.List.{length-take, take_more, take-append-drop}
use Rattle.pv_base.specs.declared.place.AllocSite.TheVariants as site
use Rattle.ir_tree.specs.declared.items.Global.{Global as Variable}
use Rattle.ir_tree.specs.Trees.{TypeV, ConstantV, IntegerC, NullC, ZeroC, TextC, ArrayC, StructC, NameC, AddressC, ElementsV, NoneC, MoreC}
use Rattle.ir_tree.specs.Modules.{Items}
use Rattle.ir_code.specs.declared.op.Fixed.{Fixed}
use Rattle.ir_code.specs.declared.op.Fixed.TheVariants as fixed
use Rattle.ir_code.specs.Fixed.{fixed_of}
use Rattle.mem_image.specs.declared.object.Pointer.{Pointer}
use Rattle.mem_image.specs.declared.object.Pointer.TheVariants.{Obj, Fun}
use Rattle.mem_image.specs.declared.object.Byte.{Byte}
use Rattle.mem_image.specs.declared.object.Byte.TheVariants.{Num}
use Rattle.mem_image.specs.declared.object.Object.{Object}
use Rattle.mem_image.specs.declared.object.Kind.TheVariants as kind
use Rattle.mem_image.specs.Picture.{Picture, PartFits, live, added}
use Rattle.ir_bytes.specs.Initial.{zeros, low_bytes, byte_count, pointer_bytes, fixed_bytes, scalar_bytes, size_in, aligned_in, gap, padded, bytes_of, array_bytes, struct_bytes, bytes_at, global_object, global_objects}

objects_append : (m : Items) (i : ℕ) (xs ys : List (Variable ℕ ℕ ℕ)) → global_objects m i (xs ++ ys) ≡ global_objects m i xs ++ global_objects m (i + length xs) ys
objects_append m i [] ys = let e : i + 0 ≡ i = omega arith in rw e refl
objects_append m i (x ∷ xs) ys =
    let e : (i + 1) + length xs ≡ i + suc (length xs) = omega arith in
    ap (λ os. global_object m i x ∷ os) (objects_append m (i + 1) xs ys ∙ rw e refl)

live_append : (xs ys : List Object) → live (xs ++ ys) ≡ live xs + live ys
live_append [] ys = omega arith
live_append (x ∷ xs) ys = let e = live_append xs ys in omega arith

parts_append : (xs ys : List Byte) → AllByRecursion PartFits xs → AllByRecursion PartFits ys → AllByRecursion PartFits (xs ++ ys)
parts_append [] ys p q = q
parts_append (x ∷ xs) ys p q = (p.0, parts_append xs ys p.1 q)

zeros_parts : (n : ℕ) → AllByRecursion PartFits (zeros n)
zeros_parts zero = tt
zeros_parts (suc n) = (tt, zeros_parts n)

text_parts : (text : List ℕ) → AllByRecursion PartFits (map Num text)
text_parts [] = tt
text_parts (x ∷ xs) = (tt, text_parts xs)

low_parts : (n bits : ℕ) → AllByRecursion PartFits (low_bytes n bits)
low_parts zero bits = tt
low_parts (suc n) bits = (tt, low_parts n (bits / 256))

pointer_parts : (p : Pointer) → AllByRecursion PartFits (pointer_bytes p)
pointer_parts p = (lit< tt, (lit< tt, (lit< tt, (lit< tt, (lit< tt, (lit< tt, (lit< tt, (lit< tt, tt))))))))

fixed_parts : (value : Fixed) → AllByRecursion PartFits (fixed_bytes value)
fixed_parts (fixed.Int n) = low_parts (byte_count n.width) n.bits
fixed_parts fixed.Null = zeros_parts 8
fixed_parts (fixed.Global i offset) = pointer_parts (Obj i offset)
fixed_parts (fixed.Function i) = pointer_parts (Fun i)
fixed_parts fixed.Nowhere = zeros_parts 8

scalar_parts : (value : Option Fixed) → AllByRecursion PartFits (scalar_bytes value)
scalar_parts None = tt
scalar_parts (Some value) = fixed_parts value

mutual
  pub bytes_parts : (m : Items) (type : TypeV) (c : ConstantV) → AllByRecursion PartFits (bytes_of m type c)
  bytes_parts m type (IntegerC n) = scalar_parts (fixed_of m type (IntegerC n))
  bytes_parts m type NullC = scalar_parts (fixed_of m type NullC)
  bytes_parts m type ZeroC = zeros_parts (size_in m type)
  bytes_parts m type (TextC text) = text_parts text
  bytes_parts m type (ArrayC elements) = array_parts m elements
  bytes_parts m type (StructC packed fields) = struct_parts m packed [] 1 fields tt
  bytes_parts m type (NameC name) = scalar_parts (fixed_of m type (NameC name))
  bytes_parts m type (AddressC of base indices) = scalar_parts (fixed_of m type (AddressC of base indices))

  pub array_parts : (m : Items) (elements : ElementsV) → AllByRecursion PartFits (array_bytes m elements)
  array_parts m NoneC = tt
  array_parts m (MoreC type value rest) = parts_append (bytes_of m type value) (array_bytes m rest) (bytes_parts m type value) (array_parts m rest)

  pub struct_parts : (m : Items) (packed : Bool) (so : List Byte) (align : ℕ) (fields : ElementsV) → AllByRecursion PartFits so → AllByRecursion PartFits (struct_bytes m packed so align fields)
  struct_parts m packed so align NoneC parts = parts_append so (zeros (gap (length so) align)) parts (zeros_parts (gap (length so) align))
  struct_parts m packed so align (MoreC type value rest) parts =
      struct_parts m packed (padded so (aligned_in m packed type) ++ bytes_of m type value) (max align (aligned_in m packed type)) rest
      (parts_append (padded so (aligned_in m packed type)) (bytes_of m type value) (parts_append so (zeros (gap (length so) (aligned_in m packed type))) parts (zeros_parts (gap (length so) (aligned_in m packed type)))) (bytes_parts m type value))

-- ---- one global after another

one_more : (m : Items) (gs : List (Variable ℕ ℕ ℕ)) (k : ℕ) (d : Variable ℕ ℕ ℕ) → k < length gs
    → global_objects m 0 (take (k + 1) gs) ≡ global_objects m 0 (take k gs) ++ global_object m k (get_or gs k d) ∷ []
one_more m gs k d lt =
    let len : 0 + length (take k gs) ≡ k = omega (arith, length-take k gs) in
    rw (take_more gs k d lt, objects_append m 0 (take k gs) (get_or gs k d ∷ []), len) refl

pub next_picture : (m : Items) (gs : List (Variable ℕ ℕ ℕ)) (k : ℕ) (d : Variable ℕ ℕ ℕ) → k < length gs
    → added (record { objects = global_objects m 0 (take k gs); next = k }) (site.Global k) kind.Global (get_or gs k d).constant (bytes_at m (get_or gs k d).of (get_or gs k d).init)
    ≡ record { objects = global_objects m 0 (take (k + 1) gs); next = k + 1 }
next_picture m gs k d lt = ap (λ (os : List Object). let p : Picture = record { objects = os; next = k + 1 } in p) (sym (one_more m gs k d lt))

pub room : (m : Items) (gs : List (Variable ℕ ℕ ℕ)) (k n : ℕ) (d : Variable ℕ ℕ ℕ) → k < length gs → live (global_objects m 0 gs) ≤ n
    → live (global_objects m 0 (take k gs)) + length (bytes_at m (get_or gs k d).of (get_or gs k d).init) ≤ n
room m gs k n d lt fit =
    let whole = ap (λ xs. live (global_objects m 0 xs)) (take-append-drop (k + 1) gs) in
    let cut = ap live (objects_append m 0 (take (k + 1) gs) (drop (k + 1) gs)) in
    let parts = live_append (global_objects m 0 (take (k + 1) gs)) (global_objects m (0 + length (take (k + 1) gs)) (drop (k + 1) gs)) in
    let front = ap live (one_more m gs k d lt) in
    let last = live_append (global_objects m 0 (take k gs)) (global_object m k (get_or gs k d) ∷ []) in
    omega arith
