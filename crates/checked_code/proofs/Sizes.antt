-- The first bytes of a constant are no more than the layout of its type says.
use Rattle.std.proofs.Common.{◌≡◌, ℕ, zero, suc, ◌+◌, ◌-◌, ◌*◌, ◌/◌, ◌%◌, ◌<◌, ◌≤◌, Bool, true, false, List, [], ◌∷◌, ◌++◌, length, max, Option, Some, None, refl, sym, ap, subst, ◌∙◌, arith, length-append, eqb-true}
use Rattle.std.proofs.lemmas.List.{length-map, length-replicate}
use Rattle.std.specs.Prelude.{fold, nat_eq, ◌||◌, if◌then◌else◌, IfSome}
use Rattle.std.specs.Option.{option_map_or}
use Rattle.ir_tree.specs.declared.layout.Layout.{Layout}
use Rattle.ir_tree.specs.Trees.{TypeV, IntV, PtrV, VoidV, ArrayV, StructV, NamedV, TypesV}
use Rattle.ir_tree.specs.Trees.{ConstantV, IntegerC, NullC, ZeroC, TextC, ArrayC, StructC, NameC, AddressC, ElementsV, NoneC, MoreC}
use Rattle.ir_tree.specs.Layouts.{round_up, int_layout, array_layout, field_align, field_place, with_field, joined, no_fields, layout_with, layouts_with, named_layout, layout_of, fields_of}
use Rattle.ir_tree.specs.Bounds.{IsLayout}
use Rattle.ir_tree.specs.Modules.{Items, types_of}
use Rattle.ir_code.specs.declared.op.Fixed.{Fixed}
use Rattle.ir_code.specs.declared.op.Fixed.TheVariants as fixed
use Rattle.ir_code.specs.Fixed.{fixed_of}
use Rattle.mem_image.specs.declared.object.Byte.{Byte}
use Rattle.mem_image.specs.declared.object.Byte.TheVariants.{Num}
use Rattle.ir_tree.proofs.Bounded.{with_field_bound}
use Rattle.ir_rules.specs.Seen.{seen}
use Rattle.ir_rules.specs.Constants.{is_pointer, has_width, written_types, type_count, are_all, elements_fit, text_fits, fields_fit, has_form, holds_together, all_together}
use Rattle.ir_rules.proofs.SameLemmas.{and_both, bool_is, type_is_same, types_are_same}
use Rattle.ir_bytes.specs.Initial.{zeros, low_bytes, byte_count, fixed_bytes, scalar_bytes, size_in, aligned_in, gap, padded, bytes_of, array_bytes, struct_bytes}
use Rattle.checked_code.specs.Laws.{InitialisersFit}
use Rattle.checked_code.proofs.Layouts.{layout_bound, sized_is, array_is, struct_is, fields_laid}

-- ---- padding

-- bytes and their padding are no more than a greater number, rounded up
rounded : (a n s : ℕ) → 0 < a → a ≤ 8 → n ≤ s → n + (a - n % a) % a ≤ (s + (a - 1)) / a * a
rounded zero n s least most le = absurd (omega arith)
rounded (suc zero) n s least most le = omega arith
rounded (suc (suc zero)) n s least most le = omega arith
rounded (suc (suc (suc zero))) n s least most le = omega arith
rounded (suc (suc (suc (suc zero)))) n s least most le = omega arith
rounded (suc (suc (suc (suc (suc zero))))) n s least most le = omega arith
rounded (suc (suc (suc (suc (suc (suc zero)))))) n s least most le = omega arith
rounded (suc (suc (suc (suc (suc (suc (suc zero))))))) n s least most le = omega arith
rounded (suc (suc (suc (suc (suc (suc (suc (suc zero)))))))) n s least most le = omega arith
rounded (suc (suc (suc (suc (suc (suc (suc (suc (suc a))))))))) n s least most le = absurd (omega arith)

padded_le : (so : List Byte) (a s : ℕ) → 0 < a → a ≤ 8 → length so ≤ s → length (padded so a) ≤ round_up s a
unfolding round_up
padded_le so a s least most le =
    let len = length-append so (zeros (gap (length so) a)) in
    let more = length-replicate (gap (length so) a) (Num 0) in
    let up = rounded a (length so) s least most le in
    omega (arith, len, more, up)

-- ---- scalars

low_length : (n bits : ℕ) → length (low_bytes n bits) ≡ n
low_length zero bits = refl
low_length (suc n) bits = ap suc (low_length n (bits / 256))

count_if : (a b c d : Bool) → option_map_or (λ (l : Layout). l.size) (if a then Some (record { size = 1; align = 1 }) else (if b then Some (record { size = 2; align = 2 }) else (if c then Some (record { size = 4; align = 4 }) else (if d then Some (record { size = 8; align = 8 }) else None)))) 0 ≤ 8
count_if true b c d = omega arith
count_if false true c d = omega arith
count_if false false true d = omega arith
count_if false false false true = omega arith
count_if false false false false = omega arith

count_le : (width : ℕ) → byte_count width ≤ 8
count_le width = count_if (nat_eq width 1 || nat_eq width 8) (nat_eq width 16) (nat_eq width 32) (nat_eq width 64)

fixed_le : (value : Fixed) → length (fixed_bytes value) ≤ 8
fixed_le (fixed.Int n) = omega (arith, low_length (byte_count n.width) n.bits, count_le n.width)
fixed_le fixed.Null = omega arith
fixed_le (fixed.Global i offset) = omega arith
fixed_le (fixed.Function i) = omega arith
fixed_le fixed.Nowhere = omega arith

scalar_le : (value : Option Fixed) → length (scalar_bytes value) ≤ 8
scalar_le None = omega arith
scalar_le (Some value) = fixed_le value

-- ---- what a form says of its type

width_is : (w : ℕ) (type : TypeV) → has_width w type ≡ true → type ≡ IntV w
width_is w (IntV v) e = ap IntV (eqb-true v w e)
width_is w PtrV e = absurd cc
width_is w VoidV e = absurd cc
width_is w (ArrayV n t) e = absurd cc
width_is w (StructV p ts) e = absurd cc
width_is w (NamedV x) e = absurd cc

pointer_is : (type : TypeV) → is_pointer type ≡ true → type ≡ PtrV
pointer_is (IntV v) e = absurd cc
pointer_is PtrV e = refl
pointer_is VoidV e = absurd cc
pointer_is (ArrayV n t) e = absurd cc
pointer_is (StructV p ts) e = absurd cc
pointer_is (NamedV x) e = absurd cc

text_is : (n : ℕ) (type : TypeV) → text_fits n type ≡ true → type ≡ ArrayV n (IntV 8)
text_is n (ArrayV m t) e =
    let p = and_both _ _ e in
    let count : m ≡ n = eqb-true m n p.0 in
    let of : t ≡ IntV 8 = width_is 8 t p.1 in
    cc
text_is n (IntV v) e = absurd cc
text_is n PtrV e = absurd cc
text_is n VoidV e = absurd cc
text_is n (StructV p ts) e = absurd cc
text_is n (NamedV x) e = absurd cc

elements_are : (type : TypeV) (written : TypesV) → elements_fit type written ≡ true → (of : TypeV) × (type ≡ ArrayV (type_count written) of) × (are_all of written ≡ true)
elements_are (ArrayV n t) written e =
    let p = and_both _ _ e in
    let count : n ≡ type_count written = eqb-true n (type_count written) p.0 in
    (t, ap (λ k. ArrayV k t) count, p.1)
elements_are (IntV v) written e = absurd cc
elements_are PtrV written e = absurd cc
elements_are VoidV written e = absurd cc
elements_are (StructV p ts) written e = absurd cc
elements_are (NamedV x) written e = absurd cc

fields_are : (packed : Bool) (o : Option (Bool × TypesV)) (written : TypesV) → fields_fit packed o written ≡ true → o ≡ Some (packed, written)
fields_are packed None written e = absurd cc
fields_are packed (Some f) written e =
    let p = and_both _ _ e in
    let same : packed ≡ f.0 = bool_is packed f.0 p.0 in
    let fields : f.1 ≡ written = types_are_same f.1 written p.1 in
    ap (λ (p : Bool). Some (p, f.1)) (sym same) ∙ ap (λ (ts : TypesV). Some (packed, ts)) fields

-- ---- fields

field_bound : (packed : Bool) (l : Layout) → IsLayout l → (0 < field_align packed l) × (field_align packed l ≤ 8)
field_bound true l is = (omega arith, omega arith)
field_bound false l is = (is.least, is.most)

aligned_is : (m : Items) (packed : Bool) (t : TypeV) (l : Layout) → layout_of (types_of m) t ≡ Some l → aligned_in m packed t ≡ field_align packed l
aligned_is m true t l e = refl
aligned_is m false t l e = ap (λ o. option_map_or (λ (x : Layout). x.align) o 1) e

none_laid : (packed : Bool) (os : List (Option Layout)) → fold (joined packed) None os ≡ None
none_laid packed [] = refl
none_laid packed (o ∷ os) = none_laid packed os

-- where all fields have a layout, so have the first and those behind it
record FieldLaid (packed : Bool) (s : Layout) (o : Option Layout) (os : List (Option Layout)) (end : Layout) : Type 0 where
  field : Layout
  so : Layout
  is : o ≡ Some field
  more : with_field packed s field ≡ Some so
  rest : fold (joined packed) (Some so) os ≡ Some end

field_if : (packed : Bool) (s l : Layout) (w : Option Layout) (os : List (Option Layout)) (end : Layout) → with_field packed s l ≡ w → fold (joined packed) w os ≡ Some end → FieldLaid packed s (Some l) os end
field_if packed s l None os end e f = let none : fold (joined packed) None os ≡ None = none_laid packed os in absurd cc
field_if packed s l (Some t) os end e f = record { field = l; so = t; is = refl; more = e; rest = f }

field_laid : (packed : Bool) (s : Layout) (o : Option Layout) (os : List (Option Layout)) (end : Layout) → fold (joined packed) (joined packed (Some s) o) os ≡ Some end → FieldLaid packed s o os end
field_laid packed s None os end e = let none : fold (joined packed) None os ≡ None = none_laid packed os in absurd cc
field_laid packed s (Some l) os end e = field_if packed s l (with_field packed s l) os end refl e

more_bound : (o : Option Layout) (l : Layout) → IfSome o IsLayout → o ≡ Some l → IsLayout l
more_bound o l h e = let P : Option Layout → Type 0 = λ x. IfSome x IsLayout in subst P e h

-- one more field behind its padding is no more than is laid out with it
one_field : (packed : Bool) (so bytes : List Byte) (s l t : Layout) → IsLayout l → length so ≤ s.size → length bytes ≤ l.size → with_field packed s l ≡ Some t → length (padded so (field_align packed l) ++ bytes) ≤ t.size
one_field packed so bytes s l t is le each more =
    let bound = field_bound packed l is in
    let up = padded_le so (field_align packed l) s.size bound.0 bound.1 le in
    let size : t.size ≡ field_place packed s l + l.size = ap (λ (x : Layout). x.size) (sized_is (field_place packed s l + l.size) (max s.align (field_align packed l)) t more) in
    let both = length-append (padded so (field_align packed l)) bytes in
    omega (arith, up, size, both, each)

pointer_size : (m : Items) (type : TypeV) (l : Layout) → is_pointer type ≡ true → layout_of (types_of m) type ≡ Some l → l.size ≡ 8
pointer_size m type l form laid =
    let is : Some (let p : Layout = record { size = 8; align = 8 } in p) ≡ Some l = ap (layout_of (types_of m)) (sym (pointer_is type form)) ∙ laid in
    let same : l ≡ record { size = 8; align = 8 } = cc in
    ap (λ (x : Layout). x.size) same

times_more : (k s : ℕ) → suc k * s ≡ s + k * s
times_more k s = grind arith

-- ---- constants

mutual
  unfolding holds_together all_together written_types type_count are_all

  value_le : (m : Items) (type : TypeV) (c : ConstantV) (l : Layout) → has_form (seen m) type c ≡ true → holds_together (seen m) c ≡ true → layout_of (types_of m) type ≡ Some l → length (bytes_of m type c) ≤ l.size
  value_le m type (IntegerC n) l form together laid =
      let is : int_layout n.width ≡ Some l = ap (layout_of (types_of m)) (sym (width_is n.width type form)) ∙ laid in
      let count : byte_count n.width ≡ l.size = ap (λ o. option_map_or (λ (x : Layout). x.size) o 0) is in
      omega (arith, low_length (byte_count n.width) n.bits, count)
  value_le m type NullC l form together laid = omega (arith, scalar_le (fixed_of m type NullC), pointer_size m type l form laid)
  value_le m type ZeroC l form together laid =
      let size : size_in m type ≡ l.size = ap (λ o. option_map_or (λ (x : Layout). x.size) o 0) laid in
      omega (arith, length-replicate (size_in m type) (Num 0), size)
  value_le m type (TextC text) l form together laid =
      let is : layout_of (types_of m) (ArrayV (length text) (IntV 8)) ≡ Some l = ap (layout_of (types_of m)) (sym (text_is (length text) type form)) ∙ laid in
      let size : l.size ≡ length text * 1 = ap (λ (x : Layout). x.size) (sized_is (length text * 1) 1 l is) in
      omega (arith, length-map text Num, size)
  value_le m type (ArrayC es) l form together laid =
      let of = elements_are type (written_types es) form in
      let is : array_layout (type_count (written_types es)) (layout_of (types_of m) of.0) ≡ Some l = ap (layout_of (types_of m)) (sym of.1) ∙ laid in
      let e = array_is (type_count (written_types es)) (layout_of (types_of m) of.0) l is in
      let all = array_le m of.0 es e.0 of.2 together e.1 in
      omega (arith, all, e.2)
  value_le m type (StructC packed es) l form together laid =
      let is = fields_are packed (fields_of (types_of m) type) (written_types es) form in
      let named = named_layout (length (types_of m)) (types_of m) in
      let e = struct_is (fold (joined packed) no_fields (layouts_with named (written_types es))) l (fields_laid (types_of m) type packed (written_types es) l is laid) in
      let all = struct_le m packed [] 1 (record { size = 0; align = 1 }) es e.0 (record { size = omega arith; least = omega arith; most = omega arith }) (omega arith) refl together e.1 in
      omega (arith, all, e.2)
  value_le m type (NameC name) l form together laid = omega (arith, scalar_le (fixed_of m type (NameC name)), pointer_size m type l form laid)
  value_le m type (AddressC of base indices) l form together laid = omega (arith, scalar_le (fixed_of m type (AddressC of base indices)), pointer_size m type l form laid)

  array_le : (m : Items) (of : TypeV) (es : ElementsV) (e : Layout) → are_all of (written_types es) ≡ true → all_together (seen m) es ≡ true → layout_of (types_of m) of ≡ Some e → length (array_bytes m es) ≤ type_count (written_types es) * e.size
  array_le m of NoneC e all together laid = omega arith
  array_le m of (MoreC type c rest) e all together laid =
      let p = and_both _ _ all in
      let same : of ≡ type = type_is_same of type p.0 in
      let q = and_both _ _ together in
      let first = and_both _ _ q.0 in
      let one = value_le m type c e first.0 first.1 (ap (layout_of (types_of m)) (sym same) ∙ laid) in
      let others = array_le m of rest e p.1 q.1 laid in
      omega (arith, one, others, length-append (bytes_of m type c) (array_bytes m rest), times_more (type_count (written_types rest)) e.size)

  struct_le : (m : Items) (packed : Bool) (so : List Byte) (align : ℕ) (s : Layout) (es : ElementsV) (end : Layout) → IsLayout s → length so ≤ s.size → align ≡ s.align → all_together (seen m) es ≡ true
      → fold (joined packed) (Some s) (layouts_with (named_layout (length (types_of m)) (types_of m)) (written_types es)) ≡ Some end → length (struct_bytes m packed so align es) ≤ round_up end.size end.align
  struct_le m packed so align s NoneC end is le same together laid =
      let ends : s ≡ end = cc in
      let up = padded_le so s.align s.size is.least is.most le in
      let P : Layout → Type 0 = λ x. length (padded so align) ≤ round_up x.size x.align in
      subst P ends (rw same up)
  struct_le m packed so align s (MoreC type c rest) end is le same together laid =
      let named = named_layout (length (types_of m)) (types_of m) in
      let f = field_laid packed s (layout_with named type) (layouts_with named (written_types rest)) end laid in
      let q = and_both _ _ together in
      let first = and_both _ _ q.0 in
      let field = layout_bound (types_of m) type f.field f.is in
      let one = value_le m type c f.field first.0 first.1 f.is in
      let aligned = aligned_is m packed type f.field f.is in
      let grown = one_field packed so (bytes_of m type c) s f.field f.so field le one f.more in
      let most : max s.align (field_align packed f.field) ≡ f.so.align = sym (ap (λ (x : Layout). x.align) (sized_is (field_place packed s f.field + f.field.size) (max s.align (field_align packed f.field)) f.so f.more)) in
      struct_le m packed (padded so (aligned_in m packed type) ++ bytes_of m type c) (max align (aligned_in m packed type)) f.so rest end
      (more_bound (with_field packed s f.field) f.so (with_field_bound packed s f.field is field) f.more)
      (rw aligned grown) (rw (aligned, same) most) q.1 f.rest

-- ---- all of it

pub initialisers_fit : InitialisersFit
initialisers_fit m type c l is laid =
    let p = and_both _ _ is in
    value_le m type c l p.0 p.1 laid
