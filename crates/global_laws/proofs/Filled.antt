-- The first bytes of a constant whose names and addresses are found are as many as the layout of its type says.
use Rattle.std.proofs.Common.{◌≡◌, ℕ, zero, suc, ◌+◌, ◌-◌, ◌*◌, ◌/◌, ◌%◌, ◌<◌, ◌≤◌, Bool, true, List, [], ◌++◌, length, max, Option, Some, None, refl, sym, ap, subst, ◌∙◌, arith, length-append}
use Rattle.std.proofs.lemmas.List.{length-map, length-replicate}
use Rattle.std.specs.Prelude.{fold}
use Rattle.std.specs.Option.{option_map_or}
use Rattle.ir_tree.specs.declared.layout.Layout.{Layout}
use Rattle.ir_tree.specs.Trees.{TypeV, IntV, ArrayV}
use Rattle.ir_tree.specs.Trees.{ConstantV, IntegerC, NullC, ZeroC, TextC, ArrayC, StructC, NameC, AddressC, ElementsV, NoneC, MoreC}
use Rattle.ir_tree.specs.Layouts.{round_up, int_layout, array_layout, field_align, field_place, with_field, joined, no_fields, layout_with, layouts_with, named_layout, layout_of, fields_of}
use Rattle.ir_tree.specs.Bounds.{IsLayout}
use Rattle.ir_tree.specs.Modules.{Items, types_of}
use Rattle.ir_tree.proofs.Bounded.{with_field_bound}
use Rattle.ir_code.specs.declared.op.Fixed.{Fixed}
use Rattle.ir_code.specs.declared.op.Fixed.TheVariants as fixed
use Rattle.ir_code.specs.Fixed.{fixed_of}
use Rattle.mem_image.specs.declared.object.Byte.{Byte}
use Rattle.mem_image.specs.declared.object.Byte.TheVariants.{Num}
use Rattle.ir_rules.specs.Seen.{seen}
use Rattle.ir_rules.specs.Constants.{written_types, type_count, are_all, has_form, holds_together, all_together}
use Rattle.ir_rules.proofs.SameLemmas.{and_both, type_is_same}
use Rattle.ir_bytes.specs.Initial.{zeros, low_bytes, byte_count, scalar_bytes, size_in, aligned_in, gap, padded, bytes_of, array_bytes, struct_bytes}
use Rattle.checked_code.proofs.Layouts.{layout_bound, sized_is, array_is, struct_is, fields_laid}
use Rattle.global_laws.specs.Filled.{is_address, IsFound, AreFound, InitialisersFill}
use Rattle.global_laws.proofs.Forms.{width_is, text_is, elements_are, fields_are, field_bound, aligned_is, field_laid, more_bound, pointer_size, times_more}

-- ---- padding

-- bytes and their padding are their number, rounded up
rounded : (a n : ℕ) → 0 < a → a ≤ 8 → n + (a - n % a) % a ≡ (n + (a - 1)) / a * a
rounded zero n least most = absurd (omega arith)
rounded (suc zero) n least most = omega arith
rounded (suc (suc zero)) n least most = omega arith
rounded (suc (suc (suc zero))) n least most = omega arith
rounded (suc (suc (suc (suc zero)))) n least most = omega arith
rounded (suc (suc (suc (suc (suc zero))))) n least most = omega arith
rounded (suc (suc (suc (suc (suc (suc zero)))))) n least most = omega arith
rounded (suc (suc (suc (suc (suc (suc (suc zero))))))) n least most = omega arith
rounded (suc (suc (suc (suc (suc (suc (suc (suc zero)))))))) n least most = omega arith
rounded (suc (suc (suc (suc (suc (suc (suc (suc (suc a))))))))) n least most = absurd (omega arith)

padded_is : (so : List Byte) (a : ℕ) → 0 < a → a ≤ 8 → length (padded so a) ≡ round_up (length so) a
unfolding round_up
padded_is so a least most =
    let len = length-append so (zeros (gap (length so) a)) in
    let more = length-replicate (gap (length so) a) (Num 0) in
    let up = rounded a (length so) least most in
    omega (arith, len, more, up)

-- ---- scalars

low_length : (n bits : ℕ) → length (low_bytes n bits) ≡ n
low_length zero bits = refl
low_length (suc n) bits = ap suc (low_length n (bits / 256))

address_length : (value : Option Fixed) → is_address value ≡ true → length (scalar_bytes value) ≡ 8
address_length None e = absurd (cc)
address_length (Some (fixed.Int n)) e = absurd (cc)
address_length (Some fixed.Null) e = length-replicate 8 (Num 0)
address_length (Some (fixed.Global i offset)) e = refl
address_length (Some (fixed.Function i)) e = refl
address_length (Some fixed.Nowhere) e = length-replicate 8 (Num 0)

-- ---- fields

-- one more field behind its padding is what is laid out with it
one_field : (packed : Bool) (so bytes : List Byte) (s l t : Layout) → IsLayout l → length so ≡ s.size → length bytes ≡ l.size → with_field packed s l ≡ Some t → length (padded so (field_align packed l) ++ bytes) ≡ t.size
one_field packed so bytes s l t is same each more =
    let bound = field_bound packed l is in
    let up = padded_is so (field_align packed l) bound.0 bound.1 in
    let there : round_up (length so) (field_align packed l) ≡ field_place packed s l = ap (λ (n : ℕ). round_up n (field_align packed l)) same in
    let size : t.size ≡ field_place packed s l + l.size = ap (λ (x : Layout). x.size) (sized_is (field_place packed s l + l.size) (max s.align (field_align packed l)) t more) in
    let both = length-append (padded so (field_align packed l)) bytes in
    omega (arith, up, there, size, both, each)

-- ---- constants

mutual
  unfolding holds_together all_together written_types type_count are_all

  value_is : (m : Items) (type : TypeV) (c : ConstantV) (l : Layout) → has_form (seen m) type c ≡ true → holds_together (seen m) c ≡ true → layout_of (types_of m) type ≡ Some l → IsFound m c → length (bytes_of m type c) ≡ l.size
  value_is m type (IntegerC n) l form together laid found =
      let is : int_layout n.width ≡ Some l = ap (layout_of (types_of m)) (sym (width_is n.width type form)) ∙ laid in
      let count : byte_count n.width ≡ l.size = ap (λ o. option_map_or (λ (x : Layout). x.size) o 0) is in
      low_length (byte_count n.width) n.bits ∙ count
  value_is m type NullC l form together laid found = length-replicate 8 (Num 0) ∙ sym (pointer_size m type l form laid)
  value_is m type ZeroC l form together laid found =
      let size : size_in m type ≡ l.size = ap (λ o. option_map_or (λ (x : Layout). x.size) o 0) laid in
      length-replicate (size_in m type) (Num 0) ∙ size
  value_is m type (TextC text) l form together laid found =
      let is : layout_of (types_of m) (ArrayV (length text) (IntV 8)) ≡ Some l = ap (layout_of (types_of m)) (sym (text_is (length text) type form)) ∙ laid in
      let size : l.size ≡ length text * 1 = ap (λ (x : Layout). x.size) (sized_is (length text * 1) 1 l is) in
      omega (arith, length-map text Num, size)
  value_is m type (ArrayC es) l form together laid found =
      let of = elements_are type (written_types es) form in
      let is : array_layout (type_count (written_types es)) (layout_of (types_of m) of.0) ≡ Some l = ap (layout_of (types_of m)) (sym of.1) ∙ laid in
      let e = array_is (type_count (written_types es)) (layout_of (types_of m) of.0) l is in
      array_of m of.0 es e.0 of.2 together e.1 found ∙ sym e.2
  value_is m type (StructC packed es) l form together laid found =
      let is = fields_are packed (fields_of (types_of m) type) (written_types es) form in
      let named = named_layout (length (types_of m)) (types_of m) in
      let e = struct_is (fold (joined packed) no_fields (layouts_with named (written_types es))) l (fields_laid (types_of m) type packed (written_types es) l is laid) in
      struct_of m packed [] 1 (record { size = 0; align = 1 }) es e.0 (record { size = omega arith; least = omega arith; most = omega arith }) refl refl together e.1 found ∙ sym e.2
  value_is m type (NameC name) l form together laid found = address_length (fixed_of m type (NameC name)) found ∙ sym (pointer_size m type l form laid)
  value_is m type (AddressC of base indices) l form together laid found = address_length (fixed_of m type (AddressC of base indices)) found ∙ sym (pointer_size m type l form laid)

  array_of : (m : Items) (of : TypeV) (es : ElementsV) (e : Layout) → are_all of (written_types es) ≡ true → all_together (seen m) es ≡ true → layout_of (types_of m) of ≡ Some e → AreFound m es → length (array_bytes m es) ≡ type_count (written_types es) * e.size
  array_of m of NoneC e all together laid found = omega arith
  array_of m of (MoreC type c rest) e all together laid found =
      let p = and_both _ _ all in
      let same : of ≡ type = type_is_same of type p.0 in
      let q = and_both _ _ together in
      let first = and_both _ _ q.0 in
      let one = value_is m type c e first.0 first.1 (ap (layout_of (types_of m)) (sym same) ∙ laid) found.0 in
      let others = array_of m of rest e p.1 q.1 laid found.1 in
      omega (arith, one, others, length-append (bytes_of m type c) (array_bytes m rest), times_more (type_count (written_types rest)) e.size)

  struct_of : (m : Items) (packed : Bool) (so : List Byte) (align : ℕ) (s : Layout) (es : ElementsV) (end : Layout) → IsLayout s → length so ≡ s.size → align ≡ s.align → all_together (seen m) es ≡ true
      → fold (joined packed) (Some s) (layouts_with (named_layout (length (types_of m)) (types_of m)) (written_types es)) ≡ Some end → AreFound m es → length (struct_bytes m packed so align es) ≡ round_up end.size end.align
  struct_of m packed so align s NoneC end is le same together laid found =
      let ends : s ≡ end = cc in
      let up : length (padded so s.align) ≡ round_up s.size s.align = padded_is so s.align is.least is.most ∙ ap (λ (n : ℕ). round_up n s.align) le in
      let P : Layout → Type 0 = λ x. length (padded so align) ≡ round_up x.size x.align in
      subst P ends (rw same up)
  struct_of m packed so align s (MoreC type c rest) end is le same together laid found =
      let named = named_layout (length (types_of m)) (types_of m) in
      let f = field_laid packed s (layout_with named type) (layouts_with named (written_types rest)) end laid in
      let q = and_both _ _ together in
      let first = and_both _ _ q.0 in
      let field = layout_bound (types_of m) type f.field f.is in
      let one = value_is m type c f.field first.0 first.1 f.is found.0 in
      let aligned = aligned_is m packed type f.field f.is in
      let grown = one_field packed so (bytes_of m type c) s f.field f.so field le one f.more in
      let most : max s.align (field_align packed f.field) ≡ f.so.align = sym (ap (λ (x : Layout). x.align) (sized_is (field_place packed s f.field + f.field.size) (max s.align (field_align packed f.field)) f.so f.more)) in
      struct_of m packed (padded so (aligned_in m packed type) ++ bytes_of m type c) (max align (aligned_in m packed type)) f.so rest end
      (more_bound (with_field packed s f.field) f.so (with_field_bound packed s f.field is field) f.more)
      (rw aligned grown) (rw (aligned, same) most) q.1 f.rest found.1

-- ---- all of it

pub initialisers_fill : InitialisersFill
initialisers_fill m type c l is laid found =
    let p = and_both _ _ is in
    value_is m type c l p.0 p.1 laid found
