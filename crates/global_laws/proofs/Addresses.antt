-- A constant address of a checked module is found.
use Rattle.std.proofs.Common.{◌≡◌, ◌∙◌, ℕ, ℤ, pos, Bool, true, false, List, [], ◌∷◌, Option, Some, None, refl, ap, arith, eqb-true, if◌then◌else◌}
use Rattle.std.specs.Prelude.{is_some, option_and_then, option_map, nat_eq, nat_le, nat_lt, ◌&&◌}
use Rattle.std.specs.Int.{int_wrapping_add, w64}
use Rattle.std.specs.Ordering.{int_eq}
use Rattle.std.proofs.lemmas.Bool.Decides.{nat_tests}
use Rattle.pv_base.specs.declared.name.Name.{Name}
use Rattle.int_num.specs.Integer.{Integer}
use Rattle.ir_tree.specs.declared.layout.Layout.{Layout}
use Rattle.ir_tree.specs.declared.items.NamedType.{NamedType}
use Rattle.ir_tree.specs.Trees.{TypeV, IntV, PtrV, VoidV, ArrayV, StructV, NamedV}
use Rattle.ir_tree.specs.Trees.{ConstantV, IntegerC, NullC, ZeroC, TextC, ArrayC, StructC, NameC, AddressC, ElementsV, NoneC, MoreC}
use Rattle.ir_tree.specs.Layouts.{layout_of}
use Rattle.ir_tree.specs.Modules.{Items, types_of}
use Rattle.ir_code.specs.declared.op.Fixed.{Fixed}
use Rattle.ir_code.specs.declared.op.Fixed.TheVariants as fixed
use Rattle.ir_code.specs.declared.op.Operand.{Operand}
use Rattle.ir_code.specs.declared.op.Operand.TheVariants as operand
use Rattle.ir_code.specs.declared.op.Index.{Index}
use Rattle.ir_code.specs.declared.op.Index.TheVariants as index
use Rattle.ir_code.specs.Strides.{Step, integer_index, inner_strides, strides}
use Rattle.ir_code.specs.Fixed.{amount, total_of, moved, address, fixed_of, operands_of}
use Rattle.ir_rules.specs.Seen.{seen}
use Rattle.ir_rules.specs.Numbering.{is_within}
use Rattle.ir_rules.specs.Constants.{is_integer, has_form, constant_index, written_types, indices_of, all_integers, holds_together, all_together, names_known, all_known}
use Rattle.ir_rules.specs.Reading.{has_layout, type_stands, constant_stands, elements_stand}
use Rattle.ir_rules.specs.declared.given.Walk.TheVariants.{Through, Differs, Outside}
use Rattle.ir_rules.specs.Indexing.{WalkV, path, agrees, is_inside}
use Rattle.ir_rules.proofs.SameLemmas.{and_both}
use Rattle.global_laws.specs.Filled.{is_address}
use Rattle.global_laws.proofs.Walking.{AreIndices, AllAmounts, inner_some}
use Rattle.global_laws.proofs.Names.{some_of, named_found}

-- ---- sums

total_some : (is : List Index) (at : ℤ) → AllAmounts is → (t : ℤ) × (total_of at is ≡ Some t)
total_some [] at h = (at, refl)
total_some (i ∷ is) at h =
    let a = some_of (amount i) h.0 in
    let r = total_some is (int_wrapping_add w64 at a.0) h.1 in
    (r.0, ap (option_and_then (λ (b : ℤ). total_of (int_wrapping_add w64 at b) is)) a.1 ∙ r.1)

moved_found : (b : Fixed) (total : ℤ) → is_address (Some b) ≡ true → is_address (moved b total) ≡ true
moved_found (fixed.Int n) total e = absurd (cc)
moved_found fixed.Null total e = elim (int_eq total (pos 0)) as (λ b. is_address (Some (if b then fixed.Null else fixed.Nowhere)) ≡ true) [ true ↦ refl | false ↦ refl ]
moved_found (fixed.Global i offset) total e = refl
moved_found (fixed.Function i) total e = elim (int_eq total (pos 0)) as (λ b. is_address (Some (if b then fixed.Function i else fixed.Nowhere)) ≡ true) [ true ↦ refl | false ↦ refl ]
moved_found fixed.Nowhere total e = refl

address_found : (m : Items) (of : TypeV) (base : Option Fixed) (vs : Option (List Operand)) (is : List Index) → is_address base ≡ true → option_and_then (strides (types_of m) of) vs ≡ Some is → AllAmounts is → is_address (address m of base vs) ≡ true
address_found m of None vs is e s a = absurd (cc)
address_found m of (Some b) vs is e s a =
    let t = total_some is (pos 0) a in
    ap (λ (x : Option (List Index)). is_address (option_and_then (λ total. moved b total) (option_and_then (total_of (pos 0)) x))) s ∙ ap (λ (y : Option ℤ). is_address (option_and_then (λ total. moved b total) y)) t.1 ∙ moved_found b t.0 e

-- ---- indices

zero_index : (m : Items) (w : ℕ) (a b : Bool) → a ≡ true → b ≡ true → (if a && b then Some (fixed.Int (record { width = w; bits = 0 })) else None) ≡ Some (fixed.Int (record { width = w; bits = 0 }))
zero_index m w true true e f = refl
zero_index m w false b e f = absurd (cc)
zero_index m w true false e f = absurd (cc)

least_is : (w : ℕ) → nat_lt 0 w ≡ true → nat_le 1 w ≡ true
least_is w e = grind (arith, nat_tests)

record IndexFound (m : Items) (type : TypeV) (c : ConstantV) : Type 0 where
  number : Integer
  is : fixed_of m type c ≡ Some (fixed.Int number)
  reads : constant_index type c ≡ integer_index number

index_found : (m : Items) (type : TypeV) (c : ConstantV) → has_form (seen m) type c ≡ true → is_integer type ≡ true → type_stands (types_of m) type ≡ true → IndexFound m type c
unfolding type_stands
index_found m (IntV w) (IntegerC n) form int stands = let same : w ≡ n.width = eqb-true w n.width form in record { number = n; is = refl; reads = ap (λ (x : ℕ). if nat_eq x 32 then Some n.bits else None) same }
index_found m (IntV w) ZeroC form int stands =
    let h = and_both (nat_lt 0 w) (nat_le w 64) stands in
    record { number = record { width = w; bits = 0 }; is = zero_index m w (nat_le 1 w) (nat_le w 64) (least_is w h.0) h.1; reads = refl }
index_found m (IntV w) NullC form int stands = absurd (cc)
index_found m (IntV w) (TextC text) form int stands = absurd (cc)
index_found m (IntV w) (ArrayC es) form int stands = absurd (cc)
index_found m (IntV w) (StructC packed es) form int stands = absurd (cc)
index_found m (IntV w) (NameC x) form int stands = absurd (cc)
index_found m (IntV w) (AddressC of base es) form int stands = absurd (cc)
index_found m PtrV c form int stands = absurd (cc)
index_found m VoidV c form int stands = absurd (cc)
index_found m (ArrayV n t) c form int stands = absurd (cc)
index_found m (StructV p ts) c form int stands = absurd (cc)
index_found m (NamedV x) c form int stands = absurd (cc)

pub indices_found : (m : Items) (es : ElementsV) → all_integers (written_types es) ≡ true → all_together (seen m) es ≡ true → elements_stand (types_of m) es ≡ true → (vs : List Operand) × (operands_of m es ≡ Some vs) × AreIndices vs (indices_of es)
unfolding all_integers written_types all_together elements_stand indices_of
indices_found m NoneC ints holds stands = ([], refl, tt)
indices_found m (MoreC type c rest) ints holds stands =
    let i = and_both (is_integer type) (all_integers (written_types rest)) ints in
    let h = and_both _ (all_together (seen m) rest) holds in
    let f = and_both (has_form (seen m) type c) (holds_together (seen m) c) h.0 in
    let s = and_both _ (elements_stand (types_of m) rest) stands in
    let t = and_both (type_stands (types_of m) type) (constant_stands (types_of m) c) s.0 in
    let one = index_found m type c f.0 i.0 t.0 in
    let more = indices_found m rest i.1 h.1 s.1 in (
      operand.Constant (fixed.Int one.number) ∷ more.0,
      ap (option_and_then (λ (v : Fixed). option_map (λ (vs : List Operand). operand.Constant v ∷ vs) (operands_of m rest))) one.is ∙ ap (option_map (λ (vs : List Operand). operand.Constant (fixed.Int one.number) ∷ vs)) more.1,
      (record { number = one.number; is = refl; reads = one.reads }, more.2),
    )

-- ---- strides

through : (w : WalkV) → agrees w ≡ true → is_inside w ≡ true → (t : TypeV) × (w ≡ Through t)
through (Through t) a i = (t, refl)
through Differs a i = absurd (cc)
through Outside a i = absurd (cc)

strides_some : (types : List (NamedType Name TypeV)) (of : TypeV) (l : Layout) (vs : List Operand) (ks : List (Option ℕ)) → layout_of types of ≡ Some l → AreIndices vs ks → agrees (path types of ks) ≡ true → is_inside (path types of ks) ≡ true → (is : List Index) × (strides types of vs ≡ Some is) × AllAmounts is
strides_some types of l [] [] laid x a i = absurd (cc)
strides_some types of l [] (k ∷ ks) laid x a i = elim x [ ]
strides_some types of l (v ∷ vs) [] laid x a i = elim x [ ]
strides_some types of l (v ∷ vs) (k ∷ ks) laid x a i =
    let w = through (path types of (k ∷ ks)) a i in
    let inner = inner_some types of w.0 vs ks l laid x.1 w.1 in (
      index.Scaled v l.size ∷ inner.all,
      ap (λ (o : Option Layout). option_and_then (λ (s : Step). option_map (λ (more : List Index). s.index ∷ more) (inner_strides types s.into vs)) (option_map (λ (y : Layout). let s : Step = record { index = index.Scaled v y.size; into = of } in s) o)) laid
          ∙ ap (option_map (λ (more : List Index). index.Scaled v l.size ∷ more)) inner.is,
      (ap (λ (y : Operand). is_some (amount (index.Scaled y l.size))) x.0.is, inner.adds),
    )

-- ---- pointers

pub pointer_found : (m : Items) (c : ConstantV) → is_within m ≡ true → has_form (seen m) PtrV c ≡ true → holds_together (seen m) c ≡ true → names_known (seen m) c ≡ true → constant_stands (types_of m) c ≡ true → is_address (fixed_of m PtrV c) ≡ true
unfolding holds_together names_known constant_stands
pointer_found m (IntegerC n) within form holds known stands = absurd (cc)
pointer_found m NullC within form holds known stands = refl
pointer_found m ZeroC within form holds known stands = refl
pointer_found m (TextC text) within form holds known stands = absurd (cc)
pointer_found m (ArrayC es) within form holds known stands = absurd (cc)
pointer_found m (StructC packed es) within form holds known stands = absurd (cc)
pointer_found m (NameC x) within form holds known stands = named_found m x within known
pointer_found m (AddressC of base es) within form holds known stands =
    let h = and_both _ (agrees (path (types_of m) of (indices_of es))) holds in
    let g = and_both _ (all_together (seen m) es) h.0 in
    let f = and_both _ (all_integers (written_types es)) g.0 in
    let b = and_both (has_form (seen m) PtrV base) (holds_together (seen m) base) f.0 in
    let s = and_both _ (elements_stand (types_of m) es) stands in
    let r = and_both _ (constant_stands (types_of m) base) s.0 in
    let p = and_both (has_layout (types_of m) of) (is_inside (path (types_of m) of (indices_of es))) r.0 in
    let k = and_both (names_known (seen m) base) (all_known (seen m) es) known in
    let under = pointer_found m base within b.0 b.1 k.0 r.1 in
    let l = some_of (layout_of (types_of m) of) p.0 in
    let vs = indices_found m es f.1 g.1 s.1 in
    let is = strides_some (types_of m) of l.0 vs.0 (indices_of es) l.1 vs.2 h.1 p.1 in
    address_found m of (fixed_of m PtrV base) (operands_of m es) is.0 under (ap (option_and_then (strides (types_of m) of)) vs.1 ∙ is.1) is.2
