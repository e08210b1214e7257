-- What the form of a constant says of its type, and what a field says of its struct.
use Rattle.std.proofs.Common.{◌≡◌, ℕ, suc, ◌+◌, ◌*◌, ◌<◌, ◌≤◌, Bool, true, false, List, [], ◌∷◌, Option, Some, None, refl, sym, ap, subst, ◌∙◌, arith, eqb-true}
use Rattle.std.specs.Prelude.{fold, IfSome}
use Rattle.std.specs.Option.{option_map_or}
use Rattle.ir_tree.specs.declared.layout.Layout.{Layout}
use Rattle.ir_tree.specs.Trees.{TypeV, IntV, PtrV, VoidV, ArrayV, StructV, NamedV, TypesV}
use Rattle.ir_tree.specs.Layouts.{field_align, with_field, joined, layout_of}
use Rattle.ir_tree.specs.Bounds.{IsLayout}
use Rattle.ir_tree.specs.Modules.{Items, types_of}
use Rattle.ir_rules.specs.Constants.{is_pointer, has_width, type_count, are_all, elements_fit, text_fits, fields_fit}
use Rattle.ir_rules.proofs.SameLemmas.{and_both, bool_is, types_are_same}
use Rattle.ir_bytes.specs.Initial.{aligned_in}

-- ---- what a form says of its type

pub width_is : (w : ℕ) (type : TypeV) → has_width w type ≡ true → type ≡ IntV w
width_is w (IntV v) e = ap IntV (eqb-true v w e)
width_is w PtrV e = absurd cc
width_is w VoidV e = absurd cc
width_is w (ArrayV n t) e = absurd cc
width_is w (StructV p ts) e = absurd cc
width_is w (NamedV x) e = absurd cc

pub pointer_is : (type : TypeV) → is_pointer type ≡ true → type ≡ PtrV
pointer_is (IntV v) e = absurd cc
pointer_is PtrV e = refl
pointer_is VoidV e = absurd cc
pointer_is (ArrayV n t) e = absurd cc
pointer_is (StructV p ts) e = absurd cc
pointer_is (NamedV x) e = absurd cc

pub text_is : (n : ℕ) (type : TypeV) → text_fits n type ≡ true → type ≡ ArrayV n (IntV 8)
text_is n (ArrayV m t) e =
    let p = and_both _ _ e in
    let count : m ≡ n = eqb-true m n p.0 in
    let of : t ≡ IntV 8 = width_is 8 t p.1 in
    cc
text_is n (IntV v) e = absurd cc
text_is n PtrV e = absurd cc
text_is n VoidV e = absurd cc
text_is n (StructV p ts) e = absurd cc
text_is n (NamedV x) e = absurd cc

pub elements_are : (type : TypeV) (written : TypesV) → elements_fit type written ≡ true → (of : TypeV) × (type ≡ ArrayV (type_count written) of) × (are_all of written ≡ true)
elements_are (ArrayV n t) written e =
    let p = and_both _ _ e in
    let count : n ≡ type_count written = eqb-true n (type_count written) p.0 in
    (t, ap (λ k. ArrayV k t) count, p.1)
elements_are (IntV v) written e = absurd cc
elements_are PtrV written e = absurd cc
elements_are VoidV written e = absurd cc
elements_are (StructV p ts) written e = absurd cc
elements_are (NamedV x) written e = absurd cc

pub fields_are : (packed : Bool) (o : Option (Bool × TypesV)) (written : TypesV) → fields_fit packed o written ≡ true → o ≡ Some (packed, written)
fields_are packed None written e = absurd cc
fields_are packed (Some f) written e =
    let p = and_both _ _ e in
    let same : packed ≡ f.0 = bool_is packed f.0 p.0 in
    let fields : f.1 ≡ written = types_are_same f.1 written p.1 in
    ap (λ (p : Bool). Some (p, f.1)) (sym same) ∙ ap (λ (ts : TypesV). Some (packed, ts)) fields

-- ---- fields

pub field_bound : (packed : Bool) (l : Layout) → IsLayout l → (0 < field_align packed l) × (field_align packed l ≤ 8)
field_bound true l is = (omega arith, omega arith)
field_bound false l is = (is.least, is.most)

pub aligned_is : (m : Items) (packed : Bool) (t : TypeV) (l : Layout) → layout_of (types_of m) t ≡ Some l → aligned_in m packed t ≡ field_align packed l
aligned_is m true t l e = refl
aligned_is m false t l e = ap (λ o. option_map_or (λ (x : Layout). x.align) o 1) e

none_laid : (packed : Bool) (os : List (Option Layout)) → fold (joined packed) None os ≡ None
none_laid packed [] = refl
none_laid packed (o ∷ os) = none_laid packed os

-- where all fields have a layout, so have the first and those behind it
pub record FieldLaid (packed : Bool) (s : Layout) (o : Option Layout) (os : List (Option Layout)) (end : Layout) : Type 0 where
  pub field : Layout
  pub so : Layout
  pub is : o ≡ Some field
  pub more : with_field packed s field ≡ Some so
  pub rest : fold (joined packed) (Some so) os ≡ Some end

field_if : (packed : Bool) (s l : Layout) (w : Option Layout) (os : List (Option Layout)) (end : Layout) → with_field packed s l ≡ w → fold (joined packed) w os ≡ Some end → FieldLaid packed s (Some l) os end
field_if packed s l None os end e f = let none : fold (joined packed) None os ≡ None = none_laid packed os in absurd cc
field_if packed s l (Some t) os end e f = record { field = l; so = t; is = refl; more = e; rest = f }

pub field_laid : (packed : Bool) (s : Layout) (o : Option Layout) (os : List (Option Layout)) (end : Layout) → fold (joined packed) (joined packed (Some s) o) os ≡ Some end → FieldLaid packed s o os end
field_laid packed s None os end e = let none : fold (joined packed) None os ≡ None = none_laid packed os in absurd cc
field_laid packed s (Some l) os end e = field_if packed s l (with_field packed s l) os end refl e

pub more_bound : (o : Option Layout) (l : Layout) → IfSome o IsLayout → o ≡ Some l → IsLayout l
more_bound o l h e = let P : Option Layout → Type 0 = λ x. IfSome x IsLayout in subst P e h

pub pointer_size : (m : Items) (type : TypeV) (l : Layout) → is_pointer type ≡ true → layout_of (types_of m) type ≡ Some l → l.size ≡ 8
pointer_size m type l form laid =
    let is : Some (let p : Layout = record { size = 8; align = 8 } in p) ≡ Some l = ap (layout_of (types_of m)) (sym (pointer_is type form)) ∙ laid in
    let same : l ≡ record { size = 8; align = 8 } = cc in
    ap (λ (x : Layout). x.size) same

pub times_more : (k s : ℕ) → suc k * s ≡ s + k * s
times_more k s = grind arith
