-- Layouts: their bounds, and those of structs that are named.
use Rattle.std.proofs.Common.{◌≡◌, ℕ, zero, suc, ◌*◌, Bool, true, false, List, length, Option, Some, None, refl, sym, ap, subst, ◌∙◌, arith}
use Rattle.std.specs.Prelude.{option_and_then, fold, IfSome, nat_lt, nat_eq, ◌||◌, ◌^◌, if◌then◌else◌}
use Rattle.pv_base.specs.declared.name.Name.{Name}
use Rattle.ir_tree.specs.declared.layout.Layout.{Layout}
use Rattle.ir_tree.specs.declared.items.NamedType.{NamedType}
use Rattle.ir_tree.specs.Trees.{TypeV, IntV, PtrV, VoidV, ArrayV, StructV, NamedV, TypesV, NoneV, MoreV}
use Rattle.ir_tree.specs.Layouts.{sized, round_up, array_layout, joined, no_fields, layout_with, layouts_with, type_named, named_layout, layout_of, struct_fields, fields_of}
use Rattle.ir_tree.specs.Bounds.{IsLayout}
use Rattle.ir_tree.proofs.Bounded.{sized_bound, joined_bound}
use Rattle.ir_tree.proofs.Growing.{upto_is, layout_later}

-- ---- bounds

-- an alignment of an integer
int_if : (a b c d : Bool) → IfSome (if a then Some (record { size = 1; align = 1 }) else (if b then Some (record { size = 2; align = 2 }) else (if c then Some (record { size = 4; align = 4 }) else (if d then Some (record { size = 8; align = 8 }) else None)))) IsLayout
int_if true b c d = record { size = omega arith; least = omega arith; most = omega arith }
int_if false true c d = record { size = omega arith; least = omega arith; most = omega arith }
int_if false false true d = record { size = omega arith; least = omega arith; most = omega arith }
int_if false false false true = record { size = omega arith; least = omega arith; most = omega arith }
int_if false false false false = tt

array_bound : (count : ℕ) (o : Option Layout) → IfSome o IsLayout → IfSome (array_layout count o) IsLayout
array_bound count None h = tt
array_bound count (Some l) h = sized_bound (count * l.size) l.align h.least h.most

end_bound : (o : Option Layout) → IfSome o IsLayout → IfSome (option_and_then (λ so. sized (round_up so.size so.align) so.align) o) IsLayout
end_bound None h = tt
end_bound (Some so) h = sized_bound (round_up so.size so.align) so.align h.least h.most

body_bound : (named : Name → Option Layout) → ((t : TypeV) → IfSome (layout_with named t) IsLayout) → (o : Option TypeV) → IfSome (option_and_then (layout_with named) o) IsLayout
body_bound named h None = tt
body_bound named h (Some t) = h t

mutual
  with_bound : (named : Name → Option Layout) → ((x : Name) → IfSome (named x) IsLayout) → (t : TypeV) → IfSome (layout_with named t) IsLayout
  with_bound named h (IntV w) = int_if (nat_eq w 1 || nat_eq w 8) (nat_eq w 16) (nat_eq w 32) (nat_eq w 64)
  with_bound named h PtrV = record { size = omega arith; least = omega arith; most = omega arith }
  with_bound named h VoidV = tt
  with_bound named h (ArrayV count of) = array_bound count (layout_with named of) (with_bound named h of)
  with_bound named h (StructV packed fields) = end_bound (fold (joined packed) no_fields (layouts_with named fields)) (fold_bound named h packed no_fields fields (record { size = omega arith; least = omega arith; most = omega arith }))
  with_bound named h (NamedV x) = h x

  fold_bound : (named : Name → Option Layout) → ((x : Name) → IfSome (named x) IsLayout) → (packed : Bool) (so : Option Layout) (ts : TypesV) → IfSome so IsLayout → IfSome (fold (joined packed) so (layouts_with named ts)) IsLayout
  fold_bound named h packed so NoneV is = is
  fold_bound named h packed so (MoreV t ts) is = fold_bound named h packed (joined packed so (layout_with named t)) ts (joined_bound packed so (layout_with named t) is (with_bound named h t))

named_bound : (n : ℕ) (types : List (NamedType Name TypeV)) (x : Name) → IfSome (named_layout n types x) IsLayout
unfolding named_layout
named_bound zero types x = tt
named_bound (suc n) types x = body_bound (named_layout n types) (with_bound (named_layout n types) (named_bound n types)) (type_named types x)

-- a layout that there is
taken : (o : Option Layout) (l : Layout) → IfSome o IsLayout → o ≡ Some l → IsLayout l
taken o l h e = let P : Option Layout → Type 0 = λ x. IfSome x IsLayout in subst P e h

pub layout_bound : (types : List (NamedType Name TypeV)) (t : TypeV) (l : Layout) → layout_of types t ≡ Some l → IsLayout l
layout_bound types t l e = taken (layout_of types t) l (with_bound (named_layout (length types) types) (named_bound (length types) types) t) e

-- ---- sizes

sized_if : (size align : ℕ) (b : Bool) (l : Layout) → (if b then Some (record { size = size; align = align }) else None) ≡ Some l → l ≡ record { size = size; align = align }
sized_if size align true l e = cc
sized_if size align false l e = absurd cc

-- what has a layout of that size and alignment has these
pub sized_is : (size align : ℕ) (l : Layout) → sized size align ≡ Some l → l ≡ record { size = size; align = align }
unfolding sized
sized_is size align l e = sized_if size align (nat_lt size (2 ^ 63)) l e

-- an array's elements have a layout
pub array_is : (count : ℕ) (o : Option Layout) (l : Layout) → array_layout count o ≡ Some l → (e : Layout) × (o ≡ Some e) × (l.size ≡ count * e.size)
array_is count None l is = absurd cc
array_is count (Some e) l is = (e, refl, ap (λ (x : Layout). x.size) (sized_is (count * e.size) e.align l is))

-- a struct's end is that of its fields, rounded up
pub struct_is : (o : Option Layout) (l : Layout) → option_and_then (λ so. sized (round_up so.size so.align) so.align) o ≡ Some l → (e : Layout) × (o ≡ Some e) × (l.size ≡ round_up e.size e.align)
struct_is None l is = absurd cc
struct_is (Some e) l is = (e, refl, ap (λ (x : Layout). x.size) (sized_is (round_up e.size e.align) e.align l is))

-- ---- structs by their names

named_struct : (types : List (NamedType Name TypeV)) (packed : Bool) (fields : TypesV) (o : Option TypeV) → option_and_then struct_fields o ≡ Some (packed, fields) → o ≡ Some (StructV packed fields)
named_struct types packed fields None e = absurd cc
named_struct types packed fields (Some (IntV w)) e = absurd cc
named_struct types packed fields (Some PtrV) e = absurd cc
named_struct types packed fields (Some VoidV) e = absurd cc
named_struct types packed fields (Some (ArrayV n t)) e = absurd cc
named_struct types packed fields (Some (NamedV x)) e = absurd cc
named_struct types packed fields (Some (StructV p fs)) e = let same : (p, fs) ≡ (packed, fields) = cc in ap (λ (q : Bool × TypesV). Some (StructV q.0 q.1)) same

opened_at : (n : ℕ) (types : List (NamedType Name TypeV)) (x : Name) (t : TypeV) (l : Layout) → type_named types x ≡ Some t → named_layout n types x ≡ Some l → layout_with (named_layout n types) t ≡ Some l
unfolding named_layout
opened_at zero types x t l is e = absurd cc
opened_at (suc n) types x t l is e =
    let inner : layout_with (named_layout n types) t ≡ Some l = ap (option_and_then (layout_with (named_layout n types))) (sym is) ∙ e in
    upto_is _ _ (layout_later n (suc n) types t (omega arith)) l inner

-- a struct's layout is that of its fields, whether it is named or not
pub fields_laid : (types : List (NamedType Name TypeV)) (t : TypeV) (packed : Bool) (fields : TypesV) (l : Layout) → fields_of types t ≡ Some (packed, fields) → layout_of types t ≡ Some l
    → layout_of types (StructV packed fields) ≡ Some l
fields_laid types (IntV w) packed fields l f e = absurd cc
fields_laid types PtrV packed fields l f e = absurd cc
fields_laid types VoidV packed fields l f e = absurd cc
fields_laid types (ArrayV n of) packed fields l f e = absurd cc
fields_laid types (StructV p fs) packed fields l f e =
    let same : (packed, fields) ≡ (p, fs) = cc in
    ap (λ (q : Bool × TypesV). layout_of types (StructV q.0 q.1)) same ∙ e
fields_laid types (NamedV x) packed fields l f e = opened_at (length types) types x (StructV packed fields) l (named_struct types packed fields (type_named types x) f) e
