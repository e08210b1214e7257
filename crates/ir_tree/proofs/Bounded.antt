-- Every layout is bounded.
use Rattle.std.proofs.Common.{◌≡◌, ℕ, ◌+◌, ◌^◌, ◌<◌, ◌≤◌, max, Bool, true, false, Option, Some, None, refl, arith}
use Rattle.std.specs.Prelude.{IfSome, nat_lt, if◌then◌else◌}
use borrow.Author.Tests.{ltb-true}
use Rattle.ir_tree.specs.declared.layout.Layout.{Layout}
use Rattle.ir_tree.specs.Layouts.{sized, field_align, field_place, with_field, joined}
use Rattle.ir_tree.specs.Bounds.{IsLayout}

sized_if : (size align : ℕ) (b : Bool) → (b ≡ true → size < 2 ^ 63) → 0 < align → align ≤ 8 → IfSome (if b then Some (record { size = size; align = align }) else None) IsLayout
sized_if size align true small least most = record { size = small refl; least = least; most = most }
sized_if size align false small least most = tt

pub sized_bound : (size align : ℕ) → 0 < align → align ≤ 8 → IfSome (sized size align) IsLayout
unfolding sized
sized_bound size align least most = sized_if size align (nat_lt size (2 ^ 63)) (λ e. ltb-true size (2 ^ 63) e) least most

great_if : (size align : ℕ) (b : Bool) → (b ≡ true → size < 2 ^ 63) → 2 ^ 63 ≤ size → (let none : Option Layout = None in (if b then Some (record { size = size; align = align }) else none) ≡ none)
great_if size align true small great = let lt : size < 2 ^ 63 = small refl in absurd (omega arith)
great_if size align false small great = refl

pub sized_great : (size align : ℕ) → (size < 2 ^ 128 → ⊥) → sized size align ≡ None
unfolding sized
sized_great size align great = great_if size align (nat_lt size (2 ^ 63)) (λ e. ltb-true size (2 ^ 63) e) (omega arith)

align_bound : (packed : Bool) (l : Layout) → IsLayout l → (0 < field_align packed l) × (field_align packed l ≤ 8)
align_bound true l is = (omega arith, omega arith)
align_bound false l is = (is.least, is.most)

pub with_field_bound : (packed : Bool) (so l : Layout) → IsLayout so → IsLayout l → IfSome (with_field packed so l) IsLayout
with_field_bound packed so l is of =
    let a = align_bound packed l of in
    let least : 0 < max so.align (field_align packed l) = omega (arith, a.0, is.least) in
    let most : max so.align (field_align packed l) ≤ 8 = omega (arith, a.1, is.most) in
    sized_bound (field_place packed so l + l.size) (max so.align (field_align packed l)) least most

pub joined_bound : (packed : Bool) (so l : Option Layout) → IfSome so IsLayout → IfSome l IsLayout → IfSome (joined packed so l) IsLayout
joined_bound packed (Some so) (Some l) is of = with_field_bound packed so l is of
joined_bound packed (Some so) None is of = tt
joined_bound packed None l is of = tt
