-- More layouts of the parts give no other layout of the whole.
use Rattle.std.proofs.Common.{◌≡◌, ℕ, zero, suc, ◌+◌, ◌<◌, ◌≤◌, Bool, List, [], ◌∷◌, map, Option, Some, None, refl, sym, subst, arith, ◌*◌, ◌-◌}
use Rattle.std.specs.Prelude.{option_and_then, fold}
use Rattle.std.specs.List.{AllByRecursion}
use Rattle.std.proofs.lemmas.List.Elements.{recursion_from_All}
use Rattle.pv_base.specs.declared.name.Name.{Name}
use Rattle.ir_tree.specs.declared.layout.Layout.{Layout}
use Rattle.ir_tree.specs.declared.items.NamedType.{NamedType}
use Rattle.ir_tree.specs.declared.nodes.TypeNode.{TypeNode}
use Rattle.ir_tree.specs.declared.nodes.TypeNode.TheVariants as node
use Rattle.ir_tree.specs.Table.{TypeWithin}
use Rattle.ir_tree.specs.Trees.{TypeV, IntV, PtrV, VoidV, ArrayV, StructV, NamedV, TypesV, NoneV, MoreV}
use Rattle.ir_tree.specs.Layouts.{sized, joined, no_fields, layout_with, layouts_with, type_named, named_layout, round_up}
use Rattle.ir_tree.specs.Filling.{node_layout}

-- a layout of the first is one of the second
pub Upto : Option Layout → Option Layout → Type 0
Upto a b = (l : Layout) → a ≡ Some l → b ≡ Some l

pub upto_is : (a b : Option Layout) → Upto a b → (l : Layout) → a ≡ Some l → b ≡ Some l
unfolding Upto
upto_is a b h = h

pub upto_by : (a b : Option Layout) → ((l : Layout) → a ≡ Some l → b ≡ Some l) → Upto a b
unfolding Upto
upto_by a b h = h

pub upto_same : (a : Option Layout) → Upto a a
unfolding Upto
upto_same a l e = e

pub upto_none : (b : Option Layout) → Upto None b
unfolding Upto
upto_none b l e = absurd cc

pub upto_then : (a b c : Option Layout) → Upto a b → Upto b c → Upto a c
unfolding Upto
upto_then a b c p q l e = q l (p l e)

pub upto_both : (a b : Option Layout) → Upto a b → Upto b a → b ≡ a
unfolding Upto
upto_both None None p q = refl
upto_both None (Some l) p q = sym (q l refl)
upto_both (Some l) b p q = p l refl

then_mono : (f : Layout → Option Layout) (a b : Option Layout) → Upto a b → Upto (option_and_then f a) (option_and_then f b)
unfolding Upto
then_mono f None b h l e = absurd cc
then_mono f (Some x) b h l e = let is : b ≡ Some x = h x refl in rw is e

pub joined_mono : (packed : Bool) (a b c d : Option Layout) → Upto a b → Upto c d → Upto (joined packed a c) (joined packed b d)
unfolding Upto
joined_mono packed None b c d h k l e = absurd cc
joined_mono packed (Some x) b None d h k l e = absurd cc
joined_mono packed (Some x) b (Some y) d h k l e =
    let is : b ≡ Some x = h x refl in
    let at : d ≡ Some y = k y refl in
    rw (is, at) e

fields_mono : (packed : Bool) (f g : ℕ → Option Layout) (a b : Option Layout) (ks : List ℕ) → AllByRecursion (λ k. Upto (f k) (g k)) ks → Upto a b
    → Upto (fold (joined packed) a (map f ks)) (fold (joined packed) b (map g ks))
fields_mono packed f g a b [] all h = h
fields_mono packed f g a b (k ∷ ks) all h = fields_mono packed f g (joined packed a (f k)) (joined packed b (g k)) ks all.1 (joined_mono packed a b (f k) (g k) h all.0)

below_upto : (f g : ℕ → Option Layout) (k : ℕ) (ks : List ℕ) → ((j : ℕ) → j < k → Upto (f j) (g j)) → AllByRecursion (λ j. j < k) ks → AllByRecursion (λ j. Upto (f j) (g j)) ks
below_upto f g k [] h all = tt
below_upto f g k (j ∷ js) h all = (h j all.0, below_upto f g k js h all.1)

pub node_mono : (names k : ℕ) (n : TypeNode) (f g p q : ℕ → Option Layout) → TypeWithin names k n → ((j : ℕ) → j < k → Upto (f j) (g j)) → ((x : ℕ) → x < names → Upto (p x) (q x))
    → Upto (node_layout f p n) (node_layout g q n)
node_mono names k (node.Int w) f g p q within at named = upto_same _
node_mono names k node.Ptr f g p q within at named = upto_same _
node_mono names k node.Void f g p q within at named = upto_same _
node_mono names k (node.Array n of) f g p q within at named = then_mono (λ l. sized (_ * l.size) l.align) (f of) (g of) (at of within)
node_mono names k (node.Struct packed ks) f g p q within at named =
    then_mono (λ so. sized (round_up so.size so.align) so.align) _ _ (fields_mono packed f g no_fields no_fields ks (below_upto f g k ks at (recursion_from_All (λ j. j < k) ks within)) (upto_same no_fields))
node_mono names k (node.Named x) f g p q within at named = named x within

mutual
  pub layout_mono : (a b : Name → Option Layout) → ((x : Name) → Upto (a x) (b x)) → (t : TypeV) → Upto (layout_with a t) (layout_with b t)
  layout_mono a b h (IntV w) = upto_same _
  layout_mono a b h PtrV = upto_same _
  layout_mono a b h VoidV = upto_same _
  layout_mono a b h (ArrayV n of) = then_mono (λ l. sized (n * l.size) l.align) (layout_with a of) (layout_with b of) (layout_mono a b h of)
  layout_mono a b h (StructV packed ts) = then_mono (λ so. sized (round_up so.size so.align) so.align) _ _ (layouts_mono a b h ts packed no_fields no_fields (upto_same no_fields))
  layout_mono a b h (NamedV x) = h x

  pub layouts_mono : (a b : Name → Option Layout) → ((x : Name) → Upto (a x) (b x)) → (ts : TypesV) (packed : Bool) (c d : Option Layout) → Upto c d → Upto (fold (joined packed) c (layouts_with a ts)) (fold (joined packed) d (layouts_with b ts))
  layouts_mono a b h NoneV packed c d so = so
  layouts_mono a b h (MoreV t ts) packed c d so = layouts_mono a b h ts packed (joined packed c (layout_with a t)) (joined packed d (layout_with b t)) (joined_mono packed c d (layout_with a t) (layout_with b t) so (layout_mono a b h t))

body_mono : (a b : Name → Option Layout) → ((x : Name) → Upto (a x) (b x)) → (t : Option TypeV) → Upto (option_and_then (layout_with a) t) (option_and_then (layout_with b) t)
body_mono a b h None = upto_none None
body_mono a b h (Some t) = layout_mono a b h t

-- one more name that may be opened gives no other layout
pub named_more : (n : ℕ) (types : List (NamedType Name TypeV)) (x : Name) → Upto (named_layout n types x) (named_layout (suc n) types x)
unfolding named_layout
named_more zero types x = upto_none _
named_more (suc n) types x = body_mono (named_layout n types) (named_layout (suc n) types) (named_more n types) (type_named types x)

named_along : (m n : ℕ) (types : List (NamedType Name TypeV)) (x : Name) → Upto (named_layout m types x) (named_layout (n + m) types x)
named_along m zero types x = let e : zero + m ≡ m = omega arith in rw e (upto_same _)
named_along m (suc n) types x = let e : suc n + m ≡ suc (n + m) = omega arith in rw e (upto_then _ _ _ (named_along m n types x) (named_more (n + m) types x))

pub named_later : (m n : ℕ) (types : List (NamedType Name TypeV)) (x : Name) → m ≤ n → Upto (named_layout m types x) (named_layout n types x)
named_later m n types x le = let e : (n - m) + m ≡ n = omega arith in subst (λ (k : ℕ). Upto (named_layout m types x) (named_layout k types x)) e (named_along m (n - m) types x)

pub layout_later : (m n : ℕ) (types : List (NamedType Name TypeV)) (t : TypeV) → m ≤ n → Upto (layout_with (named_layout m types) t) (layout_with (named_layout n types) t)
layout_later m n types t le = layout_mono (named_layout m types) (named_layout n types) (λ x. named_later m n types x le) t
