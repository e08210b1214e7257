-- The constants of a module fit, as trees and as registers hold them.
use Rattle.std.proofs.Common.{◌≡◌, ℕ, zero, suc, ◌+◌, ◌<◌, ◌≤◌, ◌^◌, ◌%◌, ℤ, pos, Bool, true, false, List, [], ◌∷◌, ◌++◌, length, Option, Some, None, arith, refl, if◌then◌else◌, FitsSigned}
use Rattle.std.specs.Prelude.{IfSome, nat_le, ◌&&◌, option_and_then, option_map, slice_index_or}
use Rattle.std.specs.List.{AllByRecursion}
use Rattle.std.specs.Int.{w64, int_wrapping_add, cast_unsigned}
use Rattle.std.specs.Ordering.{int_eq}
use Rattle.std.proofs.Math.Facts.{sfits_to_z}
use Rattle.std.proofs.Math.Pow.{pow_pos}
use Rattle.std.proofs.lemmas.Bool.Decides.{nat_tests}
use Rattle.std.proofs.lemmas.List.Elements.{recursion_from_All}
use Rattle.pv_base.specs.declared.name.Name.{Name}
use Rattle.int_num.specs.Integer.{IsInteger}
use Rattle.ir_tree.specs.declared.nodes.Element.{Element}
use Rattle.ir_tree.specs.declared.nodes.ConstantNode.{ConstantNode}
use Rattle.ir_tree.specs.declared.nodes.ConstantNode.TheVariants as constant
use Rattle.ir_tree.specs.Trees.{TypeV, IntV, PtrV, VoidV, ArrayV, StructV, NamedV}
use Rattle.ir_tree.specs.Trees.{ConstantV, IntegerC, NullC, ZeroC, TextC, ArrayC, StructC, NameC, AddressC, ElementsV, NoneC, MoreC}
use Rattle.ir_tree.specs.Naming.{meanings, name_at, type_at, constant_of_node, elements_by, constant_at}
use Rattle.ir_tree.specs.Modules.{Items, types_of}
use Rattle.ir_rules.proofs.SameLemmas.{and_both}
use Rattle.ir_code.specs.declared.op.Fixed.{Fixed}
use Rattle.ir_code.specs.declared.op.Fixed.TheVariants as fixed
use Rattle.ir_code.specs.Strides.{strides}
use Rattle.ir_code.specs.Fixed.{goes_by, first_item, item_named, zero_of, stays, moved, total_of, fixed_of, operands_of}
use Rattle.keeping_laws.specs.Keeping.{IsByte}
use Rattle.keeping_laws.specs.Constants.{FixedFits}
use Rattle.keeping_laws.specs.Modules.{NodeFits, NodesFit}
use Rattle.keeping_laws.proofs.Lists.{by_append}
use Rattle.keeping_laws.proofs.Pictures.{start_fits}
use Rattle.keeping_laws.proofs.Numbers.{of_width}

-- ---- options

pub and_then_fits : {A B : Type 0} (P : A → Type 0) (Q : B → Type 0) (x : Option A) (k : A → Option B) → IfSome x P → ((a : A) → P a → IfSome (k a) Q) → IfSome (option_and_then k x) Q
and_then_fits P Q (Some a) k h g = g a h
and_then_fits P Q None k h g = tt

pub map_fits : {A B : Type 0} (P : A → Type 0) (Q : B → Type 0) (x : Option A) (f : A → B) → IfSome x P → ((a : A) → P a → Q (f a)) → IfSome (option_map f x) Q
map_fits P Q (Some a) f h g = g a h
map_fits P Q None f h g = tt

pub some_if : {A : Type 0} (Q : A → Type 0) (b : Bool) (x y : Option A) → IfSome x Q → IfSome y Q → IfSome (if b then x else y) Q
some_if Q true x y h g = h
some_if Q false x y h g = g

pub any_some : {A : Type 0} (x : Option A) → IfSome x (λ a. Unit {0})
any_some (Some a) = tt
any_some None = tt

pub by_index : {X : Type 0} (P : X → Type 0) (xs : List X) (k : ℕ) (d : X) → P d → AllByRecursion P xs → P (slice_index_or xs k d)
by_index P [] k d p h = p
by_index P (x ∷ xs) zero d p h = h.0
by_index P (x ∷ xs) (suc k) d p h = by_index P xs k d p h.1

-- ---- trees

abbrev mutual
  -- an integer has the bits of its width, and a text has bytes
  pub ConstantFits : ConstantV → Type 0
  ConstantFits (IntegerC n) = IsInteger n
  ConstantFits NullC = Unit {0}
  ConstantFits ZeroC = Unit {0}
  ConstantFits (TextC text) = AllByRecursion IsByte text
  ConstantFits (ArrayC elements) = ElementsFit elements
  ConstantFits (StructC packed elements) = ElementsFit elements
  ConstantFits (NameC name) = Unit {0}
  ConstantFits (AddressC of base indices) = ConstantFits base

  pub ElementsFit : ElementsV → Type 0
  ElementsFit NoneC = Unit {0}
  ElementsFit (MoreC type value rest) = ConstantFits value × ElementsFit rest

elements_fit : (type : ℕ → TypeV) (at : ℕ → ConstantV) (es : List Element) → ((k : ℕ) → ConstantFits (at k)) → ElementsFit (elements_by type at es)
elements_fit type at [] h = tt
elements_fit type at (e ∷ es) h = (h e.value, elements_fit type at es h)

node_fits : (name : ℕ → Name) (type : ℕ → TypeV) (at : ℕ → ConstantV) (n : ConstantNode) → NodeFits n → ((k : ℕ) → ConstantFits (at k)) → ConstantFits (constant_of_node name type at n)
node_fits name type at (constant.Integer n) q h = q
node_fits name type at constant.Null q h = tt
node_fits name type at constant.Zero q h = tt
node_fits name type at (constant.Text bytes) q h = recursion_from_All IsByte bytes q
node_fits name type at (constant.Array es) q h = elements_fit type at es h
node_fits name type at (constant.Struct packed es) q h = elements_fit type at es h
node_fits name type at (constant.Name k) q h = tt
node_fits name type at (constant.Address k base es) q h = h base

meanings_fit : {N V : Type 0} (P : N → Type 0) (Q : V → Type 0) (step : (ℕ → V) → N → V) (none : V) → Q none → ((at : ℕ → V) (n : N) → P n → ((k : ℕ) → Q (at k)) → Q (step at n)) → (before : List V) (ns : List N) → AllByRecursion Q before → AllByRecursion P ns → AllByRecursion Q (meanings step none before ns)
unfolding meanings
meanings_fit P Q step none q s before [] b h = tt
meanings_fit {V = V} P Q step none q s before (n ∷ ns) b h =
    let first : V = step (λ k. slice_index_or before k none) n in
    let one : Q first = s (λ k. slice_index_or before k none) n h.0 (λ k. by_index Q before k none q b) in
    (one, meanings_fit P Q step none q s (before ++ first ∷ []) ns (by_append Q before (first ∷ []) b (one, tt)) h.1)

pub constant_at_fits : (m : Items) → NodesFit m → (k : ℕ) → ConstantFits (constant_at m.names k)
unfolding constant_at
constant_at_fits m h k =
    by_index ConstantFits (meanings (constant_of_node (name_at m.names) (type_at m.names)) NullC [] m.names.constants) k NullC tt
    (meanings_fit NodeFits ConstantFits (constant_of_node (name_at m.names) (type_at m.names)) NullC tt (node_fits (name_at m.names) (type_at m.names)) [] m.names.constants tt (recursion_from_All NodeFits m.names.constants h))

-- ---- as registers hold them

-- the number of globals, which is the first next name
abbrev pub count : Items → ℕ
count m = length m.globals

wrapping_fits : (x y : ℤ) → FitsSigned w64 (int_wrapping_add w64 x y)
wrapping_fits x y = sfits_to_z {w = w64} {n = (cast_unsigned w64 x + cast_unsigned w64 y) % 2 ^ 64} (record { fits = omega arith })

stays_fits : (next : ℕ) (value : Fixed) (total : ℤ) → FixedFits next value → FixedFits next (stays value total)
stays_fits next value total h = go (int_eq total (pos 0))
  where
    go : (b : Bool) → FixedFits next (if b then value else fixed.Nowhere)
    go true = h
    go false = tt

moved_fits : (next : ℕ) (value : Fixed) (total : ℤ) → FixedFits next value → IfSome (moved value total) (FixedFits next)
moved_fits next (fixed.Int n) total h = tt
moved_fits next fixed.Null total h = stays_fits next fixed.Null total tt
moved_fits next (fixed.Global i offset) total h = (h.0, wrapping_fits offset total)
moved_fits next (fixed.Function i) total h = stays_fits next (fixed.Function i) total tt
moved_fits next fixed.Nowhere total h = tt

first_fits : {X : Type 0} (next : ℕ) (is : X → Bool) (item : ℕ → Fixed) (i : ℕ) (xs : List X) (other : Option Fixed) → ((k : ℕ) → k < i + length xs → FixedFits next (item k)) → IfSome other (FixedFits next) → IfSome (first_item is item i xs other) (FixedFits next)
first_fits next is item i [] other h o = o
first_fits next is item i (x ∷ xs) other h o =
    some_if (FixedFits next) (is x) (Some (item i)) _ (h i (omega arith)) (first_fits next is item (i + 1) xs other (λ k lt. h k (omega (arith, lt))) o)

named_fits : (m : Items) (name : Name) → IfSome (item_named m name) (FixedFits (count m))
named_fits m name =
    first_fits (count m) (λ g. goes_by m.names name g.name) (λ i. fixed.Global i (pos 0)) 0 m.globals _ (λ k lt. (omega (arith, lt), start_fits))
    (first_fits (count m) (λ f. goes_by m.names name f.name) fixed.Function 0 m.functions None (λ k lt. tt) tt)

pub zero_fits : (next : ℕ) (type : TypeV) → IfSome (zero_of type) (FixedFits next)
zero_fits next (IntV width) = go (nat_le 1 width && nat_le width 64) refl
  where
    go : (b : Bool) → (nat_le 1 width && nat_le width 64) ≡ b → IfSome (if b then Some (fixed.Int (record { width = width; bits = 0 })) else None) (FixedFits next)
    go true e =
        let s = and_both (nat_le 1 width) (nat_le width 64) e in
        let some : 1 ≤ width = grind (arith, nat_tests, s.0) in
        let most : width ≤ 64 = grind (arith, nat_tests, s.1) in
        of_width width 0 (record { positive = omega (arith, some); most = most }) (pow_pos width)
    go false e = tt
zero_fits next PtrV = tt
zero_fits next VoidV = tt
zero_fits next (ArrayV n t) = tt
zero_fits next (StructV packed ts) = tt
zero_fits next (NamedV name) = tt

pub fixed_fits : (m : Items) (type : TypeV) (c : ConstantV) → ConstantFits c → IfSome (fixed_of m type c) (FixedFits (count m))
fixed_fits m type (IntegerC n) h = h
fixed_fits m type NullC h = tt
fixed_fits m type ZeroC h = zero_fits (count m) type
fixed_fits m type (TextC bytes) h = tt
fixed_fits m type (ArrayC elements) h = tt
fixed_fits m type (StructC packed elements) h = tt
fixed_fits m type (NameC name) h = named_fits m name
fixed_fits m type (AddressC of base indices) h =
    and_then_fits (FixedFits (count m)) (FixedFits (count m)) (fixed_of m PtrV base) _ (fixed_fits m PtrV base h)
    (λ b q. and_then_fits (λ t. Unit {0}) (FixedFits (count m)) (option_and_then (total_of (pos 0)) (option_and_then (strides (types_of m) of) (operands_of m indices))) _ (any_some _) (λ total r. moved_fits (count m) b total q))
