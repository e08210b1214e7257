-- A table stays one.
use Rattle.std.proofs.Common.{◌≡◌, ℕ, zero, suc, ◌<◌, ◌≤◌, ◌^◌, Bool, true, false, List, [], ◌∷◌, ◌++◌, length, slice_get, Some, refl, sym, ◌∙◌, arith, All, length-append}
use Rattle.std.specs.Prelude.{if◌then◌else◌}
use Rattle.std.specs.List.{AllByRecursion, IsDistinct}
use Rattle.pv_base.specs.declared.name.Name.TheVariants.{Named, Numbered}
use Rattle.pv_base.specs.contracts.name.NamePartialEq.TheImpl.{eq-value}
use Rattle.pv_base.specs.declared.name.Name.{Name}
use Rattle.ir_tree.specs.declared.nodes.TypeNode.{TypeNode}
use Rattle.ir_tree.specs.declared.nodes.TypeNode.TheVariants as node
use Rattle.ir_tree.specs.declared.nodes.Element.{Element}
use Rattle.ir_tree.specs.declared.nodes.ConstantNode.{ConstantNode}
use Rattle.ir_tree.specs.declared.nodes.ConstantNode.TheVariants as constant
use Rattle.ir_tree.specs.Table.{Table, IsTable, TypeWithin, ElementBefore, ConstantWithin, same_name}
use Rattle.ir_tree.specs.Naming.{Grows, ElementsWithin}

within_more : (a b k : ℕ) (n : TypeNode) → a ≤ b → TypeWithin a k n → TypeWithin b k n
within_more a b k (node.Int w) le h = tt
within_more a b k node.Ptr le h = tt
within_more a b k node.Void le h = tt
within_more a b k (node.Array n of) le h = h
within_more a b k (node.Struct packed fields) le h = h
within_more a b k (node.Named name) le h = omega arith

elements_more : (a b k : ℕ) (es : List Element) → a ≤ b → All (ElementBefore a k) es → All (ElementBefore b k) es
elements_more a b k es le all = λ i d lt. record { of = let h = (all i d lt).of in omega arith; value = (all i d lt).value }

constant_more : (a b c d k : ℕ) (n : ConstantNode) → a ≤ b → c ≤ d → ConstantWithin a c k n → ConstantWithin b d k n
constant_more a b c d k (constant.Integer n) le also h = tt
constant_more a b c d k constant.Null le also h = tt
constant_more a b c d k constant.Zero le also h = tt
constant_more a b c d k (constant.Text bytes) le also h = tt
constant_more a b c d k (constant.Array es) le also h = elements_more c d k es also h
constant_more a b c d k (constant.Struct packed es) le also h = elements_more c d k es also h
constant_more a b c d k (constant.Name name) le also h = omega arith
constant_more a b c d k (constant.Address of base es) le also h = (omega arith, h.1, elements_more c d k es also h.2)

-- elements that have numbers of the table may stand in its next constant
pub elements_before : (t : Table) (es : List Element) → ElementsWithin t es → All (ElementBefore (length t.types) (length t.constants)) es
elements_before t es all = λ i d lt. record { of = (all i d lt).of; value = (all i d lt).value }

pub table_named : (t : Table) (names : List Name) → IsTable t → IsDistinct same_name names → length t.names ≤ length names → IsTable (record { names = names; types = t.types; constants = t.constants })
table_named t names is distinct more = record {
  distinct = distinct;
  types = λ k n e. within_more (length t.names) (length names) k n more (is.types k n e);
  count = is.count;
  constants = λ k n e. constant_more (length t.names) (length names) (length t.types) (length t.types) k n more (omega arith) (is.constants k n e);
  constant_count = is.constant_count;
}

-- an item of a list with one more is one of the list, or the last
pub item_of_push : {X : Type 0} (xs : List X) (x y : X) (k : ℕ) (P : ℕ → X → Type 0) → ((j : ℕ) (z : X) → slice_get xs j ≡ Some z → P j z) → P (length xs) x → slice_get (xs ++ x ∷ []) k ≡ Some y → P k y
item_of_push [] x y zero P all last e = let same : x ≡ y = cc in rw (← same) last
item_of_push [] x y (suc k) P all last e = absurd cc
item_of_push (z ∷ xs) x y zero P all last e = all zero y e
item_of_push (z ∷ xs) x y (suc k) P all last e = item_of_push xs x y k (λ j. P (suc j)) (λ j w h. all (suc j) w h) last e

pub table_typed : (t : Table) (n : TypeNode) → IsTable t → TypeWithin (length t.names) (length t.types) n → length t.types < 2 ^ 32 → IsTable (record { names = t.names; types = t.types ++ n ∷ []; constants = t.constants })
table_typed t n is within lt = record {
  distinct = is.distinct;
  types = λ k m e. item_of_push t.types n m k (TypeWithin (length t.names)) is.types within e;
  count = omega (arith, length-append t.types (n ∷ []));
  constants = λ k m e. constant_more (length t.names) (length t.names) (length t.types) (length (t.types ++ n ∷ [])) k m (omega arith) (omega (arith, length-append t.types (n ∷ []))) (is.constants k m e);
  constant_count = is.constant_count;
}

pub table_valued : (t : Table) (n : ConstantNode) → IsTable t → ConstantWithin (length t.names) (length t.types) (length t.constants) n → length t.constants < 2 ^ 32
    → IsTable (record { names = t.names; types = t.types; constants = t.constants ++ n ∷ [] })
table_valued t n is within lt = record {
  distinct = is.distinct;
  types = is.types;
  count = is.count;
  constants = λ k m e. item_of_push t.constants n m k (ConstantWithin (length t.names) (length t.types)) is.constants within e;
  constant_count = omega (arith, length-append t.constants (n ∷ []));
}

stays : {X : Type 0} (xs ys : List X) (k : ℕ) (x : X) → slice_get xs k ≡ Some x → slice_get (xs ++ ys) k ≡ Some x
stays [] ys k x e = absurd cc
stays (y ∷ xs) ys zero x e = e
stays (y ∷ xs) ys (suc k) x e = stays xs ys k x e

-- the last item of a list with one more
pub last_of_push : {X : Type 0} (xs : List X) (x : X) → slice_get (xs ++ x ∷ []) (length xs) ≡ Some x
last_of_push [] x = refl
last_of_push (y ∷ xs) x = last_of_push xs x

pub types_grow : (t : Table) (n : TypeNode) → Grows t (record { names = t.names; types = t.types ++ n ∷ []; constants = t.constants })
types_grow t n = record {
  names = λ k x h. h;
  types = λ k x h. stays t.types (n ∷ []) k x h;
  constants = λ k x h. h;
}

longer_if : (names : List Name) (name : Name) (b : Bool) → length names ≤ length (if b then names else names ++ name ∷ [])
longer_if names name true = omega arith
longer_if names name false = omega (arith, length-append names (name ∷ []))

stays_if : (names : List Name) (name : Name) (k : ℕ) (x : Name) (b : Bool) → slice_get names k ≡ Some x → slice_get (if b then names else names ++ name ∷ []) k ≡ Some x
stays_if names name k x true e = e
stays_if names name k x false e = stays names (name ∷ []) k x e

pub longer : (names more : List Name) (name : Name) (b : Bool) → more ≡ (if b then names else names ++ name ∷ []) → length names ≤ length more
longer names more name b e = rw e (longer_if names name b)

pub names_grow : (names more : List Name) (types : List TypeNode) (constants : List ConstantNode) (name : Name) (b : Bool) → more ≡ (if b then names else names ++ name ∷ [])
    → Grows (record { names = names; types = types; constants = constants }) (record { names = more; types = types; constants = constants })
names_grow names more types constants name b e = record {
  names = λ k x h. rw e (stays_if names name k x b h);
  types = λ k x h. h;
  constants = λ k x h. h;
}

-- the derived test of equal names
pub spelled : (a b : Name) → eq-value.it a b ≡ same_name a b
spelled (Named a) (Named b) = refl
spelled (Numbered a) (Numbered b) = refl
spelled (Named a) (Numbered b) = refl
spelled (Numbered a) (Named b) = refl

all_spelled : (x : Name) (names : List Name) → AllByRecursion (λ z. eq-value.it x z ≡ false) names → AllByRecursion (λ z. same_name x z ≡ false) names
all_spelled x [] all = tt
all_spelled x (y ∷ ys) all = (sym (spelled x y) ∙ all.0, all_spelled x ys all.1)

pub distinct_spelled : (names : List Name) → IsDistinct eq-value.it names → IsDistinct same_name names
unfolding IsDistinct
distinct_spelled [] distinct = tt
distinct_spelled (x ∷ xs) distinct = (all_spelled x xs distinct.0, distinct_spelled xs distinct.1)
