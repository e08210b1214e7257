-- Keys of types are equal exactly where the types are.
use Rattle.std.proofs.Common.{◌≡◌, ℕ, zero, suc, ◌<◌, ◌≤◌, ◌+◌, Bool, true, false, List, [], ◌∷◌, ◌++◌, map, length, Some, slice_get, get_or, refl, sym, ap, ◌∙◌, arith, inl, inr, eq-eqb, eqb-true}
use Rattle.std.specs.Prelude.{if◌then◌else◌}
use Rattle.std.specs.List.{AllByRecursion}
use Rattle.std.proofs.lemmas.Bool.{cases_Bool, cases_lt, ne_eqb}
use Rattle.std.proofs.Math.ListN.{get_or-append}
use Rattle.std.proofs.Math.Seq.{get_or-append_seam}
use Rattle.std.proofs.lemmas.List.{length_push}
use Rattle.std.proofs.lemmas.List.Elements.{recursion_from_All}
use Rattle.std.proofs.lemmas.Option.{slice_get-get_or, slice_get_within}
use Rattle.pv_base.specs.declared.name.Name.{Name}
use Rattle.pv_base.specs.declared.name.Name.TheVariants.{Numbered}
use Rattle.ir_tree.specs.declared.nodes.TypeNode.{TypeNode}
use Rattle.ir_tree.specs.declared.nodes.TypeNode.TheVariants as node
use Rattle.ir_tree.specs.Table.{Table, IsTable, TypeWithin, same_name}
use Rattle.ir_tree.specs.Trees.{TypeV, PtrV, NamedV}
use Rattle.ir_tree.specs.Naming.{name_at, type_at, types_by, type_of_node}
use Rattle.ir_tree.proofs.Places.{one_place}
use Rattle.ir_tree.proofs.Bodies.{same_self}
use Rattle.ir_rules.specs.Same.{same_type}
use Rattle.ir_rules.specs.Classes.{class_at, type_below, ClassesBelow, IsNextClass}
use Rattle.ir_rules.specs.TypeKeys.{type_key, Keyed}
use Rattle.ir_rules.specs.declared.type_keys.TypeKey.{TypeKey}
use Rattle.ir_rules.specs.declared.type_keys.TypeKey.TheVariants as key
use Rattle.ir_rules.proofs.SameLemmas.{type_is_same, type_self}
use Rattle.ir_rules.proofs.Classed.{class_past, below_is, below_past}
use Rattle.ir_rules.proofs.ClassLemmas.{node_below}

-- names of the table are equal only where their numbers are
pub one_name : (t : Table) → IsTable t → (i j : ℕ) → i < length t.names → j < length t.names → name_at t i ≡ name_at t j → i ≡ j
one_name t is i j li lj same =
    let at : slice_get t.names i ≡ Some (name_at t j) = slice_get-get_or t.names i (Numbered 0) li ∙ ap Some same in
    let to : slice_get t.names j ≡ Some (name_at t j) = slice_get-get_or t.names j (Numbered 0) lj in
    one_place same_name (name_at t j) (same_self (name_at t j)) t.names i j is.distinct at to

stays : {X : Type 0} (xs ys : List X) (k : ℕ) (x : X) → slice_get xs k ≡ Some x → slice_get (xs ++ ys) k ≡ Some x
stays [] ys k x e = absurd cc
stays (y ∷ xs) ys zero x e = e
stays (y ∷ xs) ys (suc k) x e = stays xs ys k x e

-- an item of a list stays where one more may come
pub stays_if : {X : Type 0} (xs : List X) (more : X) (k : ℕ) (x : X) (b : Bool) → slice_get xs k ≡ Some x → slice_get (if b then xs else xs ++ more ∷ []) k ≡ Some x
stays_if xs more k x true e = e
stays_if xs more k x false e = stays xs (more ∷ []) k x e

fields_to : (at : ℕ → TypeV) (class : ℕ → ℕ) → ((i j : ℕ) → at i ≡ at j → class i ≡ class j) → (a b : List ℕ) → types_by at a ≡ types_by at b → map class a ≡ map class b
fields_to at class one [] [] e = refl
fields_to at class one [] (y ∷ b) e = absurd cc
fields_to at class one (x ∷ a) [] e = absurd cc
fields_to at class one (x ∷ a) (y ∷ b) e =
    let first : at x ≡ at y = cc in
    let rest : types_by at a ≡ types_by at b = cc in
    let head : class x ≡ class y = one x y first in
    let tail : map class a ≡ map class b = fields_to at class one a b rest in
    cc

fields_from : (at : ℕ → TypeV) (class : ℕ → ℕ) → ((i j : ℕ) → class i ≡ class j → at i ≡ at j) → (a b : List ℕ) → map class a ≡ map class b → types_by at a ≡ types_by at b
fields_from at class one [] [] e = refl
fields_from at class one [] (y ∷ b) e = absurd cc
fields_from at class one (x ∷ a) [] e = absurd cc
fields_from at class one (x ∷ a) (y ∷ b) e =
    let first : class x ≡ class y = cc in
    let rest : map class a ≡ map class b = cc in
    let head : at x ≡ at y = one x y first in
    let tail : types_by at a ≡ types_by at b = fields_from at class one a b rest in
    cc

-- types that are equal have one key
key_to : (name : ℕ → Name) (at : ℕ → TypeV) (class : ℕ → ℕ) (names k l : ℕ)
    → ((i j : ℕ) → i < names → j < names → name i ≡ name j → i ≡ j) → ((i j : ℕ) → at i ≡ at j → class i ≡ class j)
    → (m n : TypeNode) → TypeWithin names k m → TypeWithin names l n → type_of_node name at m ≡ type_of_node name at n → type_key class m ≡ type_key class n
key_to name at class names k l named one (node.Int a) (node.Int b) within also e = let s : a ≡ b = cc in cc
key_to name at class names k l named one node.Ptr node.Ptr within also e = refl
key_to name at class names k l named one node.Void node.Void within also e = refl
key_to name at class names k l named one (node.Array n a) (node.Array m b) within also e =
    let s : n ≡ m = cc in
    let inner : at a ≡ at b = cc in
    let u : class a ≡ class b = one a b inner in
    cc
key_to name at class names k l named one (node.Struct p a) (node.Struct q b) within also e =
    let s : p ≡ q = cc in
    let inner : types_by at a ≡ types_by at b = cc in
    let u : map class a ≡ map class b = fields_to at class one a b inner in
    cc
key_to name at class names k l named one (node.Named a) (node.Named b) within also e =
    let inner : name a ≡ name b = cc in
    let s : a ≡ b = named a b within also inner in
    cc
key_to name at class names k l named one m n within also e = absurd cc

-- types of one key are equal
key_from : (name : ℕ → Name) (at : ℕ → TypeV) (class : ℕ → ℕ) → ((i j : ℕ) → class i ≡ class j → at i ≡ at j)
    → (m n : TypeNode) → type_key class m ≡ type_key class n → type_of_node name at m ≡ type_of_node name at n
key_from name at class one (node.Int a) (node.Int b) e = let s : a ≡ b = cc in cc
key_from name at class one node.Ptr node.Ptr e = refl
key_from name at class one node.Void node.Void e = refl
key_from name at class one (node.Array n a) (node.Array m b) e =
    let s : n ≡ m = cc in
    let inner : class a ≡ class b = cc in
    let u : at a ≡ at b = one a b inner in
    cc
key_from name at class one (node.Struct p a) (node.Struct q b) e =
    let s : p ≡ q = cc in
    let inner : map class a ≡ map class b = cc in
    let u : types_by at a ≡ types_by at b = fields_from at class one a b inner in
    cc
key_from name at class one (node.Named a) (node.Named b) e = let s : a ≡ b = cc in ap (λ x. NamedV (name x)) s
key_from name at class one m n e = absurd cc

fields_part : (class to : ℕ → ℕ) (k : ℕ) (ks : List ℕ) → AllByRecursion (λ j. j < k) ks → ((j : ℕ) → j < k → class j ≡ to j) → map class ks ≡ map to ks
fields_part class to k [] all same = refl
fields_part class to k (x ∷ ks) all same =
    let head : class x ≡ to x = same x all.0 in
    let tail : map class ks ≡ map to ks = fields_part class to k ks all.1 same in
    cc

-- a key is from the classes before its type
key_part : (names k : ℕ) (n : TypeNode) (class to : ℕ → ℕ) → TypeWithin names k n → ((j : ℕ) → j < k → class j ≡ to j) → type_key class n ≡ type_key to n
key_part names k (node.Int w) class to within same = refl
key_part names k node.Ptr class to within same = refl
key_part names k node.Void class to within same = refl
key_part names k (node.Array n of) class to within same = ap (key.Array n) (same of within)
key_part names k (node.Struct packed ks) class to within same = ap (key.Struct packed) (fields_part class to k ks (recursion_from_All (λ j. j < k) ks within) same)
key_part names k (node.Named x) class to within same = refl

-- a node for what a number stands for, with its key
record Stands (t : Table) (classes : List ℕ) (keys : List TypeKey) (i : ℕ) : Type 0 where
  node : TypeNode
  bound : ℕ
  within : TypeWithin (length t.names) bound node
  is : type_below t (length classes) i ≡ type_of_node (name_at t) (type_below t (length classes)) node
  known : slice_get keys (class_at classes i) ≡ Some (type_key (class_at classes) node)

-- the number of the key of the node behind the classes
module _ (t : Table) (classes : List ℕ) (keys new : List TypeKey) (class : ℕ) (n : TypeNode)
    (is : IsTable t) (b : ClassesBelow t classes) (keyed : Keyed t classes keys) (e : slice_get t.types (length classes) ≡ Some n)
    (kept : (j : ℕ) (x : TypeKey) → slice_get keys j ≡ Some x → slice_get new j ≡ Some x)
    (known : slice_get new class ≡ Some (type_key (class_at classes) n)) where
  own : type_at t (length classes) ≡ type_of_node (name_at t) (type_below t (length classes)) n
  own = node_below t (length classes) (length classes) n is e (omega arith)

  inside : (i : ℕ) → i < length classes → slice_get t.types i ≡ Some (get_or t.types i node.Ptr)
  inside i lt = slice_get-get_or t.types i node.Ptr (omega (arith, slice_get_within t.types (length classes) n e))

  stands : (i : ℕ) → Stands t classes keys i
  stands i =
      elim (cases_lt i (length classes)) [
        | inl lt ↦ record {
          node = get_or t.types i node.Ptr;
          bound = i;
          within = is.types i (get_or t.types i node.Ptr) (inside i lt);
          is = below_is (type_at t) PtrV (length classes) i lt ∙ node_below t (length classes) i (get_or t.types i node.Ptr) is (inside i lt) (omega arith);
          known = keyed.each i (get_or t.types i node.Ptr) lt (inside i lt);
        }
        | inr ge ↦ record {
          node = node.Ptr;
          bound = 0;
          within = tt;
          is = below_past (type_at t) PtrV (length classes) i ge;
          known = rw (class_past classes i ge) keyed.first;
        }
      ]

  one_class : (i j : ℕ) → type_below t (length classes) i ≡ type_below t (length classes) j → class_at classes i ≡ class_at classes j
  one_class i j same = eqb-true _ _ (b.same i j ∙ ap (same_type (type_below t (length classes) i)) (sym same) ∙ type_self (type_below t (length classes) i))

  one_type : (i j : ℕ) → class_at classes i ≡ class_at classes j → type_below t (length classes) i ≡ type_below t (length classes) j
  one_type i j same = type_is_same _ _ (sym (b.same i j) ∙ eq-eqb _ _ same)

  pub key_class : ((j : ℕ) → slice_get new j ≡ Some (type_key (class_at classes) n) → j ≡ class) → IsNextClass t classes (type_at t (length classes)) class
  key_class only = record {
    same = λ i.
        let s = stands i in
        elim (cases_Bool (same_type (type_below t (length classes) i) (type_at t (length classes)))) [
          | inl f ↦
              let trees : type_of_node (name_at t) (type_below t (length classes)) s.node ≡ type_of_node (name_at t) (type_below t (length classes)) n = sym s.is ∙ type_is_same _ _ f ∙ own in
              let same : type_key (class_at classes) s.node ≡ type_key (class_at classes) n =
              key_to (name_at t) (type_below t (length classes)) (class_at classes) (length t.names) s.bound (length classes) (one_name t is) one_class s.node n s.within (is.types (length classes) n e) trees in
              let number : class_at classes i ≡ class = only (class_at classes i) (kept _ _ s.known ∙ ap Some same) in
              eq-eqb _ _ number ∙ sym f
          | inr f ↦
              ne_eqb _ _ (λ (number : class_at classes i ≡ class).
              let old : slice_get new (class_at classes i) ≡ Some (type_key (class_at classes) s.node) = kept _ _ s.known in
              let both : Some (type_key (class_at classes) s.node) ≡ Some (type_key (class_at classes) n) = sym old ∙ ap (slice_get new) number ∙ known in
              let same : type_key (class_at classes) s.node ≡ type_key (class_at classes) n = cc in
              let trees : type_below t (length classes) i ≡ type_at t (length classes) =
              s.is ∙ key_from (name_at t) (type_below t (length classes)) (class_at classes) one_type s.node n same ∙ sym own in
              let yes : same_type (type_below t (length classes) i) (type_at t (length classes)) ≡ true = ap (same_type (type_below t (length classes) i)) (sym trees) ∙ type_self (type_below t (length classes) i) in
              absurd cc)
              ∙ sym f
        ];
  }

  before : (i : ℕ) → i < length classes → class_at (classes ++ class ∷ []) i ≡ class_at classes i
  before i lt = get_or-append classes (class ∷ []) 0 i lt

  key_before : (j : ℕ) (m : TypeNode) → j ≤ length classes → slice_get t.types j ≡ Some m → type_key (class_at (classes ++ class ∷ [])) m ≡ type_key (class_at classes) m
  key_before j m le at = key_part (length t.names) j m (class_at (classes ++ class ∷ [])) (class_at classes) (is.types j m at) (λ i lt. before i (omega arith))

  pub key_more : length new ≤ length keys + 1 → Keyed t (classes ++ class ∷ []) new
  key_more len = record {
    each = λ j m lt at.
        elim (cases_lt j (length classes)) [
          | inl less ↦ rw (before j less, key_before j m (omega arith) at) (kept _ _ (keyed.each j m less at))
          | inr ge ↦
              let all : length (classes ++ class ∷ []) ≡ length classes + 1 = length_push classes class in
              let place : j ≡ length classes = omega (arith, all, lt) in
              let here : slice_get t.types (length classes) ≡ Some m = ap (slice_get t.types) (sym place) ∙ at in
              let same : m ≡ n = cc in
              let last : class_at (classes ++ class ∷ []) j ≡ class = rw place (get_or-append_seam classes class [] 0) in
              rw (last, key_before j m (omega arith) at, same) known
        ];
    first = kept _ _ keyed.first;
    room = rw (length_push classes class) (omega (arith, len, keyed.room));
  }

pub key_first : (t : Table) (keys : List TypeKey) (k : ℕ) → slice_get keys k ≡ Some key.Ptr → k < length keys → length keys ≤ 1 → Keyed t [] keys
key_first t keys k known lt len = record {
  each = λ j m less at. absurd (omega (arith, less));
  first = let zero_is : k ≡ 0 = omega arith in ap (slice_get keys) (sym zero_is) ∙ known;
  room = len;
}
