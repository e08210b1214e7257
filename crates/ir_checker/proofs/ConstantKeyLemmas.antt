-- Keys of constants are equal exactly where the constants are.
use Rattle.std.proofs.Common.{◌≡◌, ℕ, ◌<◌, ◌≤◌, ◌+◌, true, List, [], ◌∷◌, ◌++◌, map, length, Some, slice_get, get_or, refl, sym, ap, ◌∙◌, arith, inl, inr, eq-eqb, eqb-true, All}
use Rattle.std.specs.List.{AllByRecursion}
use Rattle.std.proofs.lemmas.Bool.{cases_Bool, cases_lt, ne_eqb}
use Rattle.std.proofs.Math.ListN.{get_or-append}
use Rattle.std.proofs.Math.Seq.{get_or-append_seam}
use Rattle.std.proofs.lemmas.List.{length_push}
use Rattle.std.proofs.lemmas.List.Elements.{recursion_from_All}
use Rattle.std.proofs.lemmas.Option.{slice_get-get_or, slice_get_within}
use Rattle.pv_base.specs.declared.name.Name.{Name}
use Rattle.int_num.specs.Integer.{Integer}
use Rattle.ir_tree.specs.declared.nodes.ConstantNode.{ConstantNode}
use Rattle.ir_tree.specs.declared.nodes.ConstantNode.TheVariants as node
use Rattle.ir_tree.specs.declared.nodes.Element.{Element}
use Rattle.ir_tree.specs.Table.{Table, IsTable, ConstantWithin, ElementBefore}
use Rattle.ir_tree.specs.Trees.{TypeV, ConstantV, IntegerC, TextC, ArrayC, StructC, NameC, AddressC}
use Rattle.ir_tree.specs.Naming.{name_at, type_at, constant_at, elements_by, constant_of_node}
use Rattle.ir_rules.specs.Same.{same_type, same_constant}
use Rattle.ir_rules.specs.Classes.{class_at, AreClasses}
use Rattle.ir_rules.specs.Heads.{constant_below}
use Rattle.ir_rules.proofs.SameLemmas.{type_is_same, type_self}
use Rattle.ir_rules.proofs.Classed.{class_past}
use Rattle.ir_rules.proofs.TypeKeyLemmas.{one_name}
use Rattle.ir_rules.proofs.ConstantLemmas.{below_is, below_past}
use Rattle.ir_checker.specs.ConstantClasses.{KindsBelow, IsNextKind}
use Rattle.ir_checker.specs.ConstantKeys.{constant_key, elements_key, Keyed}
use Rattle.ir_checker.specs.declared.constant_keys.ConstantKey.{ConstantKey}
use Rattle.ir_checker.specs.declared.constant_keys.ConstantKey.TheVariants as key
use Rattle.ir_checker.specs.declared.constant_keys.ElementsKey.{ElementsKey}
use Rattle.ir_checker.proofs.ConstantSame.{constant_is_same, constant_self}
use Rattle.ir_checker.proofs.KindLemmas.{node_below}

abbrev number : ℕ → ℕ → Integer
number w n = record { width = w; bits = n }

abbrev both : List ℕ → List ℕ → ElementsKey
both types values = record { types = types; values = values }

both_same : (a b c d : List ℕ) → a ≡ b → c ≡ d → both a c ≡ both b d
both_same a b c d e f = ap (λ k. both k c) e ∙ ap (both b) f

types_to : (of : ℕ → TypeV) (at : ℕ → ConstantV) (class : ℕ → ℕ) → ((i j : ℕ) → of i ≡ of j → class i ≡ class j) → (a b : List Element) → elements_by of at a ≡ elements_by of at b → map (λ e. class e.of) a ≡ map (λ e. class e.of) b
types_to of at class one [] [] e = refl
types_to of at class one [] (y ∷ b) e = absurd cc
types_to of at class one (x ∷ a) [] e = absurd cc
types_to of at class one (x ∷ a) (y ∷ b) e =
    let first : of x.of ≡ of y.of = cc in
    let rest : elements_by of at a ≡ elements_by of at b = cc in
    let head : class x.of ≡ class y.of = one x.of y.of first in
    let tail : map (λ e. class e.of) a ≡ map (λ e. class e.of) b = types_to of at class one a b rest in
    cc

values_to : (of : ℕ → TypeV) (at : ℕ → ConstantV) (kind : ℕ → ℕ) → ((i j : ℕ) → at i ≡ at j → kind i ≡ kind j) → (a b : List Element) → elements_by of at a ≡ elements_by of at b → map (λ e. kind e.value) a ≡ map (λ e. kind e.value) b
values_to of at kind one [] [] e = refl
values_to of at kind one [] (y ∷ b) e = absurd cc
values_to of at kind one (x ∷ a) [] e = absurd cc
values_to of at kind one (x ∷ a) (y ∷ b) e =
    let first : at x.value ≡ at y.value = cc in
    let rest : elements_by of at a ≡ elements_by of at b = cc in
    let head : kind x.value ≡ kind y.value = one x.value y.value first in
    let tail : map (λ e. kind e.value) a ≡ map (λ e. kind e.value) b = values_to of at kind one a b rest in
    cc

items_from : (of : ℕ → TypeV) (at : ℕ → ConstantV) (class kind : ℕ → ℕ) → ((i j : ℕ) → class i ≡ class j → of i ≡ of j) → ((i j : ℕ) → kind i ≡ kind j → at i ≡ at j)
    → (a b : List Element) → map (λ e. class e.of) a ≡ map (λ e. class e.of) b → map (λ e. kind e.value) a ≡ map (λ e. kind e.value) b → elements_by of at a ≡ elements_by of at b
items_from of at class kind one other [] [] e f = refl
items_from of at class kind one other [] (y ∷ b) e f = absurd cc
items_from of at class kind one other (x ∷ a) [] e f = absurd cc
items_from of at class kind one other (x ∷ a) (y ∷ b) e f =
    let type_head : class x.of ≡ class y.of = cc in
    let types : map (λ e. class e.of) a ≡ map (λ e. class e.of) b = cc in
    let value_head : kind x.value ≡ kind y.value = cc in
    let values : map (λ e. kind e.value) a ≡ map (λ e. kind e.value) b = cc in
    let type : of x.of ≡ of y.of = one x.of y.of type_head in
    let value : at x.value ≡ at y.value = other x.value y.value value_head in
    let rest : elements_by of at a ≡ elements_by of at b = items_from of at class kind one other a b types values in
    cc

-- constants that are equal have one key
module _ (name : ℕ → Name) (of : ℕ → TypeV) (at : ℕ → ConstantV) (class kind : ℕ → ℕ) (names : ℕ)
    (named : (i j : ℕ) → i < names → j < names → name i ≡ name j → i ≡ j)
    (one : (i j : ℕ) → of i ≡ of j → class i ≡ class j) (other : (i j : ℕ) → at i ≡ at j → kind i ≡ kind j) where
  elements_to : (a b : List Element) → elements_by of at a ≡ elements_by of at b → elements_key class kind a ≡ elements_key class kind b
  elements_to a b e = both_same _ _ _ _ (types_to of at class one a b e) (values_to of at kind other a b e)

  key_to : (types k l : ℕ) (m n : ConstantNode) → ConstantWithin names types k m → ConstantWithin names types l n
      → constant_of_node name of at m ≡ constant_of_node name of at n → constant_key class kind m ≡ constant_key class kind n
  key_to types k l (node.Integer a) (node.Integer b) within also e = let s : a ≡ b = cc in ap (λ n. key.Integer n.width n.bits) s
  key_to types k l node.Null node.Null within also e = refl
  key_to types k l node.Zero node.Zero within also e = refl
  key_to types k l (node.Text a) (node.Text b) within also e = let s : a ≡ b = cc in ap key.Text s
  key_to types k l (node.Array a) (node.Array b) within also e =
      let inner : elements_by of at a ≡ elements_by of at b = cc in
      ap key.Array (elements_to a b inner)
  key_to types k l (node.Struct p a) (node.Struct q b) within also e =
      let s : p ≡ q = cc in
      let inner : elements_by of at a ≡ elements_by of at b = cc in
      let u : elements_key class kind a ≡ elements_key class kind b = elements_to a b inner in
      ap (λ x. key.Struct x (elements_key class kind a)) s ∙ ap (key.Struct q) u
  key_to types k l (node.Name a) (node.Name b) within also e =
      let inner : name a ≡ name b = cc in
      ap key.Name (named a b within also inner)
  key_to types k l (node.Address s a i) (node.Address t b j) within also e =
      let type : of s ≡ of t = cc in
      let base : at a ≡ at b = cc in
      let inner : elements_by of at i ≡ elements_by of at j = cc in
      ap (λ x. key.Address x (kind a) (elements_key class kind i)) (one s t type)
      ∙ ap (λ x. key.Address (class t) x (elements_key class kind i)) (other a b base)
      ∙ ap (key.Address (class t) (kind b)) (elements_to i j inner)
  key_to types k l m n within also e = absurd cc

-- constants of one key are equal
module _ (name : ℕ → Name) (of : ℕ → TypeV) (at : ℕ → ConstantV) (class kind : ℕ → ℕ)
    (one : (i j : ℕ) → class i ≡ class j → of i ≡ of j) (other : (i j : ℕ) → kind i ≡ kind j → at i ≡ at j) where
  elements_from : (a b : List Element) → elements_key class kind a ≡ elements_key class kind b → elements_by of at a ≡ elements_by of at b
  elements_from a b e = items_from of at class kind one other a b (ap (λ k. k.types) e) (ap (λ k. k.values) e)

  key_from : (m n : ConstantNode) → constant_key class kind m ≡ constant_key class kind n → constant_of_node name of at m ≡ constant_of_node name of at n
  key_from (node.Integer a) (node.Integer b) e =
      let w : a.width ≡ b.width = cc in
      let n : a.bits ≡ b.bits = cc in
      ap IntegerC (ap (λ k. number k a.bits) w ∙ ap (number b.width) n)
  key_from node.Null node.Null e = refl
  key_from node.Zero node.Zero e = refl
  key_from (node.Text a) (node.Text b) e = let s : a ≡ b = cc in ap TextC s
  key_from (node.Array a) (node.Array b) e =
      let inner : elements_key class kind a ≡ elements_key class kind b = cc in
      ap ArrayC (elements_from a b inner)
  key_from (node.Struct p a) (node.Struct q b) e =
      let s : p ≡ q = cc in
      let inner : elements_key class kind a ≡ elements_key class kind b = cc in
      ap (λ x. StructC x (elements_by of at a)) s ∙ ap (StructC q) (elements_from a b inner)
  key_from (node.Name a) (node.Name b) e = let s : a ≡ b = cc in ap (λ x. NameC (name x)) s
  key_from (node.Address s a i) (node.Address t b j) e =
      let type : class s ≡ class t = cc in
      let base : kind a ≡ kind b = cc in
      let inner : elements_key class kind i ≡ elements_key class kind j = cc in
      ap (λ x. AddressC x (at a) (elements_by of at i)) (one s t type)
      ∙ ap (λ x. AddressC (of t) x (elements_by of at i)) (other a b base)
      ∙ ap (AddressC (of t) (at b)) (elements_from i j inner)
  key_from m n e = absurd cc

values_part : (kind to : ℕ → ℕ) (types k : ℕ) (es : List Element) → AllByRecursion (ElementBefore types k) es → ((j : ℕ) → j < k → kind j ≡ to j) → map (λ e. kind e.value) es ≡ map (λ e. to e.value) es
values_part kind to types k [] all same = refl
values_part kind to types k (x ∷ es) all same =
    let head : kind x.value ≡ to x.value = same x.value all.0.value in
    let tail : map (λ e. kind e.value) es ≡ map (λ e. to e.value) es = values_part kind to types k es all.1 same in
    cc

elements_part : (class kind to : ℕ → ℕ) (types k : ℕ) (es : List Element) → All (ElementBefore types k) es → ((j : ℕ) → j < k → kind j ≡ to j) → elements_key class kind es ≡ elements_key class to es
elements_part class kind to types k es within same = ap (both (map (λ e. class e.of) es)) (values_part kind to types k es (recursion_from_All (ElementBefore types k) es within) same)

-- a key is from the classes before its constant
key_part : (names types k : ℕ) (n : ConstantNode) (class kind to : ℕ → ℕ) → ConstantWithin names types k n → ((j : ℕ) → j < k → kind j ≡ to j) → constant_key class kind n ≡ constant_key class to n
key_part names types k (node.Integer n) class kind to within same = refl
key_part names types k node.Null class kind to within same = refl
key_part names types k node.Zero class kind to within same = refl
key_part names types k (node.Text bytes) class kind to within same = refl
key_part names types k (node.Array es) class kind to within same = ap key.Array (elements_part class kind to types k es within same)
key_part names types k (node.Struct packed es) class kind to within same = ap (key.Struct packed) (elements_part class kind to types k es within same)
key_part names types k (node.Name x) class kind to within same = refl
key_part names types k (node.Address of base es) class kind to within same =
    ap (λ x. key.Address (class of) x (elements_key class kind es)) (same base within.1) ∙ ap (key.Address (class of) (to base)) (elements_part class kind to types k es within.2 same)

-- a node for what a number stands for, with its key
record Stands (t : Table) (classes kinds : List ℕ) (keys : List ConstantKey) (i : ℕ) : Type 0 where
  node : ConstantNode
  bound : ℕ
  within : ConstantWithin (length t.names) (length t.types) bound node
  is : constant_below t (length kinds) i ≡ constant_of_node (name_at t) (type_at t) (constant_below t (length kinds)) node
  known : slice_get keys (class_at kinds i) ≡ Some (constant_key (class_at classes) (class_at kinds) node)

-- the number of the key of the node behind those that have classes
module _ (t : Table) (classes kinds : List ℕ) (keys new : List ConstantKey) (kind : ℕ) (n : ConstantNode)
    (is : IsTable t) (c : AreClasses t classes) (b : KindsBelow t kinds) (keyed : Keyed t classes kinds keys) (e : slice_get t.constants (length kinds) ≡ Some n)
    (kept : (j : ℕ) (x : ConstantKey) → slice_get keys j ≡ Some x → slice_get new j ≡ Some x)
    (known : slice_get new kind ≡ Some (constant_key (class_at classes) (class_at kinds) n)) where
  own : constant_at t (length kinds) ≡ constant_of_node (name_at t) (type_at t) (constant_below t (length kinds)) n
  own = node_below t (length kinds) (length kinds) n is e (omega arith)

  inside : (i : ℕ) → i < length kinds → slice_get t.constants i ≡ Some (get_or t.constants i node.Null)
  inside i lt = slice_get-get_or t.constants i node.Null (omega (arith, slice_get_within t.constants (length kinds) n e))

  stands : (i : ℕ) → Stands t classes kinds keys i
  stands i =
      elim (cases_lt i (length kinds)) [
        | inl lt ↦ record {
          node = get_or t.constants i node.Null;
          bound = i;
          within = is.constants i (get_or t.constants i node.Null) (inside i lt);
          is = below_is t (length kinds) i lt ∙ node_below t (length kinds) i (get_or t.constants i node.Null) is (inside i lt) (omega arith);
          known = keyed.each i (get_or t.constants i node.Null) lt (inside i lt);
        }
        | inr ge ↦ record {
          node = node.Null;
          bound = 0;
          within = tt;
          is = below_past t (length kinds) i ge;
          known = rw (class_past kinds i ge) keyed.first;
        }
      ]

  class_to : (i j : ℕ) → type_at t i ≡ type_at t j → class_at classes i ≡ class_at classes j
  class_to i j same = eqb-true _ _ (c.same i j ∙ ap (same_type (type_at t i)) (sym same) ∙ type_self (type_at t i))

  class_from : (i j : ℕ) → class_at classes i ≡ class_at classes j → type_at t i ≡ type_at t j
  class_from i j same = type_is_same _ _ (sym (c.same i j) ∙ eq-eqb _ _ same)

  kind_to : (i j : ℕ) → constant_below t (length kinds) i ≡ constant_below t (length kinds) j → class_at kinds i ≡ class_at kinds j
  kind_to i j same = eqb-true _ _ (b.same i j ∙ ap (same_constant (constant_below t (length kinds) i)) (sym same) ∙ constant_self (constant_below t (length kinds) i))

  kind_from : (i j : ℕ) → class_at kinds i ≡ class_at kinds j → constant_below t (length kinds) i ≡ constant_below t (length kinds) j
  kind_from i j same = constant_is_same _ _ (sym (b.same i j) ∙ eq-eqb _ _ same)

  pub key_kind : ((j : ℕ) → slice_get new j ≡ Some (constant_key (class_at classes) (class_at kinds) n) → j ≡ kind) → IsNextKind t kinds (constant_at t (length kinds)) kind
  key_kind only = record {
    same = λ i.
        let s = stands i in
        elim (cases_Bool (same_constant (constant_below t (length kinds) i) (constant_at t (length kinds)))) [
          | inl f ↦
              let trees : constant_of_node (name_at t) (type_at t) (constant_below t (length kinds)) s.node ≡ constant_of_node (name_at t) (type_at t) (constant_below t (length kinds)) n = sym s.is ∙ constant_is_same _ _ f ∙ own in
              let same : constant_key (class_at classes) (class_at kinds) s.node ≡ constant_key (class_at classes) (class_at kinds) n =
              key_to (name_at t) (type_at t) (constant_below t (length kinds)) (class_at classes) (class_at kinds) (length t.names) (one_name t is) class_to kind_to
              (length t.types) s.bound (length kinds) s.node n s.within (is.constants (length kinds) n e) trees in
              let number : class_at kinds i ≡ kind = only (class_at kinds i) (kept _ _ s.known ∙ ap Some same) in
              eq-eqb _ _ number ∙ sym f
          | inr f ↦
              ne_eqb _ _ (λ (number : class_at kinds i ≡ kind).
              let old : slice_get new (class_at kinds i) ≡ Some (constant_key (class_at classes) (class_at kinds) s.node) = kept _ _ s.known in
              let one : Some (constant_key (class_at classes) (class_at kinds) s.node) ≡ Some (constant_key (class_at classes) (class_at kinds) n) = sym old ∙ ap (slice_get new) number ∙ known in
              let same : constant_key (class_at classes) (class_at kinds) s.node ≡ constant_key (class_at classes) (class_at kinds) n = cc in
              let trees : constant_below t (length kinds) i ≡ constant_at t (length kinds) =
              s.is ∙ key_from (name_at t) (type_at t) (constant_below t (length kinds)) (class_at classes) (class_at kinds) class_from kind_from s.node n same ∙ sym own in
              let yes : same_constant (constant_below t (length kinds) i) (constant_at t (length kinds)) ≡ true =
              ap (same_constant (constant_below t (length kinds) i)) (sym trees) ∙ constant_self (constant_below t (length kinds) i) in
              absurd cc)
              ∙ sym f
        ];
  }

  before : (i : ℕ) → i < length kinds → class_at (kinds ++ kind ∷ []) i ≡ class_at kinds i
  before i lt = get_or-append kinds (kind ∷ []) 0 i lt

  key_before : (j : ℕ) (m : ConstantNode) → j ≤ length kinds → slice_get t.constants j ≡ Some m
      → constant_key (class_at classes) (class_at (kinds ++ kind ∷ [])) m ≡ constant_key (class_at classes) (class_at kinds) m
  key_before j m le at =
      key_part (length t.names) (length t.types) j m (class_at classes) (class_at (kinds ++ kind ∷ [])) (class_at kinds) (is.constants j m at) (λ i lt. before i (omega arith))

  pub key_more : length new ≤ length keys + 1 → Keyed t classes (kinds ++ kind ∷ []) new
  key_more len = record {
    each = λ j m lt at.
        elim (cases_lt j (length kinds)) [
          | inl less ↦ rw (before j less, key_before j m (omega arith) at) (kept _ _ (keyed.each j m less at))
          | inr ge ↦
              let all : length (kinds ++ kind ∷ []) ≡ length kinds + 1 = length_push kinds kind in
              let place : j ≡ length kinds = omega (arith, all, lt) in
              let here : slice_get t.constants (length kinds) ≡ Some m = ap (slice_get t.constants) (sym place) ∙ at in
              let same : m ≡ n = cc in
              let last : class_at (kinds ++ kind ∷ []) j ≡ kind = rw place (get_or-append_seam kinds kind [] 0) in
              rw (last, key_before j m (omega arith) at, same) known
        ];
    first = kept _ _ keyed.first;
    room = rw (length_push kinds kind) (omega (arith, len, keyed.room));
  }

pub key_first : (t : Table) (classes : List ℕ) (keys : List ConstantKey) (k : ℕ) → slice_get keys k ≡ Some key.Null → k < length keys → length keys ≤ 1 → Keyed t classes [] keys
key_first t classes keys k known lt len = record {
  each = λ j m less at. absurd (omega (arith, less));
  first = let zero_is : k ≡ 0 = omega arith in ap (slice_get keys) (sym zero_is) ∙ known;
  room = len;
}
