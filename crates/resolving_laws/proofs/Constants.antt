-- Types, constants and addresses are what the code has of them.
use Rattle.std.proofs.Common.{◌≡◌, ℕ, ℤ, pos, zero, suc, ◌+◌, ◌<◌, length, map, Bool, true, false, List, [], ◌∷◌, Option, Some, None, slice_get, refl, sym, ap, subst, ◌∙◌, arith, inl, inr, if◌then◌else◌, eqb-true}
use Rattle.std.specs.Prelude.{IfSome, option_and_then, nat_eq, ◌&&◌, nat_le, slice_index_or}
use Rattle.std.specs.Option.{option_map_or}
use Rattle.std.specs.List.{range_with_len}
use Rattle.std.proofs.lemmas.Option.{slice_get_within}
use Rattle.pv_base.specs.declared.name.Name.{Name}
use Rattle.int_num.specs.Integer.{Integer}
use Rattle.ir_tree.specs.declared.nodes.TypeNode.{TypeNode}
use Rattle.ir_tree.specs.declared.nodes.TypeNode.TheVariants as node
use Rattle.ir_tree.specs.declared.items.NamedType.{NamedType}
use Rattle.ir_tree.specs.declared.items.Global.{Global as Variable}
use Rattle.ir_tree.specs.declared.items.Function.{Function}
use Rattle.ir_tree.specs.declared.layout.Layout.{Layout}
use Rattle.ir_tree.specs.Table.{Table, same_name}
use Rattle.ir_tree.specs.Trees.{TypeV, IntV, PtrV, VoidV, ArrayV, StructV, NamedV, TypesV}
use Rattle.ir_tree.specs.Trees.{ConstantV, IntegerC, NullC, ZeroC, TextC, ArrayC, StructC, NameC, AddressC, ElementsV, NoneC, MoreC}
use Rattle.ir_tree.specs.Naming.{constant_at}
use Rattle.ir_tree.specs.Layouts.{layout_of, offset_of, opened, field_type}
use Rattle.ir_tree.specs.Modules.{Items, types_of, layout_in}
use Rattle.ir_tree.proofs.Bodies.{same_self}
use Rattle.ir_rules.proofs.SameLemmas.{name_is}
use Rattle.ir_code.specs.declared.op.Scalar.{Scalar}
use Rattle.ir_code.specs.declared.op.Scalar.TheVariants as scalar
use Rattle.ir_code.specs.declared.op.Fixed.{Fixed}
use Rattle.ir_code.specs.declared.op.Fixed.TheVariants as fixed
use Rattle.ir_code.specs.declared.op.Operand.{Operand}
use Rattle.ir_code.specs.declared.op.Operand.TheVariants as operand
use Rattle.ir_code.specs.declared.op.Index.{Index}
use Rattle.ir_code.specs.declared.op.Index.TheVariants as index
use Rattle.ir_code.specs.declared.lookups.Constant.{Constant}
use Rattle.ir_code.specs.declared.lookups.Constant.TheVariants as constant
use Rattle.ir_code.specs.Strides.{Step, scaled, field_index, field_stride, stride_in, stride, inner_strides, strides}
use Rattle.ir_code.specs.Fixed.{goes_by, item_named, zero_of, total_of, moved, fixed_of, operands_of}
use Rattle.ir_code.specs.Tables.{scalar_of, scalar_at, size_at, type_of, fixed_at}
use Rattle.ir_code.specs.Tables as tables
use Rattle.ir_code.specs.Coding.{constant_of, constant_in, scalar_in, size_in, tables_of}
use Rattle.resolving_laws.specs.Constants.{IsType, IsAnswer, IsStep, GoInto, AreSteps, IsZero, IsItem, IsConstant, AreElements}
use Rattle.resolving_laws.proofs.Options.{and_then, then_map, itself, tabled, some_has}
use Rattle.resolving_laws.proofs.Firsts.{item_first}

-- ---- types

typed_if : (t : Table) (of : ℕ) (o : Option TypeNode) → slice_get t.types of ≡ o → IfSome (option_and_then scalar_of o) (IsType t of)
typed_if t of None e = tt
typed_if t of (Some (node.Int w)) e = e
typed_if t of (Some node.Ptr) e = e
typed_if t of (Some node.Void) e = tt
typed_if t of (Some (node.Array n k)) e = tt
typed_if t of (Some (node.Struct packed ks)) e = tt
typed_if t of (Some (node.Named x)) e = tt

pub typed : (m : Items) (of : ℕ) → IfSome (scalar_at (tables_of m) of) (IsType m.names of)
typed m of = tabled (IsType m.names of) (scalar_in m.names) 0 _ of (λ j e. let same : j ≡ of = omega (arith, e) in subst (λ k. IfSome (scalar_in m.names k) (IsType m.names of)) (sym same) (typed_if m.names of (slice_get m.names.types of) refl))

pub looked : {X : Type 0} (f : ℕ → Option X) (a n k : ℕ) → k < n → slice_index_or (map f (range_with_len a n)) k None ≡ f (a + k)
looked f a zero k lt = absurd (omega arith)
looked f a (suc n) zero lt = let e : a + 0 ≡ a = omega arith in rw e refl
looked f a (suc n) (suc k) lt = let e : a + suc k ≡ (a + 1) + k = omega arith in rw e (looked f (a + 1) n k (omega arith))

node_type : (t : Table) (of : ℕ) (s : Scalar) → IsType t of s → (of < length t.types) × (scalar_in t of ≡ Some s)
node_type t of (scalar.Int w) e = (slice_get_within t.types of (node.Int w) e, ap (option_and_then scalar_of) e)
node_type t of scalar.Pointer e = (slice_get_within t.types of node.Ptr e, ap (option_and_then scalar_of) e)

-- a type of registers is found under its number
pub typed_back : (m : Items) (of : ℕ) (s : Scalar) → IsType m.names of s → scalar_at (tables_of m) of ≡ Some s
typed_back m of s h = let n = node_type m.names of s h in let z : 0 + of ≡ of = omega arith in looked (scalar_in m.names) 0 (length m.names.types) of n.0 ∙ ap (scalar_in m.names) z ∙ n.1

pub answered : (m : Items) (of : ℕ) → IsAnswer m.names of (scalar_at (tables_of m) of)
answered m of = go (scalar_at (tables_of m) of) refl
  where
    go : (o : Option Scalar) → scalar_at (tables_of m) of ≡ o → IsAnswer m.names of o
    go None e = λ s h. let there : scalar_at (tables_of m) of ≡ Some s = typed_back m of s h in absurd cc
    go (Some s) e = some_has (IsType m.names of) (scalar_at (tables_of m) of) s (typed m of) e

pub sized : (m : Items) (of : ℕ) → IfSome (size_at (tables_of m) of) (λ n. (l : Layout) × (layout_in m of ≡ Some l) × (n ≡ l.size))
sized m of =
    tabled (λ n. (l : Layout) × (layout_in m of ≡ Some l) × (n ≡ l.size)) (size_in m) 0 _ of
    (λ j e. let same : j ≡ of = omega (arith, e) in subst (λ k. IfSome (size_in m k) (λ n. (l : Layout) × (layout_in m of ≡ Some l) × (n ≡ l.size))) (sym same)
    (then_map (λ l. layout_in m of ≡ Some l) (λ n. (l : Layout) × (layout_in m of ≡ Some l) × (n ≡ l.size)) (layout_in m of) (λ l. l.size) (itself (layout_in m of)) (λ l h. (l, h, refl))))

-- ---- indices of an address

scaled_is : (types : List (NamedType Name TypeV)) (of : TypeV) (value : Operand) → IfSome (scaled types of value) (λ s. (l : Layout) × (layout_of types of ≡ Some l) × (s.index ≡ index.Scaled value l.size) × (s.into ≡ of))
scaled_is types of value = then_map (λ l. layout_of types of ≡ Some l) _ (layout_of types of) _ (itself (layout_of types of)) (λ l e. (l, e, refl, refl))

abbrev IsField : Operand → ℕ → Type 0
IsField value k = (n : Integer) × (value ≡ operand.Constant (fixed.Int n)) × (n.width ≡ 32) × (k ≡ n.bits)

thirty_two : (n : Integer) (b : Bool) → nat_eq n.width 32 ≡ b → IfSome (if b then Some n.bits else None) (IsField (operand.Constant (fixed.Int n)))
thirty_two n true e = (n, refl, eqb-true n.width 32 e, refl)
thirty_two n false e = tt

field_is : (value : Operand) → IfSome (field_index value) (IsField value)
field_is (operand.Register r) = tt
field_is (operand.Constant (fixed.Int n)) = thirty_two n (nat_eq n.width 32) refl
field_is (operand.Constant fixed.Null) = tt
field_is (operand.Constant (fixed.Global i offset)) = tt
field_is (operand.Constant (fixed.Function i)) = tt
field_is (operand.Constant fixed.Nowhere) = tt

stride_field : (types : List (NamedType Name TypeV)) (of : TypeV) (fields : TypesV) (k : ℕ) → IfSome (field_stride types of fields k) (λ s. (o : ℕ) × (offset_of types of k ≡ Some o) × (field_type fields k ≡ Some s.into) × (s.index ≡ index.Field o))
stride_field types of fields k =
    and_then (λ o. offset_of types of k ≡ Some o) _ (offset_of types of k) _ (itself (offset_of types of k))
    (λ o e. then_map (λ t. field_type fields k ≡ Some t) _ (field_type fields k) _ (itself (field_type fields k)) (λ t f. (o, e, f, refl)))

step_in : (types : List (NamedType Name TypeV)) (of : TypeV) (value : Operand) (body : TypeV) → IfSome (stride_in types of value body) (λ s. IsStep types of body value s.index s.into)
step_in types of value (ArrayV count element) =
    go (scaled types element value) (scaled_is types element value)
  where
    go : (o : Option Step) → IfSome o (λ s. (l : Layout) × (layout_of types element ≡ Some l) × (s.index ≡ index.Scaled value l.size) × (s.into ≡ element)) → IfSome o (λ s. IsStep types of (ArrayV count element) value s.index s.into)
    go None h = tt
    go (Some s) h = h
step_in types of value (StructV packed fields) =
    and_then (IsField value) (λ s. IsStep types of (StructV packed fields) value s.index s.into) (field_index value) _ (field_is value) (λ k h. go k h (field_stride types of fields k) (stride_field types of fields k))
  where
    go : (k : ℕ) → IsField value k → (o : Option Step) → IfSome o (λ s. (o : ℕ) × (offset_of types of k ≡ Some o) × (field_type fields k ≡ Some s.into) × (s.index ≡ index.Field o)) → IfSome o (λ s. IsStep types of (StructV packed fields) value s.index s.into)
    go k h None g = tt
    go k h (Some s) g = (h.0, g.0, h.1, h.2, ap (offset_of types of) (sym h.3) ∙ g.1, ap (field_type fields) (sym h.3) ∙ g.2, g.3)
step_in types of value (IntV w) = tt
step_in types of value PtrV = tt
step_in types of value VoidV = tt
step_in types of value (NamedV x) = tt

go_into : (types : List (NamedType Name TypeV)) (of : TypeV) (values : List Operand) → IfSome (inner_strides types of values) (GoInto types of values)
go_into types of [] = tt
go_into types of (value ∷ values) =
    and_then (λ s. (body : TypeV) × (opened types of ≡ Some body) × IsStep types of body value s.index s.into) (GoInto types of (value ∷ values)) (stride types of value) _
    (and_then (λ b. opened types of ≡ Some b) _ (opened types of) _ (itself (opened types of)) (λ b e. with b e (stride_in types of value b) (step_in types of value b)))
    (λ s h. then_map (GoInto types s.into values) (GoInto types of (value ∷ values)) (inner_strides types s.into values) _ (go_into types s.into values) (λ rest g. (h.0, s.into, h.1, h.2, g)))
  where
    with : (b : TypeV) → opened types of ≡ Some b → (o : Option Step) → IfSome o (λ s. IsStep types of b value s.index s.into) → IfSome o (λ s. (body : TypeV) × (opened types of ≡ Some body) × IsStep types of body value s.index s.into)
    with b e None h = tt
    with b e (Some s) h = (b, e, h)

pub stepped : (types : List (NamedType Name TypeV)) (of : TypeV) (values : List Operand) → IfSome (strides types of values) (AreSteps types of values)
stepped types of [] = tt
stepped types of (value ∷ values) =
    and_then (λ s. (l : Layout) × (layout_of types of ≡ Some l) × (s.index ≡ index.Scaled value l.size) × (s.into ≡ of)) (AreSteps types of (value ∷ values)) (scaled types of value) _ (scaled_is types of value)
    (λ s h. then_map (GoInto types s.into values) (AreSteps types of (value ∷ values)) (inner_strides types s.into values) _ (go_into types s.into values) (λ rest g. (h.0, h.1, h.2, subst (λ t. GoInto types t values rest) h.3 g)))

-- ---- constants

zero_is : (type : TypeV) → IfSome (zero_of type) (IsZero type)
zero_is (IntV w) = go (nat_le 1 w && nat_le w 64)
  where
    go : (b : Bool) → IfSome (if b then Some (fixed.Int (record { width = w; bits = 0 })) else None) (IsZero (IntV w))
    go true = refl
    go false = tt
zero_is PtrV = refl
zero_is VoidV = tt
zero_is (ArrayV n t) = tt
zero_is (StructV p ts) = tt
zero_is (NamedV x) = tt

goes_to : (t : Table) (name : Name) (k : ℕ) (o : Option Name) → slice_get t.names k ≡ o → option_map_or (same_name name) o false ≡ true → slice_get t.names k ≡ Some name
goes_to t name k None e g = absurd cc
goes_to t name k (Some x) e g = e ∙ ap Some (sym (name_is name x g))

goes_from : (t : Table) (name : Name) (k : ℕ) → slice_get t.names k ≡ Some name → goes_by t name k ≡ true
goes_from t name k e = ap (λ o. option_map_or (same_name name) o false) e ∙ same_self name

item_is : (m : Items) (name : Name) → IfSome (item_named m name) (IsItem m name)
item_is m name =
    item_first (λ g. goes_by m.names name g.name) (λ (g : Variable ℕ ℕ ℕ). slice_get m.names.names g.name ≡ Some name) (λ i. fixed.Global i (pos 0)) 0 m.globals _ (IsItem m name)
    (λ g e. goes_to m.names name g.name (slice_get m.names.names g.name) refl e) (λ g e. goes_from m.names name g.name e)
    (λ k f. inl (k, f, let z : 0 + k ≡ k = omega arith in ap (λ i. fixed.Global i (pos 0)) z))
    (λ none. item_first (λ f. goes_by m.names name f.name) (λ (f : Function ℕ ℕ ℕ). slice_get m.names.names f.name ≡ Some name) fixed.Function 0 m.functions None (IsItem m name)
    (λ f e. goes_to m.names name f.name (slice_get m.names.names f.name) refl e) (λ f e. goes_from m.names name f.name e)
    (λ k f. inr (k, none, f, let z : 0 + k ≡ k = omega arith in ap fixed.Function z))
    (λ rest. tt))

mutual
  pub valued : (m : Items) (type : TypeV) (c : ConstantV) → IfSome (fixed_of m type c) (IsConstant m type c)
  valued m type (IntegerC n) = refl
  valued m type NullC = refl
  valued m type ZeroC = zero_is type
  valued m type (TextC bytes) = tt
  valued m type (ArrayC elements) = tt
  valued m type (StructC packed elements) = tt
  valued m type (NameC name) = item_is m name
  valued m type (AddressC of base indices) =
      and_then (IsConstant m PtrV base) (IsConstant m type (AddressC of base indices)) (fixed_of m PtrV base) _ (valued m PtrV base)
      (λ b h. and_then (λ total. (values : List Operand) × (steps : List Index) × AreElements m indices values × AreSteps (types_of m) of values steps × (total_of (pos 0) steps ≡ Some total)) _
      (option_and_then (total_of (pos 0)) (option_and_then (strides (types_of m) of) (operands_of m indices))) _
      (and_then (λ steps. (values : List Operand) × AreElements m indices values × AreSteps (types_of m) of values steps) _ (option_and_then (strides (types_of m) of) (operands_of m indices)) _
      (and_then (AreElements m indices) _ (operands_of m indices) _ (elements_valued m indices) (λ values e. with values e (strides (types_of m) of values) (stepped (types_of m) of values)))
      (λ steps s. summed steps s (total_of (pos 0) steps) (itself (total_of (pos 0) steps))))
      (λ total t. ended b h total t (moved b total) (itself (moved b total))))
    where
      with : (values : List Operand) → AreElements m indices values → (o : Option (List Index)) → IfSome o (AreSteps (types_of m) of values) → IfSome o (λ steps. (values : List Operand) × AreElements m indices values × AreSteps (types_of m) of values steps)
      with values e None h = tt
      with values e (Some s) h = (values, e, h)

      summed : (steps : List Index) → ((values : List Operand) × AreElements m indices values × AreSteps (types_of m) of values steps) → (o : Option ℤ) → IfSome o (λ t. total_of (pos 0) steps ≡ Some t)
          → IfSome o (λ total. (values : List Operand) × (steps : List Index) × AreElements m indices values × AreSteps (types_of m) of values steps × (total_of (pos 0) steps ≡ Some total))
      summed steps s None h = tt
      summed steps s (Some t) h = (s.0, steps, s.1, s.2, h)

      ended : (b : Fixed) → IsConstant m PtrV base b → (total : ℤ) → ((values : List Operand) × (steps : List Index) × AreElements m indices values × AreSteps (types_of m) of values steps × (total_of (pos 0) steps ≡ Some total))
          → (o : Option Fixed) → IfSome o (λ v. moved b total ≡ Some v) → IfSome o (IsConstant m type (AddressC of base indices))
      ended b h total t None g = tt
      ended b h total t (Some v) g = (b, t.0, t.1, total, h, t.2, t.3, t.4, g)

  elements_valued : (m : Items) (es : ElementsV) → IfSome (operands_of m es) (AreElements m es)
  elements_valued m NoneC = refl
  elements_valued m (MoreC type c rest) =
      and_then (IsConstant m type c) (AreElements m (MoreC type c rest)) (fixed_of m type c) _ (valued m type c)
      (λ v h. then_map (AreElements m rest) (AreElements m (MoreC type c rest)) (operands_of m rest) _ (elements_valued m rest) (λ vs g. (v, vs, h, g, refl)))

-- ---- constants by their numbers

abbrev IsFound : Items → ConstantV → Constant → Type 0
IsFound m c found = (s : Scalar) → IfSome (tables.fixed_of s found) (IsConstant m (type_of s) c)

found_is : (m : Items) (c : ConstantV) → IfSome (constant_of m c) (IsFound m c)
found_is m (IntegerC n) = λ s. refl
found_is m NullC = λ s. refl
found_is m ZeroC = λ s. zero_is (type_of s)
found_is m (TextC bytes) = tt
found_is m (ArrayC elements) = tt
found_is m (StructC packed elements) = tt
found_is m (NameC name) = then_map (IsConstant m PtrV (NameC name)) (IsFound m (NameC name)) (fixed_of m PtrV (NameC name)) constant.Is (valued m PtrV (NameC name)) (λ v h s. h)
found_is m (AddressC of base indices) = then_map (IsConstant m PtrV (AddressC of base indices)) (IsFound m (AddressC of base indices)) (fixed_of m PtrV (AddressC of base indices)) constant.Is (valued m PtrV (AddressC of base indices)) (λ v h s. h)

pub constant_valued : (m : Items) (s : Scalar) (k : ℕ) → IfSome (fixed_at (tables_of m) s k) (IsConstant m (type_of s) (constant_at m.names k))
constant_valued m s k =
    and_then (IsFound m (constant_at m.names k)) (IsConstant m (type_of s) (constant_at m.names k)) _ (tables.fixed_of s)
    (tabled (IsFound m (constant_at m.names k)) (constant_in m) 0 _ k (λ j e. let same : j ≡ k = omega (arith, e) in subst (λ i. IfSome (constant_in m i) (IsFound m (constant_at m.names k))) (sym same) (found_is m (constant_at m.names k))))
    (λ found h. h s)
