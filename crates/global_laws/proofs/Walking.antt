-- Where the indices of a constant address lead somewhere, they have strides.
use Rattle.std.proofs.Common.{◌≡◌, ◌∙◌, ℕ, zero, suc, Bool, true, List, [], ◌∷◌, length, take, Option, Some, None, refl, sym, ap}
use Rattle.std.specs.Prelude.{fold, is_some, option_and_then, option_map, slice_index_or}
use Rattle.pv_base.specs.declared.name.Name.{Name}
use Rattle.int_num.specs.Integer.{Integer}
use Rattle.ir_tree.specs.declared.layout.Layout.{Layout}
use Rattle.ir_tree.specs.declared.items.NamedType.{NamedType}
use Rattle.ir_tree.specs.Trees.{TypeV, IntV, PtrV, VoidV, ArrayV, StructV, NamedV, TypesV, NoneV, MoreV}
use Rattle.ir_tree.specs.Layouts.{field_place, joined, no_fields, layout_with, layouts_with, named_layout, layout_of, fields_of, struct_fields, type_named, opened, offset_of, field_type, place_in}
use Rattle.ir_code.specs.declared.op.Fixed.TheVariants as fixed
use Rattle.ir_code.specs.declared.op.Operand.{Operand}
use Rattle.ir_code.specs.declared.op.Operand.TheVariants as operand
use Rattle.ir_code.specs.declared.op.Index.{Index}
use Rattle.ir_code.specs.declared.op.Index.TheVariants as index
use Rattle.ir_code.specs.Strides.{Step, scaled, integer_index, field_index, field_stride, stride_in, stride, inner_strides}
use Rattle.ir_code.specs.Fixed.{amount}
use Rattle.ir_rules.specs.declared.given.Walk.TheVariants.{Through, Differs, Outside}
use Rattle.ir_rules.specs.Indexing.{WalkV, field_at, field_step, step_into, advance}
use Rattle.checked_code.proofs.Layouts.{array_is, struct_is, fields_laid}
use Rattle.global_laws.proofs.Forms.{field_laid}

-- the operand is a constant integer, and the number is what an index into a struct reads of it
pub record IsIndex (v : Operand) (k : Option ℕ) : Type 0 where
  pub number : Integer
  pub is : v ≡ operand.Constant (fixed.Int number)
  pub reads : k ≡ integer_index number

abbrev pub AreIndices : List Operand → List (Option ℕ) → Type 0
AreIndices [] [] = Unit {0}
AreIndices [] (k ∷ ks) = ⊥
AreIndices (v ∷ vs) [] = ⊥
AreIndices (v ∷ vs) (k ∷ ks) = IsIndex v k × AreIndices vs ks

abbrev pub AllAmounts : List Index → Type 0
AllAmounts [] = Unit {0}
AllAmounts (i ∷ is) = (is_some (amount i) ≡ true) × AllAmounts is

-- ---- a field of a struct that has a layout

abbrev place_of : Bool → (Name → Option Layout) → Option Layout → TypesV → ℕ → Option ℕ
place_of packed named so fields i = option_and_then (λ s. option_map (field_place packed s) (slice_index_or (layouts_with named fields) i None)) (fold (joined packed) so (take i (layouts_with named fields)))

record Field (packed : Bool) (named : Name → Option Layout) (s : Layout) (fields : TypesV) (i : ℕ) (t : TypeV) : Type 0 where
  place : ℕ
  layout : Layout
  type : field_type fields i ≡ Some t
  offset : place_of packed named (Some s) fields i ≡ Some place
  laid : layout_with named t ≡ Some layout

field_there : (packed : Bool) (named : Name → Option Layout) (s : Layout) (fields : TypesV) (i : ℕ) (t : TypeV) (end : Layout) → fold (joined packed) (Some s) (layouts_with named fields) ≡ Some end → field_at fields i ≡ Through t → Field packed named s fields i t
field_there packed named s NoneV i t end e w = absurd (cc)
field_there packed named s (MoreV x rest) zero t end e w =
    let f = field_laid packed s (layout_with named x) (layouts_with named rest) end e in
    let same : x ≡ t = cc in
    record { place = field_place packed s f.field; layout = f.field; type = ap Some same; offset = ap (option_map (field_place packed s)) f.is; laid = ap (layout_with named) (sym same) ∙ f.is }
field_there packed named s (MoreV x rest) (suc i) t end e w =
    let f = field_laid packed s (layout_with named x) (layouts_with named rest) end e in
    let r = field_there packed named f.so rest i t end f.rest w in
    let j : joined packed (Some s) (layout_with named x) ≡ Some f.so = ap (λ (o : Option Layout). joined packed (Some s) o) f.is ∙ f.more in
    record { place = r.place; layout = r.layout; type = r.type; offset = ap (λ (o : Option Layout). place_of packed named o rest i) j ∙ r.offset; laid = r.laid }

-- ---- one index

pub record Leads (types : List (NamedType Name TypeV)) (of : TypeV) (v : Operand) (t : TypeV) : Type 0 where
  pub index : Index
  pub layout : Layout
  pub is : stride types of v ≡ Some (record { index = index; into = t })
  pub adds : is_some (amount index) ≡ true
  pub laid : layout_of types t ≡ Some layout

into_array : (types : List (NamedType Name TypeV)) (n : ℕ) (e t : TypeV) (v : Operand) (k : Option ℕ) (l : Layout) → layout_of types (ArrayV n e) ≡ Some l → IsIndex v k → e ≡ t → Leads types (ArrayV n e) v t
into_array types n e t v k l laid x same =
    let a = array_is n (layout_of types e) l laid in
    let step : scaled types e v ≡ Some (record { index = index.Scaled v a.0.size; into = t }) = ap (option_map (λ (y : Layout). let s : Step = record { index = index.Scaled v y.size; into = e } in s)) a.1 ∙ ap (λ (y : TypeV). Some (let s : Step = record { index = index.Scaled v a.0.size; into = y } in s)) same in
    record { index = index.Scaled v a.0.size; layout = a.0; is = step; adds = ap (λ (y : Operand). is_some (amount (index.Scaled y a.0.size))) x.is; laid = ap (layout_of types) (sym same) ∙ a.1 }

into_struct : (types : List (NamedType Name TypeV)) (of : TypeV) (packed : Bool) (fields : TypesV) (t : TypeV) (v : Operand) (k : Option ℕ) (l : Layout) → opened types of ≡ Some (StructV packed fields) → fields_of types of ≡ Some (packed, fields)
    → layout_of types of ≡ Some l → IsIndex v k → field_step (Some (packed, fields)) k ≡ Through t → Leads types of v t
into_struct types of packed fields t v None l opens fs laid x w = absurd (cc)
into_struct types of packed fields t v (Some i) l opens fs laid x w =
    let named = named_layout (length types) types in
    let e = struct_is (fold (joined packed) no_fields (layouts_with named fields)) l (fields_laid types of packed fields l fs laid) in
    let f = field_there packed named (record { size = 0; align = 1 }) fields i t e.0 e.1 w in
    let reads : field_index v ≡ Some i = ap field_index x.is ∙ sym x.reads in
    let offset : offset_of types of i ≡ Some f.place = ap (option_and_then (λ (g : Bool × TypesV). place_in g.0 (layouts_with named g.1) i)) fs ∙ f.offset in
    let step : field_stride types of fields i ≡ Some (record { index = index.Field f.place; into = t }) =
    ap (option_and_then (λ (o : ℕ). option_map (λ (y : TypeV). let s : Step = record { index = index.Field o; into = y } in s) (field_type fields i))) offset
    ∙ ap (option_map (λ (y : TypeV). let s : Step = record { index = index.Field f.place; into = y } in s)) f.type in
    record {
      index = index.Field f.place;
      layout = f.layout;
      is = ap (option_and_then (stride_in types of v)) opens ∙ ap (option_and_then (field_stride types of fields)) reads ∙ step;
      adds = refl;
      laid = f.laid;
    }

named_struct : (packed : Bool) (fields : TypesV) (o : Option TypeV) → option_and_then struct_fields o ≡ Some (packed, fields) → o ≡ Some (StructV packed fields)
named_struct packed fields None e = absurd (cc)
named_struct packed fields (Some (IntV w)) e = absurd (cc)
named_struct packed fields (Some PtrV) e = absurd (cc)
named_struct packed fields (Some VoidV) e = absurd (cc)
named_struct packed fields (Some (ArrayV n t)) e = absurd (cc)
named_struct packed fields (Some (NamedV x)) e = absurd (cc)
named_struct packed fields (Some (StructV p fs)) e = let same : (p, fs) ≡ (packed, fields) = cc in ap (λ (q : Bool × TypesV). Some (StructV q.0 q.1)) same

into_named : (types : List (NamedType Name TypeV)) (x : Name) (t : TypeV) (v : Operand) (k : Option ℕ) (l : Layout) (fs : Option (Bool × TypesV)) → fields_of types (NamedV x) ≡ fs → layout_of types (NamedV x) ≡ Some l → IsIndex v k → field_step fs k ≡ Through t → Leads types (NamedV x) v t
into_named types x t v k l None fs laid i w = absurd (cc)
into_named types x t v k l (Some f) fs laid i w = into_struct types (NamedV x) f.0 f.1 t v k l (named_struct f.0 f.1 (type_named types x) fs) fs laid i w

pub leads : (types : List (NamedType Name TypeV)) (of t : TypeV) (v : Operand) (k : Option ℕ) (l : Layout) → layout_of types of ≡ Some l → IsIndex v k → step_into types of k ≡ Through t → Leads types of v t
unfolding step_into
leads types (ArrayV n e) t v k l laid x w = let same : e ≡ t = cc in into_array types n e t v k l laid x same
leads types (StructV packed fields) t v k l laid x w = into_struct types (StructV packed fields) packed fields t v k l refl refl laid x w
leads types (NamedV name) t v k l laid x w = into_named types name t v k l (fields_of types (NamedV name)) refl laid x w
leads types (IntV width) t v k l laid x w = absurd (cc)
leads types PtrV t v k l laid x w = absurd (cc)
leads types VoidV t v k l laid x w = absurd (cc)

-- ---- all indices

differs_on : (types : List (NamedType Name TypeV)) (ks : List (Option ℕ)) → fold (advance types) Differs ks ≡ Differs
differs_on types [] = refl
differs_on types (k ∷ ks) = differs_on types ks

outside_on : (types : List (NamedType Name TypeV)) (ks : List (Option ℕ)) → fold (advance types) Outside ks ≡ Outside
outside_on types [] = refl
outside_on types (k ∷ ks) = outside_on types ks

pub record HasStrides (types : List (NamedType Name TypeV)) (of : TypeV) (vs : List Operand) : Type 0 where
  pub all : List Index
  pub is : inner_strides types of vs ≡ Some all
  pub adds : AllAmounts all

one_more : (types : List (NamedType Name TypeV)) (of t : TypeV) (v : Operand) (vs : List Operand) → Leads types of v t → HasStrides types t vs → HasStrides types of (v ∷ vs)
one_more types of t v vs one rest = record {
  all = one.index ∷ rest.all;
  is = ap (option_and_then (λ (s : Step). option_map (λ (more : List Index). s.index ∷ more) (inner_strides types s.into vs))) one.is ∙ ap (option_map (λ (more : List Index). one.index ∷ more)) rest.is;
  adds = (one.adds, rest.adds);
}

pub inner_some : (types : List (NamedType Name TypeV)) (of t : TypeV) (vs : List Operand) (ks : List (Option ℕ)) (l : Layout) → layout_of types of ≡ Some l → AreIndices vs ks → fold (advance types) (Through of) ks ≡ Through t → HasStrides types of vs
inner_some types of t [] ks l laid x w = record { all = []; is = refl; adds = tt }
inner_some types of t (v ∷ vs) [] l laid x w = elim x [ ]
inner_some types of t (v ∷ vs) (k ∷ ks) l laid x w = go (λ u m q f. inner_some types u t vs ks m q x.1 f) (step_into types of k) refl w
  where
    go : ((u : TypeV) (m : Layout) → layout_of types u ≡ Some m → fold (advance types) (Through u) ks ≡ Through t → HasStrides types u vs) → (step : WalkV) → step_into types of k ≡ step → fold (advance types) step ks ≡ Through t → HasStrides types of (v ∷ vs)
    go again (Through u) s f = let one = leads types of u v k l laid x.0 s in one_more types of u v vs one (again u one.layout one.laid f)
    go again Differs s f = let d = differs_on types ks in absurd (cc)
    go again Outside s f = let d = outside_on types ks in absurd (cc)
