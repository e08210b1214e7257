-- Where the indices of an address lead somewhere, they have strides.
use Rattle.std.proofs.Common.{◌≡◌, ℕ, true, Bool, List, [], ◌∷◌, map, Option, Some, None, refl, sym, ap, subst, ◌∙◌, ◌⊎◌, inl, inr}
use Rattle.std.specs.Prelude.{option_map, option_and_then, fold}
use Rattle.std.specs.List.{AllByRecursion}
use Rattle.pv_base.specs.declared.name.Name.{Name}
use Rattle.ir_tree.specs.declared.instruction.Operand.{Operand as Named}
use Rattle.ir_tree.specs.declared.instruction.Operand.TheVariants as named
use Rattle.ir_tree.specs.declared.instruction.Argument.{Argument}
use Rattle.ir_tree.specs.declared.items.Function.{Function}
use Rattle.ir_tree.specs.declared.items.NamedType.{NamedType}
use Rattle.ir_tree.specs.declared.layout.Layout.{Layout}
use Rattle.ir_tree.specs.Table.{IsTable}
use Rattle.ir_tree.specs.Trees.{TypeV, IntV, PtrV, VoidV, ArrayV, StructV, NamedV, TypesV}
use Rattle.ir_tree.specs.Naming.{type_at}
use Rattle.ir_tree.specs.Shown.{shown_argument, shown_operand}
use Rattle.ir_tree.specs.Layouts.{layout_of, fields_of}
use Rattle.ir_tree.specs.Modules.{Items}
use Rattle.ir_rules.specs.Constants.{is_integer}
use Rattle.ir_rules.specs.Causes.{operand_index}
use Rattle.ir_rules.specs.Numbering.{is_type, is_within, function_within}
use Rattle.ir_rules.specs.Reading.{is_register}
use Rattle.ir_rules.specs.Indexing.{WalkV, step_into, field_step, advance, path, agrees, is_inside}
use Rattle.ir_rules.specs.declared.given.Walk.TheVariants.{Through, Differs, Outside}
use Rattle.ir_code.specs.declared.op.Scalar.TheVariants as scalar
use Rattle.ir_code.specs.declared.op.Operand.{Operand}
use Rattle.ir_code.specs.declared.op.Operand.TheVariants as operand
use Rattle.ir_code.specs.declared.op.Fixed.TheVariants as fixed
use Rattle.ir_code.specs.declared.op.Index.{Index}
use Rattle.ir_code.specs.declared.op.Index.TheVariants as index
use Rattle.ir_code.specs.Strides.{Step, scaled, stride, inner_strides, strides}
use Rattle.ir_code.specs.Tables.{type_of}
use Rattle.ir_code.specs.Families.{operand_at, argument_at, arguments_at}
use Rattle.ir_code.specs.Coding.{tables_of}
use Rattle.checked_code.proofs.Layouts.{array_is}
use Rattle.global_laws.proofs.Walking.{IsIndex, leads}
use Rattle.resolving_laws.specs.Resolved.{register_names}
use Rattle.resolving_laws.proofs.Sound.{UseSound}
use Rattle.resolving_laws.proofs.Values.{Typed, typed_some, integer_some, operand_some}

-- an index is a constant integer, or no constant
abbrev pub MayIndex : Operand → Option ℕ → Type 0
MayIndex v k = (k ≡ None) ⊎ IsIndex v k

abbrev pub MayIndices : List Operand → List (Option ℕ) → Type 0
MayIndices [] [] = Unit {0}
MayIndices (v ∷ vs) (k ∷ ks) = MayIndex v k × MayIndices vs ks
MayIndices vs ks = ⊥

-- ---- one index

pub record Goes (types : List (NamedType Name TypeV)) (of : TypeV) (v : Operand) (t : TypeV) : Type 0 where
  pub index : Index
  pub layout : Layout
  pub is : stride types of v ≡ Some (record { index = index; into = t })
  pub laid : layout_of types t ≡ Some layout

no_field : (o : Option (Bool × TypesV)) (t : TypeV) → field_step o None ≡ Through t → ⊥
no_field None t e = absurd cc
no_field (Some fs) t e = absurd cc

any_index : (types : List (NamedType Name TypeV)) (of t : TypeV) (v : Operand) (l : Layout) → layout_of types of ≡ Some l → step_into types of None ≡ Through t → Goes types of v t
unfolding step_into
any_index types (ArrayV n e) t v l laid w =
    let same : e ≡ t = cc in
    let a = array_is n (layout_of types e) l laid in
    let step : scaled types e v ≡ Some (record { index = index.Scaled v a.0.size; into = t }) = ap (option_map (λ (y : Layout). let s : Step = record { index = index.Scaled v y.size; into = e } in s)) a.1 ∙ ap (λ (y : TypeV). Some (let s : Step = record { index = index.Scaled v a.0.size; into = y } in s)) same in
    record { index = index.Scaled v a.0.size; layout = a.0; is = step; laid = ap (layout_of types) (sym same) ∙ a.1 }
any_index types (StructV packed fields) t v l laid w = absurd cc
any_index types (NamedV name) t v l laid w = absurd (no_field (fields_of types (NamedV name)) t w)
any_index types (IntV width) t v l laid w = absurd cc
any_index types PtrV t v l laid w = absurd cc
any_index types VoidV t v l laid w = absurd cc

goes : (types : List (NamedType Name TypeV)) (of t : TypeV) (v : Operand) (k : Option ℕ) (l : Layout) → layout_of types of ≡ Some l → MayIndex v k → step_into types of k ≡ Through t → Goes types of v t
goes types of t v k l laid (inl none) w = any_index types of t v l laid (ap (step_into types of) (sym none) ∙ w)
goes types of t v k l laid (inr x) w = let r = leads types of t v k l laid x w in record { index = r.index; layout = r.layout; is = r.is; laid = r.laid }

-- ---- all indices

differs_on : (types : List (NamedType Name TypeV)) (ks : List (Option ℕ)) → fold (advance types) Differs ks ≡ Differs
differs_on types [] = refl
differs_on types (k ∷ ks) = differs_on types ks

outside_on : (types : List (NamedType Name TypeV)) (ks : List (Option ℕ)) → fold (advance types) Outside ks ≡ Outside
outside_on types [] = refl
outside_on types (k ∷ ks) = outside_on types ks

abbrev Inner : List (NamedType Name TypeV) → TypeV → List Operand → Type 0
Inner types of vs = (all : List Index) × (inner_strides types of vs ≡ Some all)

one_more : (types : List (NamedType Name TypeV)) (of t : TypeV) (v : Operand) (vs : List Operand) → Goes types of v t → Inner types t vs → Inner types of (v ∷ vs)
one_more types of t v vs one rest = (one.index ∷ rest.0, ap (option_and_then (λ (s : Step). option_map (λ (more : List Index). s.index ∷ more) (inner_strides types s.into vs))) one.is ∙ ap (option_map (λ (more : List Index). one.index ∷ more)) rest.1)

inner_some : (types : List (NamedType Name TypeV)) (of t : TypeV) (vs : List Operand) (ks : List (Option ℕ)) (l : Layout) → layout_of types of ≡ Some l → MayIndices vs ks → fold (advance types) (Through of) ks ≡ Through t → Inner types of vs
inner_some types of t [] ks l laid x w = ([], refl)
inner_some types of t (v ∷ vs) [] l laid x w = elim x [ ]
inner_some types of t (v ∷ vs) (k ∷ ks) l laid x w = go (λ u m q f. inner_some types u t vs ks m q x.1 f) (step_into types of k) refl w
  where
    go : ((u : TypeV) (m : Layout) → layout_of types u ≡ Some m → fold (advance types) (Through u) ks ≡ Through t → Inner types u vs) → (step : WalkV) → step_into types of k ≡ step → fold (advance types) step ks ≡ Through t → Inner types of (v ∷ vs)
    go again (Through u) s f = let one = goes types of u v k l laid x.0 s in one_more types of u v vs one (again u one.layout one.laid f)
    go again Differs s f = let d = differs_on types ks in absurd cc
    go again Outside s f = let d = outside_on types ks in absurd cc

through : (w : WalkV) → agrees w ≡ true → is_inside w ≡ true → (t : TypeV) × (w ≡ Through t)
through (Through t) a i = (t, refl)
through Differs a i = absurd cc
through Outside a i = absurd cc

pub strides_some : (types : List (NamedType Name TypeV)) (of : TypeV) (l : Layout) (vs : List Operand) (ks : List (Option ℕ)) → layout_of types of ≡ Some l → MayIndices vs ks → agrees (path types of ks) ≡ true → is_inside (path types of ks) ≡ true
    → (all : List Index) × (strides types of vs ≡ Some all)
strides_some types of l [] ks laid x a i = ([], refl)
strides_some types of l (v ∷ vs) [] laid x a i = elim x [ ]
strides_some types of l (v ∷ vs) (k ∷ ks) laid x a i =
    let w = through (path types of (k ∷ ks)) a i in
    let inner = inner_some types of w.0 vs ks l laid x.1 w.1 in (
      index.Scaled v l.size ∷ inner.0,
      ap (λ (o : Option Layout). option_and_then (λ (s : Step). option_map (λ (more : List Index). s.index ∷ more) (inner_strides types s.into vs)) (option_map (λ (y : Layout). let s : Step = record { index = index.Scaled v y.size; into = of } in s) o)) laid
          ∙ ap (option_map (λ (more : List Index). index.Scaled v l.size ∷ more)) inner.1,
    )

-- ---- the operands of indices

-- what an index of an instruction keeps
pub record IndexSound (m : Items) (f : Function ℕ ℕ ℕ) (a : Argument ℕ ℕ ℕ) : Type 0 where
  pub operand : UseSound m f (type_at m.names a.of) a.value
  pub type : is_type m.names a.of ≡ true
  pub integer : is_integer (type_at m.names a.of) ≡ true
  pub stands : is_register (type_at m.names a.of) ≡ true

module _ (m : Items) (f : Function ℕ ℕ ℕ) (table : IsTable m.names) (within : is_within m ≡ true) (inside : function_within m.names f ≡ true) where
  abbrev Indexed : Argument ℕ ℕ ℕ → Operand → Type 0
  Indexed a o = (argument_at (tables_of m) (register_names f) a ≡ Some o) × MayIndex o (operand_index (type_at m.names a.of) (shown_operand m.names a.value))

  typed_argument : (of : ℕ) (value : Named ℕ ℕ) (t : Typed m of) (o : Operand) → operand_at (tables_of m) (register_names f) t.scalar value ≡ Some o → argument_at (tables_of m) (register_names f) (record { of = of; value = value }) ≡ Some o
  typed_argument of value t o e = ap (option_and_then (λ s. operand_at (tables_of m) (register_names f) s value)) t.is ∙ e

  index_some : (of : ℕ) (value : Named ℕ ℕ) → IndexSound m f (record { of = of; value = value }) → (o : Operand) × Indexed (record { of = of; value = value }) o
  index_some of (named.Register x) s =
      let t = typed_some m of table s.type s.stands in
      let u = subst (λ type. UseSound m f type (named.Register x)) t.type s.operand in
      let o = operand_some m f t.scalar (named.Register x) table within inside t.stands u in
      (o.0, (typed_argument of (named.Register x) t o.0 o.1, inl refl))
  index_some of (named.Constant k) s =
      let t = typed_some m of table s.type s.stands in
      constant_index_some t.scalar t refl
    where
      constant_index_some : (c : _) (t : Typed m of) → t.scalar ≡ c → (o : Operand) × Indexed (record { of = of; value = named.Constant k }) o
      constant_index_some (scalar.Int w) t e =
          let of_is : type_at m.names of ≡ IntV w = t.type ∙ ap type_of e in
          let u = subst (λ type. UseSound m f type (named.Constant k)) of_is s.operand in
          let stands : is_register (IntV w) ≡ true = ap (λ c. is_register (type_of c)) (sym e) ∙ t.stands in
          let n = integer_some m f w k stands u in (
            operand.Constant (fixed.Int n.0),
            (
              typed_argument of (named.Constant k) t (operand.Constant (fixed.Int n.0)) (ap (λ c. operand_at (tables_of m) (register_names f) c (named.Constant k)) e ∙ ap (option_map operand.Constant) n.1),
              inr (record { number = n.0; is = refl; reads = ap (λ type. operand_index type (shown_operand m.names (named.Constant k))) of_is ∙ n.2 }),
            ),
          )
      constant_index_some scalar.Pointer t e =
          let of_is : type_at m.names of ≡ PtrV = t.type ∙ ap type_of e in
          let no : is_integer PtrV ≡ true = ap is_integer (sym of_is) ∙ s.integer in
          absurd cc

  pub indices_some : (xs : List (Argument ℕ ℕ ℕ)) → AllByRecursion (IndexSound m f) xs
      → (vs : List Operand) × (arguments_at (tables_of m) (register_names f) xs ≡ Some vs) × MayIndices vs (map (λ a. operand_index a.of a.value) (map (shown_argument m.names) xs))
  indices_some [] h = ([], refl, tt)
  indices_some (a ∷ xs) h =
      let one = index_some a.of a.value h.0 in
      let rest = indices_some xs h.1 in (
        one.0 ∷ rest.0,
        ap (option_and_then (λ y. option_and_then (λ ys. Some (y ∷ ys)) (arguments_at (tables_of m) (register_names f) xs))) one.1.0 ∙ ap (option_and_then (λ ys. Some (one.0 ∷ ys))) rest.1,
        (one.1.1, rest.2),
      )
