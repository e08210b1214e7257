-- How indices go on from a type to the next.
use Rattle.std.proofs.Common.{◌≡◌, ℕ, zero, suc, ◌+◌, ◌<◌, List, [], ◌∷◌, ◌++◌, length, Option, Some, None, slice_get, get_or, refl, sym, ap, ◌∙◌, append_assoc, drop, drop-cons, add-one}
use Rattle.std.specs.Prelude.{option_map, option_and_then}
use Rattle.std.proofs.lemmas.List.{append-nil}
use Rattle.ir_tree.specs.declared.nodes.TypeNode.{TypeNode}
use Rattle.ir_tree.specs.Table.{IsTable}
use Rattle.ir_tree.specs.Trees.{TypeV}
use Rattle.ir_tree.specs.Naming.{name_at, type_at, types_at, types_by, type_of_node}
use Rattle.ir_tree.specs.Layouts.{field_type, opened}
use Rattle.ir_tree.specs.Modules.{Items, types_of, offset_in}
use Rattle.ir_tree.proofs.Filled.{type_is}
use Rattle.ir_tree.proofs.Opened.{type_past}
use Rattle.ir_code.specs.declared.op.Index.{Index}
use Rattle.ir_code.specs.declared.op.Index.TheVariants as index
use Rattle.ir_code.specs.declared.op.Operand.{Operand}
use Rattle.ir_code.specs.declared.strides.Step.{Step as Found}
use Rattle.ir_code.specs.Strides.{field_index, field_stride, stride, stride_in, inner_strides}
use Rattle.ir_code.specs.Leading.{LeadsTo}

pub field_type_at : (at : ℕ → TypeV) (ks : List ℕ) (i : ℕ) → field_type (types_by at ks) i ≡ option_map at (slice_get ks i)
field_type_at at [] zero = refl
field_type_at at [] (suc i) = refl
field_type_at at (k ∷ ks) zero = refl
field_type_at at (k ∷ ks) (suc i) = field_type_at at ks i

pub field_found : (m : Items) (of : ℕ) (ks : List ℕ) (value : Operand) (i o k : ℕ) → field_index value ≡ Some i → offset_in m of i ≡ Some o → slice_get ks i ≡ Some k
    → LeadsTo m (Some (record { index = index.Field o; into = k })) (option_and_then (field_stride (types_of m) (type_at m.names of) (types_at m.names ks)) (field_index value))
field_found m of ks value i o k named at is = rw (named, at, field_type_at (type_at m.names) ks i, is) refl

pub field_none : (m : Items) (of : ℕ) (ks : List ℕ) (value : Operand) (i o : ℕ) → field_index value ≡ Some i → offset_in m of i ≡ Some o → slice_get ks i ≡ None
    → LeadsTo m None (option_and_then (field_stride (types_of m) (type_at m.names of) (types_at m.names ks)) (field_index value))
field_none m of ks value i o named at is = rw (named, at, field_type_at (type_at m.names) ks i, is) refl

-- an index goes into what the type is a name of
pub goes_into : (m : Items) (of body : ℕ) (n : TypeNode) (value : Operand) (found : Option Found) → IsTable m.names → slice_get m.names.types body ≡ Some n
    → Some (type_at m.names body) ≡ opened (types_of m) (type_at m.names of)
    → LeadsTo m found (stride_in (types_of m) (type_at m.names of) value (type_of_node (name_at m.names) (type_at m.names) n))
    → LeadsTo m found (stride (types_of m) (type_at m.names of) value)
goes_into m of body n value found is known body_is leads =
    let at : type_at m.names body ≡ type_of_node (name_at m.names) (type_at m.names) n = type_is m.names body n is known in
    leads ∙ (rw (← body_is) (rw at refl))

-- and nowhere into a number of no type, which is taken for `ptr`
pub goes_past : (m : Items) (of body : ℕ) (value : Operand) → slice_get m.names.types body ≡ None → Some (type_at m.names body) ≡ opened (types_of m) (type_at m.names of)
    → LeadsTo m None (stride (types_of m) (type_at m.names of) value)
goes_past m of body value missing body_is = rw (← body_is) (rw (type_past m.names body missing) refl)

-- ---- one index after another

pub Going : Items → List Index → ℕ → List Operand → Option (List Index)
Going m front of values = option_map (λ rest. front ++ rest) (inner_strides (types_of m) (type_at m.names of) values)

pub begun : (m : Items) (front : List Index) (of : ℕ) (values : List Operand) → Going m front of values ≡ option_map (λ rest. front ++ rest) (inner_strides (types_of m) (type_at m.names of) values)
unfolding Going
begun m front of values = refl

behind : (front : List Index) (i : Index) (rest : Option (List Index)) → option_map (λ r. front ++ r) (option_map (λ r. i ∷ r) rest) ≡ option_map (λ r. (front ++ i ∷ []) ++ r) rest
behind front i None = refl
behind front i (Some rest) = ap Some (sym (append_assoc front (i ∷ []) rest))

pub goes_on : (m : Items) (front : List Index) (of : ℕ) (value : Operand) (values : List Operand) (s : Found) → LeadsTo m (Some s) (stride (types_of m) (type_at m.names of) value)
    → Going m front of (value ∷ values) ≡ Going m (front ++ s.index ∷ []) s.into values
unfolding Going
goes_on m front of value values s leads = rw (← leads) (behind front s.index (inner_strides (types_of m) (type_at m.names s.into) values))

pub goes_nowhere : (m : Items) (front : List Index) (of : ℕ) (value : Operand) (values : List Operand) → LeadsTo m None (stride (types_of m) (type_at m.names of) value)
    → Going m front of (value ∷ values) ≡ None
unfolding Going
goes_nowhere m front of value values leads = rw (← leads) refl

pub gone : (m : Items) (front : List Index) (of : ℕ) → Going m front of [] ≡ Some front
unfolding Going
gone m front of = ap Some (append-nil front)

-- what is left of a list, at one of its items
pub turn : {X : Type 0} (xs : List X) (i : ℕ) (x : X) → i < length xs → x ≡ get_or xs i x → drop i xs ≡ x ∷ drop (i + 1) xs
turn xs i x lt is = rw (add-one, drop-cons xs i x, ← is) refl
