-- Where an index into the fields of a struct leads.
use Rattle.std.proofs.Common.{◌≡◌, ℕ, zero, suc, ◌<◌, ◌≤◌, length, get_or, List, [], ◌∷◌, Option, Some, None, slice_get, refl, sym, ap, ◌∙◌}
use Rattle.std.proofs.lemmas.Option.{slice_get_past, slice_get-get_or}
use Rattle.std.specs.Prelude.{option_map, option_and_then}
use Rattle.ir_tree.specs.Table.{Table}
use Rattle.pv_base.specs.declared.name.Name.{Name}
use Rattle.ir_tree.specs.declared.items.NamedType.{NamedType}
use Rattle.ir_tree.specs.Trees.{TypeV, IntV, PtrV, VoidV, ArrayV, StructV, NamedV}
use Rattle.ir_tree.specs.Layouts.{struct_fields, fields_of, opened}
use Rattle.ir_tree.specs.Naming.{type_at, types_at}
use Rattle.ir_rules.specs.declared.given.Walk.{Walk}
use Rattle.ir_rules.specs.declared.given.Walk.TheVariants.{Through, Outside}
use Rattle.ir_rules.specs.Indexing.{field_at}

abbrev pub found_field : Table → Option ℕ → Walk TypeV
found_field t None = Outside
found_field t (Some k) = Through (type_at t k)

pub field_is : (t : Table) (fields : List ℕ) (n : ℕ) → field_at (types_at t fields) n ≡ found_field t (slice_get fields n)
field_is t [] n = refl
field_is t (k ∷ rest) zero = refl
field_is t (k ∷ rest) (suc n) = field_is t rest n

pub field_inside : (t : Table) (fields : List ℕ) (n : ℕ) → n < length fields → Through (type_at t (get_or fields n 0)) ≡ field_at (types_at t fields) n
field_inside t fields n lt = sym (field_is t fields n ∙ ap (found_field t) (slice_get-get_or fields n 0 lt))

pub field_outside : (t : Table) (fields : List ℕ) (n : ℕ) → length fields ≤ n → Outside ≡ field_at (types_at t fields) n
field_outside t fields n le = sym (field_is t fields n ∙ ap (found_field t) (slice_get_past fields n le))

-- the fields of a type are those of what it is a name of
fields_opened : (types : List (NamedType Name TypeV)) (type : TypeV) → fields_of types type ≡ option_and_then struct_fields (opened types type)
fields_opened types (IntV w) = refl
fields_opened types PtrV = refl
fields_opened types VoidV = refl
fields_opened types (ArrayV n of) = refl
fields_opened types (StructV packed fields) = refl
fields_opened types (NamedV name) = refl

pub fields_some : (t : Table) (types : List (NamedType Name TypeV)) (type : TypeV) (o : Option ℕ) (body : ℕ) → option_map (type_at t) o ≡ opened types type → o ≡ Some body → struct_fields (type_at t body) ≡ fields_of types type
fields_some t types type o body is e =
    let here : Some (type_at t body) ≡ opened types type = ap (option_map (type_at t)) (sym e) ∙ is in
    sym (fields_opened types type ∙ ap (option_and_then struct_fields) (sym here))

pub fields_none : (t : Table) (types : List (NamedType Name TypeV)) (type : TypeV) (o : Option ℕ) → option_map (type_at t) o ≡ opened types type → o ≡ None → fields_of types type ≡ None
fields_none t types type o is e =
    let here : opened types type ≡ None = sym is ∙ ap (option_map (type_at t)) e in
    fields_opened types type ∙ ap (option_and_then struct_fields) here
