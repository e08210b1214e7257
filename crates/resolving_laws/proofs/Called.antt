-- A function that a checked module calls by its name has a place, and is called as what it is.
use Rattle.std.proofs.Common.{◌≡◌, ℕ, suc, true, false, Bool, List, [], ◌∷◌, map, Option, Some, None, slice_get, refl, ap, subst, ◌∙◌, if◌then◌else◌, nat_eq}
use Rattle.std.specs.Prelude.{◌||◌, not, is_some, option_map, find, cond, slice_index_or}
use Rattle.std.specs.List.{list_all}
use Rattle.pv_base.specs.declared.name.Name.{Name}
use Rattle.pv_base.specs.declared.name.Name.TheVariants.{Named, Numbered}
use Rattle.pv_base.specs.declared.external.External.{External}
use Rattle.seq_calls.specs.Names.{known}
use Rattle.ir_tree.specs.declared.items.Function.{Function}
use Rattle.ir_tree.specs.Table.{Table, IsTable, same_name}
use Rattle.ir_tree.specs.Naming.{name_at}
use Rattle.ir_tree.specs.Shown.{shown_function}
use Rattle.ir_tree.specs.Modules.{Items}
use Rattle.ir_rules.specs.Seen.{FunctionV, ArgumentV, seen}
use Rattle.ir_rules.specs.Defining.{function_named}
use Rattle.ir_rules.specs.Calls.{external_of, may_call}
use Rattle.ir_rules.specs.Causes.{named_call_allowed}
use Rattle.ir_rules.specs.Numbering.{is_name, function_within}
use Rattle.ir_rules.proofs.SameLemmas.{and_both}
use Rattle.ir_code.specs.declared.op.Operand.{Operand}
use Rattle.ir_code.specs.declared.op.Op.{Op}
use Rattle.ir_code.specs.declared.op.Op.TheVariants as op
use Rattle.ir_code.specs.declared.lookups.Linkage.TheVariants as linkage
use Rattle.ir_code.specs.Places.{place_of}
use Rattle.ir_code.specs.Tables.{external_named, linkage_of_external, linkage_of}
use Rattle.ir_code.specs.Families.{call_of}
use Rattle.ir_code.specs.Coding.{tables_of}
use Rattle.resolving_laws.proofs.Callees.{index_made}
use Rattle.resolving_laws.proofs.Known.{same_number}

pub record FunctionFound (t : Table) (fs : List (Function ℕ ℕ ℕ)) (x : ℕ) (h : FunctionV) : Type 0 where
  pub place : ℕ
  pub function : Function ℕ ℕ ℕ
  pub is : place_of (map (λ f. Some f.name) fs) x ≡ Some place
  pub at : slice_get fs place ≡ Some function
  pub shows : h ≡ shown_function t function

found_if : (t : Table) (g : Function ℕ ℕ ℕ) (fs : List (Function ℕ ℕ ℕ)) (x : ℕ) (h : FunctionV) (b : Bool) → nat_eq x g.name ≡ b → (find (λ f. same_name (name_at t x) f.name) (map (shown_function t) fs) ≡ Some h → FunctionFound t fs x h)
    → cond b (Some (shown_function t g)) (find (λ f. same_name (name_at t x) f.name) (map (shown_function t) fs)) ≡ Some h → FunctionFound t (g ∷ fs) x h
found_if t g fs x h true e rest is = record { place = 0; function = g; is = ap (λ c. if c then Some 0 else option_map suc (place_of (map (λ f. Some f.name) fs) x)) e; at = refl; shows = cc }
found_if t g fs x h false e rest is =
    let r = rest is in
    record { place = suc r.place; function = r.function; is = ap (λ c. if c then Some 0 else option_map suc (place_of (map (λ f. Some f.name) fs) x)) e ∙ ap (option_map suc) r.is; at = r.at; shows = r.shows }

found_in : (t : Table) (table : IsTable t) (fs : List (Function ℕ ℕ ℕ)) (x : ℕ) (h : FunctionV) → is_name t x ≡ true → list_all (function_within t) fs ≡ true → find (λ f. same_name (name_at t x) f.name) (map (shown_function t) fs) ≡ Some h → FunctionFound t fs x h
found_in t table [] x h own within e = absurd cc
found_in t table (g ∷ fs) x h own within e =
    let w = and_both (function_within t g) (list_all (function_within t) fs) within in
    let n = (and_both _ _ (and_both _ _ (and_both _ _ w.0).0).0).0 in
    let same = same_number t table x g.name own n in
    found_if t g fs x h (nat_eq x g.name) refl (found_in t table fs x h own w.1)
    (ap (λ b. cond b (Some (shown_function t g)) (find (λ f. same_name (name_at t x) f.name) (map (shown_function t) fs))) same ∙ e)

-- ---- how it is called

module _ (to : Option ℕ) (values : List Operand) (k : ℕ) (g : FunctionV) (arguments : List ArgumentV) where
  known_some : (o : Option External) → may_call g o arguments ≡ true → (p : Op) × (call_of to values k (linkage_of_external o) ≡ Some p)
  known_some None e = absurd cc
  known_some (Some x) e = (op.CallExternal to x values, refl)

  external_some : (n : Name) → may_call g (external_of n) arguments ≡ true → (p : Op) × (call_of to values k (linkage_of_external (external_named n)) ≡ Some p)
  external_some (Named bytes) e = known_some (known bytes) e
  external_some (Numbered i) e = absurd cc

  called_if : (n : Name) (b : Bool) → (not b || may_call g (external_of n) arguments) ≡ true → (p : Op) × (call_of to values k (if b then linkage_of_external (external_named n) else linkage.Defined) ≡ Some p)
  called_if n false e = (op.Call to k values, refl)
  called_if n true e = external_some n e

pub called_some : (m : Items) (to : Option ℕ) (values : List Operand) (x : ℕ) (h : FunctionV) (arguments : List ArgumentV) (r : FunctionFound m.names m.functions x h) → named_call_allowed (Some h) arguments ≡ true
    → (p : Op) × (call_of to values r.place (slice_index_or (tables_of m).linkages r.place linkage.Unknown) ≡ Some p)
called_some m to values x h arguments r e =
    let allowed : named_call_allowed (Some (shown_function m.names r.function)) arguments ≡ true = subst (λ g. named_call_allowed (Some g) arguments ≡ true) r.shows e in
    let c = called_if to values r.place (shown_function m.names r.function) arguments (name_at m.names r.function.name) r.function.declared allowed in
    (c.0, ap (call_of to values r.place) (index_made (linkage_of m.names) m.functions r.place r.function linkage.Unknown r.at) ∙ c.1)

some_found : (m : Items) (o : Option FunctionV) (x : ℕ) (arguments : List ArgumentV) → function_named (seen m) (name_at m.names x) ≡ o → is_some o ≡ true → named_call_allowed o arguments ≡ true
    → (h : FunctionV) × (function_named (seen m) (name_at m.names x) ≡ Some h) × (named_call_allowed (Some h) arguments ≡ true)
some_found m None x arguments e some allowed = absurd cc
some_found m (Some h) x arguments e some allowed = (h, e, allowed)

pub record CallFound (m : Items) (to : Option ℕ) (values : List Operand) (x : ℕ) : Type 0 where
  pub place : ℕ
  pub op : Op
  pub at : place_of (tables_of m).functions x ≡ Some place
  pub is : call_of to values place (slice_index_or (tables_of m).linkages place linkage.Unknown) ≡ Some op

pub call_found : (m : Items) (to : Option ℕ) (values : List Operand) (x : ℕ) (arguments : List ArgumentV) → IsTable m.names → list_all (function_within m.names) m.functions ≡ true → is_name m.names x ≡ true
    → is_some (function_named (seen m) (name_at m.names x)) ≡ true → named_call_allowed (function_named (seen m) (name_at m.names x)) arguments ≡ true → CallFound m to values x
call_found m to values x arguments table within own some allowed =
    let h = some_found m (function_named (seen m) (name_at m.names x)) x arguments refl some allowed in
    let r = found_in m.names table m.functions x h.0 own within h.1 in
    let c = called_some m to values x h.0 arguments r h.2 in
    record { place = r.place; op = c.0; at = r.is; is = c.1 }
