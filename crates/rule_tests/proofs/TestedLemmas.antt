-- What reading keeps, by numbers and written out.
use Rattle.std.proofs.Common.{◌≡◌, ℕ, ◌<◌, ◌≤◌, Bool, true, false, List, [], ◌∷◌, ◌++◌, map, length, refl, sym, ap, ◌∙◌, arith}
use Rattle.pv_base.specs.Limits.{live_limit}
use Rattle.std.specs.Prelude.{◌&&◌, ◌↔◌, nat_le, nat_lt, sum_by, IsTrue, Some, None}
use Rattle.std.specs.List.{list_all}
use Rattle.std.proofs.lemmas.Bool.{lt-ltb}
use Rattle.std.proofs.lemmas.Bool.Decides.{nat_tests}
use Rattle.std.proofs.Math.ListN.{length-map}
use Rattle.std.proofs.lemmas.List.Sums.{sum_by-cons}
use Rattle.std.proofs.lemmas.List.Folds.{list_all-map, list_all-append}
use Rattle.ir_tree.specs.declared.items.NamedType.{NamedType}
use Rattle.ir_tree.specs.declared.items.Global.{Global}
use Rattle.ir_tree.specs.declared.items.Function.{Function}
use Rattle.ir_tree.specs.Table.{Table, IsTable}
use Rattle.ir_tree.specs.Naming.{name_at, type_at, constant_at}
use Rattle.ir_tree.specs.Shown.{shown_named, shown_global, shown_function}
use Rattle.ir_tree.specs.Modules.{Items, types_of, layout_in}
use Rattle.ir_rules.specs.Seen.{seen}
use Rattle.ir_rules.specs.declared.fault.CheckError.{CheckError}
use Rattle.ir_rules.specs.Faults.{first_fault}
use Rattle.ir_rules.specs.Checked.{IsChecked}
use Rattle.ir_rules.specs.Numbering.{is_within}
use Rattle.ir_rules.specs.Reading.{name_stands, level_stands, address_stands, is_struct, names_differ, global_names, has_layout, size_of, global_sizes, function_stands, numbers_below, type_names, defined_names, IsWellFormed, TableStands}
use Rattle.rule_tests.proofs.ReadingLemmas.{below_all}
use Rattle.rule_tests.proofs.RowLemmas.{types_all, constants_all, names_all, all_named, definers_named, bodies_all, initialisers_all, functions_all}
use Rattle.rule_tests.specs.Tested.{table_stands, items_differ, globals_stand, module_stands}

map_map : {X Y Z V : Type 0} (f : Y → Z) (g : X → Y) (h : V → Z) (k : X → V) → ((x : X) → f (g x) ≡ h (k x)) → (xs : List X) → map f (map g xs) ≡ map h (map k xs)
map_map f g h k e [] = refl
map_map f g h k e (x ∷ xs) =
    let one : f (g x) ≡ h (k x) = e x in
    let rest : map f (map g xs) ≡ map h (map k xs) = map_map f g h k e xs in
    cc

map_append : {X Y : Type 0} (f : X → Y) (xs ys : List X) → map f (xs ++ ys) ≡ map f xs ++ map f ys
map_append f [] ys = refl
map_append f (x ∷ xs) ys = ap (λ l. f x ∷ l) (map_append f xs ys)

sum_map : {X Y : Type 0} (f : Y → ℕ) (g : X → Y) (xs : List X) → sum_by f (map g xs) ≡ sum_by (λ x. f (g x)) xs
sum_map f g [] = refl
sum_map f g (x ∷ xs) = sum_by-cons f (g x) (map g xs) ∙ rw (sum_map f g xs) (sym (sum_by-cons (λ x. f (g x)) x xs))

named_types_names : (t : Table) (ts : List (NamedType ℕ ℕ)) → map (λ n. n.name) (map (shown_named t) ts) ≡ map (name_at t) (map (λ n. n.name) ts)
named_types_names t ts = map_map (λ n. n.name) (shown_named t) (name_at t) (λ n. n.name) (λ n. refl) ts

variable_names : (t : Table) (gs : List (Global ℕ ℕ ℕ)) → map (λ g. g.name) (map (shown_global t) gs) ≡ map (name_at t) (map (λ g. g.name) gs)
variable_names t gs = map_map (λ g. g.name) (shown_global t) (name_at t) (λ g. g.name) (λ g. refl) gs

function_names : (t : Table) (fs : List (Function ℕ ℕ ℕ)) → map (λ f. f.name) (map (shown_function t) fs) ≡ map (name_at t) (map (λ f. f.name) fs)
function_names t fs = map_map (λ f. f.name) (shown_function t) (name_at t) (λ f. f.name) (λ f. refl) fs

all_names : (m : Items) → global_names (seen m) ≡ map (name_at m.names) (map (λ g. g.name) m.globals ++ map (λ f. f.name) m.functions)
all_names m = rw (variable_names m.names m.globals, function_names m.names m.functions) (sym (map_append (name_at m.names) (map (λ g. g.name) m.globals) (map (λ f. f.name) m.functions)))

pub items_are : (m : Items) → items_differ m
    ≡ (list_all (λ t. is_struct (type_at m.names t.of)) m.types && names_differ (map (name_at m.names) (map (λ t. t.name) m.types))
    && names_differ (map (name_at m.names) (map (λ g. g.name) m.globals ++ map (λ f. f.name) m.functions)))
unfolding items_differ
items_are m =
    let structs : list_all (λ t. is_struct t.of) (seen m).types ≡ list_all (λ t. is_struct (type_at m.names t.of)) m.types = list_all-map (λ t. is_struct t.of) (shown_named m.names) m.types in
    rw (structs, named_types_names m.names m.types, all_names m) refl

pub globals_are : (m : Items) → globals_stand m
    ≡ (list_all (λ g. has_layout (types_of m) (type_at m.names g.of)) m.globals && nat_le (sum_by (λ g. size_of (layout_in m g.of)) m.globals) live_limit
    && nat_lt (length m.globals) 4294967296 && nat_lt (length m.functions) 4294967296)
unfolding globals_stand
globals_are m =
    let layouts : list_all (λ g. has_layout (types_of m) g.of) (seen m).globals ≡ list_all (λ g. has_layout (types_of m) (type_at m.names g.of)) m.globals = list_all-map (λ g. has_layout (types_of m) g.of) (shown_global m.names) m.globals in
    let sizes : global_sizes (seen m) ≡ sum_by (λ g. size_of (layout_in m g.of)) m.globals = sum_map _ (shown_global m.names) m.globals in
    let globals : length (seen m).globals ≡ length m.globals = length-map m.globals (shown_global m.names) in
    let functions : length (seen m).functions ≡ length m.functions = length-map m.functions (shown_function m.names) in
    rw (layouts, sizes, globals, functions) refl

pub module_is : (m : Items) → module_stands m
    ≡ (is_within m && table_stands m && items_differ m && globals_stand m && list_all (λ f. function_stands (types_of m) (shown_function m.names f)) m.functions)
unfolding module_stands
module_is m = rw (list_all-map (function_stands (types_of m)) (shown_function m.names) m.functions) refl

-- every name that a module defines is one of its table
all_defined : (m : Items) → ((k : ℕ) → name_stands (name_at m.names k) ≡ true) → list_all name_stands (defined_names (seen m)) ≡ true
all_defined m each =
    let types : list_all name_stands (type_names (seen m)) ≡ true = rw (named_types_names m.names m.types) (all_named m.names each (map (λ t. t.name) m.types)) in
    let globals : list_all name_stands (global_names (seen m)) ≡ true = rw (all_names m) (all_named m.names each (map (λ g. g.name) m.globals ++ map (λ f. f.name) m.functions)) in
    rw (list_all-append name_stands (type_names (seen m) ++ global_names (seen m)), list_all-append name_stands (type_names (seen m)) (global_names (seen m)), types, globals) (definers_named m.names each m.functions)

-- ---- the tests and what they tell

left_true : (a b : Bool) → (a && b) ≡ true → a ≡ true
left_true true b e = refl
left_true false b e = e

right_true : (a b : Bool) → (a && b) ≡ true → b ≡ true
right_true true b e = e
right_true false b e = absurd cc

both_true : (a b : Bool) → a ≡ true → b ≡ true → (a && b) ≡ true
both_true a b e f = rw (e, f) refl

le_of : (a b : ℕ) → nat_le a b ≡ true → a ≤ b
le_of a b e = grind (arith, nat_tests)

of_le : (a b : ℕ) → a ≤ b → nat_le a b ≡ true
of_le a b e = grind (arith, nat_tests)

lt_of : (a b : ℕ) → nat_lt a b ≡ true → a < b
lt_of a b e = grind (arith, nat_tests)

module _ (m : Items) where
  -- the tests of each group, one by one
  module _ (e : module_stands m ≡ true) where
    all_true : (is_within m && table_stands m && items_differ m && globals_stand m && list_all (function_stands (seen m).types) (seen m).functions) ≡ true
    unfolding module_stands
    all_true = e

    four : (is_within m && table_stands m && items_differ m && globals_stand m) ≡ true
    four = left_true _ _ all_true

    three : (is_within m && table_stands m && items_differ m) ≡ true
    three = left_true _ _ four

    two : (is_within m && table_stands m) ≡ true
    two = left_true _ _ three

    table : (list_all name_stands m.names.names && list_all (λ k. level_stands (seen m).types (type_at m.names k)) (numbers_below (length m.names.types)) && list_all (λ k. address_stands (seen m).types (constant_at m.names k)) (numbers_below (length m.names.constants))) ≡ true
    unfolding table_stands
    table = right_true (is_within m) (table_stands m) two

    items : (list_all (λ t. is_struct t.of) (seen m).types && names_differ (map (λ t. t.name) (seen m).types) && names_differ (global_names (seen m))) ≡ true
    unfolding items_differ
    items = right_true (is_within m && table_stands m) (items_differ m) three

    globals : (list_all (λ g. has_layout (seen m).types g.of) (seen m).globals && nat_le (global_sizes (seen m)) live_limit && nat_lt (length (seen m).globals) 4294967296 && nat_lt (length (seen m).functions) 4294967296) ≡ true
    unfolding globals_stand
    globals = right_true (is_within m && table_stands m && items_differ m) (globals_stand m) four

    rows : TableStands m
    rows = record { names = left_true _ _ (left_true _ _ table); types = right_true _ _ (left_true _ _ table); constants = right_true _ _ table }

    well_formed : IsTable m.names → IsWellFormed m
    well_formed is =
        let names = names_all m.names rows.names in
        let types = types_all (seen m).types m.names is (below_all (λ k. level_stands (seen m).types (type_at m.names k)) (length m.names.types) rows.types) in
        let constants = constants_all (seen m).types m.names is (below_all (λ k. level_stands (seen m).types (type_at m.names k)) (length m.names.types) rows.types) (below_all (λ k. address_stands (seen m).types (constant_at m.names k)) (length m.names.constants) rows.constants) in
        record {
          within = left_true _ _ two;
          stands = record {
            names = all_defined m names;
            structs = left_true _ _ (left_true _ _ items);
            bodies = bodies_all (seen m).types m.names types m.types;
            type_names = right_true _ _ (left_true _ _ items);
            global_names = right_true _ _ items;
            layouts = left_true _ _ (left_true _ _ (left_true _ _ globals));
            initialisers = initialisers_all (seen m).types m.names constants m.globals;
            sizes = le_of _ _ (right_true _ _ (left_true _ _ (left_true _ _ globals)));
            globals = lt_of _ _ (right_true _ _ (left_true _ _ globals));
            function_count = lt_of _ _ (right_true _ _ globals);
            functions = right_true _ _ all_true;
            constants = functions_all (seen m).types m.names constants m.functions;
          };
        }

  tests : IsWellFormed m × TableStands m → module_stands m ≡ true
  unfolding module_stands table_stands items_differ globals_stand
  tests (w, r) =
      let v = w.stands in
      rw (w.within, r.names, r.types, r.constants, v.structs, v.type_names, v.global_names, v.layouts, of_le (global_sizes (seen m)) live_limit v.sizes, lt-ltb (length (seen m).globals) 4294967296 v.globals, lt-ltb (length (seen m).functions) 4294967296 v.function_count, v.functions) refl

  pub stands_is : IsTable m.names → IsTrue (module_stands m) ↔ (IsWellFormed m × TableStands m)
  stands_is is = (λ e. (well_formed e is, rows e), tests)

pub checked : (m : Items) (b : Bool) → b ≡ true → (IsTrue b ↔ (IsWellFormed m × TableStands m)) → None ≡ first_fault (seen m) → IsTrue true ↔ (IsChecked m × TableStands m)
checked m b e formed none = (λ h. (record { faultless = sym none; well_formed = (formed.0 e).0 }, (formed.0 e).1), λ h. refl)

pub not_formed : (m : Items) (b : Bool) → b ≡ false → (IsTrue b ↔ (IsWellFormed m × TableStands m)) → IsTrue false ↔ (IsChecked m × TableStands m)
not_formed m b e formed = (λ h. absurd cc, λ (h, r). let t : b ≡ true = formed.1 (h.well_formed, r) in absurd cc)

pub faulty : (m : Items) (fault : CheckError) → Some fault ≡ first_fault (seen m) → IsTrue false ↔ (IsChecked m × TableStands m)
faulty m fault e = (λ h. absurd cc, λ (h, r). let n : first_fault (seen m) ≡ None = h.faultless in absurd cc)
