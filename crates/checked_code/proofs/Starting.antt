-- The code of a checked module starts somewhere.
use Rattle.std.proofs.Common.{◌≡◌, ℕ, zero, suc, ◌+◌, ◌<◌, ◌≤◌, Bool, true, false, List, [], ◌∷◌, ◌++◌, map, length, Option, Some, None, slice_get, refl, sym, ap, ◌∙◌, arith, ◌⊎◌, inl, inr}
use Rattle.std.specs.Prelude.{not, ◌||◌, ◌&&◌, is_some, option_and_then, option_map, unwrap_or, slice_index_or, codes}
use Rattle.std.specs.List.{range_with_len, flat_map, filter_map}
use Rattle.std.proofs.lemmas.List.{map-append}
use Rattle.std.proofs.lemmas.Option.{slice_get-map}
use Rattle.ir_tree.specs.declared.nodes.TypeNode.{TypeNode}
use Rattle.ir_tree.specs.declared.nodes.TypeNode.TheVariants as node
use Rattle.ir_tree.specs.declared.items.Param.{Param}
use Rattle.ir_tree.specs.declared.items.Function.{Function}
use Rattle.pv_base.specs.declared.name.Name.TheVariants.{Named}
use Rattle.ir_tree.specs.Table.{Table, IsTable, same_name}
use Rattle.ir_tree.specs.Trees.{TypeV, IntV, PtrV}
use Rattle.ir_tree.specs.Naming.{name_at, type_at}
use Rattle.ir_tree.specs.Shown.{shown_function}
use Rattle.ir_tree.specs.Modules.{Items}
use Rattle.ir_code.specs.declared.registers.Register.{Register}
use Rattle.ir_code.specs.declared.op.Scalar.TheVariants as scalar
use Rattle.ir_code.specs.Tables.{Tables, scalar_of, scalar_at, scalar_or_pointer}
use Rattle.ir_code.specs.Blocks.{parameter_of, registers_of, result_of, targets_of, edges_of, block_of, blocks_from}
use Rattle.ir_code.specs.Coding.{scalar_in, tables_of, scope_of, function_of, is_main as is_main_at, code_of}
use Rattle.ir_code.proofs.Fits.{ops_counted}
use Rattle.ir_rules.specs.Seen.{FunctionV, seen}
use Rattle.ir_rules.specs.Same.{same_type}
use Rattle.ir_rules.specs.Calls.{params_fit, param_types}
use Rattle.ir_rules.specs.Causes.{is_main, main_of, has_main_type, main_fits}
use Rattle.ir_rules.specs.Checked.{IsChecked}
use Rattle.ir_rules.proofs.SameLemmas.{and_both, type_is_same}
use Rattle.ir_rules.proofs.TypeLemmas.{shape, type_shape}
use Rattle.ir_rules.proofs.OuterLemmas.{params_shown}
use Rattle.checked_code.specs.Starting.{AreMainTypes, Starts}
use Rattle.checked_code.proofs.Faults.{found_passes, terminator_none, has_main, main_typed}
use Rattle.checked_code.proofs.Entry.{first, placed, main_shown, entered}

-- ---- types by their numbers

looked : {X : Type 0} (f : ℕ → Option X) (a n k : ℕ) → k < n → slice_index_or (map f (range_with_len a n)) k None ≡ f (a + k)
looked f a zero k lt = absurd (omega arith)
looked f a (suc n) zero lt = let e : a + 0 ≡ a = omega arith in rw e refl
looked f a (suc n) (suc k) lt = let e : a + suc k ≡ (a + 1) + k = omega arith in rw e (looked f (a + 1) n k (omega arith))

past : {X : Type 0} (f : ℕ → Option X) (a n k : ℕ) → n ≤ k → slice_index_or (map f (range_with_len a n)) k None ≡ None
past f a zero k le = refl
past f a (suc n) zero le = absurd (omega arith)
past f a (suc n) (suc k) le = past f (a + 1) n k (omega arith)

get_none : {X : Type 0} (xs : List X) (k : ℕ) → length xs ≤ k → slice_get xs k ≡ None
get_none [] k le = refl
get_none (x ∷ xs) zero le = absurd (omega arith)
get_none (x ∷ xs) (suc k) le = get_none xs k (omega arith)

scalar_is : (m : Items) (k : ℕ) → scalar_at (tables_of m) k ≡ scalar_in m.names k
scalar_is m k = split (cases_lt k (length m.names.types))
  where
    cases_lt : (a b : ℕ) → (a < b) ⊎ (b ≤ a)
    cases_lt zero zero = inr (omega arith)
    cases_lt zero (suc b) = inl (omega arith)
    cases_lt (suc a) zero = inr (omega arith)
    cases_lt (suc a) (suc b) = elim (cases_lt a b) [ inl lt ↦ inl (omega arith) | inr le ↦ inr (omega arith) ]

    split : (k < length m.names.types) ⊎ (length m.names.types ≤ k) → scalar_at (tables_of m) k ≡ scalar_in m.names k
    split (inl lt) = let e : 0 + k ≡ k = omega arith in looked (scalar_in m.names) 0 (length m.names.types) k lt ∙ ap (scalar_in m.names) e
    split (inr le) = past (scalar_in m.names) 0 (length m.names.types) k le ∙ sym (ap (option_and_then scalar_of) (get_none m.names.types k le))

node_int : (t : Table) (w : ℕ) (o : Option TypeNode) → shape t o ≡ IntV w → option_and_then scalar_of o ≡ Some (scalar.Int w)
node_int t w None e = absurd cc
node_int t w (Some (node.Int v)) e = let same : v ≡ w = cc in ap (λ n. Some (scalar.Int n)) same
node_int t w (Some node.Ptr) e = absurd cc
node_int t w (Some node.Void) e = absurd cc
node_int t w (Some (node.Array n k)) e = absurd cc
node_int t w (Some (node.Struct p ks)) e = absurd cc
node_int t w (Some (node.Named x)) e = absurd cc

node_pointer : (t : Table) (o : Option TypeNode) → shape t o ≡ PtrV → unwrap_or (option_and_then scalar_of o) scalar.Pointer ≡ scalar.Pointer
node_pointer t None e = refl
node_pointer t (Some (node.Int v)) e = absurd cc
node_pointer t (Some node.Ptr) e = refl
node_pointer t (Some node.Void) e = absurd cc
node_pointer t (Some (node.Array n k)) e = absurd cc
node_pointer t (Some (node.Struct p ks)) e = absurd cc
node_pointer t (Some (node.Named x)) e = absurd cc

int_is : (m : Items) (k w : ℕ) → IsTable m.names → type_at m.names k ≡ IntV w → scalar_at (tables_of m) k ≡ Some (scalar.Int w)
int_is m k w table e = scalar_is m k ∙ node_int m.names w (slice_get m.names.types k) (sym (type_shape m.names k table) ∙ e)

pointer_is : (m : Items) (k : ℕ) → IsTable m.names → type_at m.names k ≡ PtrV → scalar_or_pointer (tables_of m) k ≡ scalar.Pointer
pointer_is m k table e = ap (λ o. unwrap_or o scalar.Pointer) (scalar_is m k) ∙ node_pointer m.names (slice_get m.names.types k) (sym (type_shape m.names k table) ∙ e)

-- ---- the parameters of `main`

or_true : (a b : Bool) → (a || b) ≡ true → (a ≡ true) ⊎ (b ≡ true)
or_true true b e = inl refl
or_true false b e = inr e

none_fit : (ps : List TypeV) → params_fit false [] ps ≡ true → ps ≡ []
unfolding params_fit
none_fit [] e = refl
none_fit (p ∷ ps) e = absurd cc

two_fit : (ps : List TypeV) → params_fit false (IntV 32 ∷ PtrV ∷ []) ps ≡ true → ps ≡ IntV 32 ∷ PtrV ∷ []
unfolding params_fit
two_fit [] e = absurd cc
two_fit (p ∷ []) e = let h = and_both (same_type (IntV 32) p) false e in absurd cc
two_fit (p ∷ q ∷ []) e =
    let h = and_both (same_type (IntV 32) p) (same_type PtrV q && true) e in
    let g = and_both (same_type PtrV q) true h.1 in
    let a : IntV 32 ≡ p = type_is_same (IntV 32) p h.0 in
    let b : PtrV ≡ q = type_is_same PtrV q g.0 in
    cc
two_fit (p ∷ q ∷ r ∷ rest) e =
    let h = and_both (same_type (IntV 32) p) (same_type PtrV q && false) e in
    let g = and_both (same_type PtrV q) false h.1 in
    absurd cc

no_parameters : (m : Items) (ps : List (Param ℕ ℕ)) → map (λ p. type_at m.names p.of) ps ≡ [] → map (λ p. scalar_or_pointer (tables_of m) p.of) ps ≡ []
no_parameters m [] e = refl
no_parameters m (p ∷ ps) e = absurd cc

two_parameters : (m : Items) (ps : List (Param ℕ ℕ)) → IsTable m.names → map (λ p. type_at m.names p.of) ps ≡ IntV 32 ∷ PtrV ∷ [] → map (λ p. scalar_or_pointer (tables_of m) p.of) ps ≡ scalar.Int 32 ∷ scalar.Pointer ∷ []
two_parameters m [] table e = absurd cc
two_parameters m (p ∷ []) table e = absurd cc
two_parameters m (p ∷ q ∷ r ∷ rest) table e = absurd cc
two_parameters m (p ∷ q ∷ []) table e =
    let a : type_at m.names p.of ≡ IntV 32 = cc in
    let b : type_at m.names q.of ≡ PtrV = cc in
    let c : scalar_or_pointer (tables_of m) p.of ≡ scalar.Int 32 = ap (λ o. unwrap_or o scalar.Pointer) (int_is m p.of 32 table a) in
    let d : scalar_or_pointer (tables_of m) q.of ≡ scalar.Pointer = pointer_is m q.of table b in
    rw (c, d) refl

-- ---- all of it

some_of : {A : Type 0} (o : Option A) → is_some o ≡ true → (a : A) × (o ≡ Some a)
some_of None e = absurd cc
some_of (Some a) e = (a, refl)

main_parameters : (m : Items) (f : Function ℕ ℕ ℕ) → IsTable m.names
    → (params_fit false [] (param_types (shown_function m.names f)) || params_fit false (IntV 32 ∷ PtrV ∷ []) (param_types (shown_function m.names f))) ≡ true
    → AreMainTypes (map (λ p. scalar_or_pointer (tables_of m) p.of) f.params)
main_parameters m f table fit = elim (or_true _ _ fit) [
  | inl none ↦ inl (no_parameters m f.params (sym (params_shown m.names f) ∙ none_fit (param_types (shown_function m.names f)) none))
  | inr two ↦ inr (two_parameters m f.params table (sym (params_shown m.names f) ∙ two_fit (param_types (shown_function m.names f)) two))
]

-- where the registers of parameters stand
own_registers : (t : Tables) (f : Function ℕ ℕ ℕ) → map (λ r. r.of) (registers_of t f)
    ≡ map (λ p. scalar_or_pointer t p.of) f.params ++ map (λ r. r.of) (flat_map (λ b. filter_map (result_of t) b.instructions) f.blocks)
own_registers t f = map-append (λ (r : Register). r.of) (map (parameter_of t) f.params) (flat_map (λ b. filter_map (result_of t) b.instructions) f.blocks) ∙ ap (λ xs. xs ++ map (λ (r : Register). r.of) (flat_map (λ b. filter_map (result_of t) b.instructions) f.blocks)) (params_of f.params)
  where
    params_of : (ps : List (Param ℕ ℕ)) → map (λ r. r.of) (map (parameter_of t) ps) ≡ map (λ p. scalar_or_pointer t p.of) ps
    params_of [] = refl
    params_of (p ∷ ps) = ap (λ xs. scalar_or_pointer t p.of ∷ xs) (params_of ps)

starts_with : (m : Items) (y : FunctionV) → IsTable m.names → IsChecked m → main_of (seen m) ≡ Some y → Starts (code_of m)
unfolding code_of function_of
starts_with m y table checked is =
    let r = first is_main (is_main_at m.names) (shown_function m.names) (main_shown m.names) m.functions y is in
    let f = r.item in
    let t = tables_of m in
    let s = scope_of t f in
    let main : is_main (shown_function m.names f) ≡ true = ap is_main r.shows ∙ found_passes is_main (seen m).functions y is in
    let there : slice_get (seen m).functions r.place ≡ Some (shown_function m.names f) = slice_get-map (shown_function m.names) m.functions r.place ∙ ap (option_map (shown_function m.names)) r.at in
    let e = entered (seen m) m.names f (not_declared f.declared (and_both (not f.declared) (same_name (Named (codes "main")) (name_at m.names f.name)) main).0) (λ k le. terminator_none (seen m) checked.faultless r.place (shown_function m.names f) k there le) in
    let type_of : has_main_type y ≡ true = ap main_fits (sym is) ∙ main_typed (seen m) checked.faultless in
    let own : has_main_type (shown_function m.names f) ≡ true = ap has_main_type r.shows ∙ type_of in
    let parts = and_both _ _ own in
    let front = and_both _ _ parts.0 in
    let ops = ops_counted m t s (record { first = 0; targets = targets_of (edges_of t s e.block) }) e.block.instructions _ refl in
    let room = e.room in
    record {
      number = r.place;
      function = function_of m t f;
      entry = block_of m t s 0 0 e.block;
      others = map (λ r. r.of) (flat_map (λ b. filter_map (result_of t) b.instructions) f.blocks);
      main = placed (is_main_at m.names) (shown_function m.names) m.functions y r;
      found = slice_get-map (function_of m t) m.functions r.place ∙ ap (option_map (function_of m t)) r.at;
      first = ap (λ bs. slice_get (blocks_from m t s 0 0 bs) 0) e.is;
      room = omega (arith, ops, room);
      parameters = main_parameters m f table parts.1;
      registers = own_registers t f;
      result = int_is m f.result 32 table (type_is_same (type_at m.names f.result) (IntV 32) front.0);
    }
  where
    not_declared : (b : Bool) → not b ≡ true → b ≡ false
    not_declared true h = absurd cc
    not_declared false h = refl

pub starts : (m : Items) → IsTable m.names → IsChecked m → Starts (code_of m)
starts m table checked = let y = some_of (main_of (seen m)) (has_main (seen m) checked.faultless) in starts_with m y.0 table checked y.1
