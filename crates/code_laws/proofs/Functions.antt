-- Functions and the code of a module, by numbers and written out.
use Rattle.std.proofs.Common.{◌≡◌, ℕ, ◌+◌, Bool, true, List, [], ◌∷◌, ◌++◌, map, length, Some, None, refl, sym, ap, ◌∙◌}
use Rattle.std.specs.Prelude.{option_map, position, not, cond, nat_lt}
use Rattle.std.specs.List.{AllByRecursion, flat_map, prefix_len}
use Rattle.std.proofs.lemmas.List.{length-map}
use Rattle.ir_tree.specs.declared.items.Block.{Block}
use Rattle.ir_tree.specs.declared.items.Function.{Function}
use Rattle.ir_tree.specs.Table.{IsTable}
use Rattle.ir_tree.specs.Naming.{name_at}
use Rattle.ir_tree.specs.Shown.{shown_param, shown_block, shown_function}
use Rattle.ir_tree.specs.Modules.{Items}
use Rattle.ir_tree.specs.Written.{shown_module}
use Rattle.ir_rules.specs.Numbering.{block_within, function_within, is_within}
use Rattle.ir_rules.proofs.SameLemmas.{and_both}
use Rattle.ir_code.specs.Blocks.{Scope, joins_of, edges_of}
use Rattle.ir_code.specs.Tables.{scalar_or_pointer, external_of, linkage_of}
use Rattle.ir_code.specs.Coding.{tables_of, scope_of, function_of, is_main, code_of}
use Rattle.code_laws.specs.Meanings.{scalar_or_ptr}
use Rattle.code_laws.specs.Coded.{ScopeV, phis_of, written_scope, block_edges, blocks_code, function_code, defines_main, module_code}
use Rattle.code_laws.proofs.Steps.{map_same}
use Rattle.code_laws.proofs.Leaves.{scalar_same}
use Rattle.code_laws.proofs.Values.{scalar_or_same, FunctionParts, function_parts, ItemsWithin, items_within}
use Rattle.code_laws.proofs.Registers.{map_whole, all_mapped, names_shown, types_shown, block_instructions, names_within}
use Rattle.code_laws.proofs.Phis.{phi_shown, phis_same, JoinParts, joins_within}
use Rattle.code_laws.proofs.Edges.{shown_scope, ScopeParts, parts_of, edges_same, blocks_same}

flat_by : {X Y B : Type 0} (P : X → Type 0) (f : X → List B) (g : Y → List B) (h : X → Y) → ((x : X) → P x → f x ≡ g (h x)) → (xs : List X) → AllByRecursion P xs → flat_map f xs ≡ flat_map g (map h xs)
flat_by P f g h e [] all = refl
flat_by P f g h e (x ∷ xs) all = λ j. e x all.0 j ++ flat_by P f g h e xs all.1 j

prefix_same : {X Y : Type 0} (p : X → Bool) (q : Y → Bool) (h : X → Y) → ((x : X) → p x ≡ q (h x)) → (xs : List X) → prefix_len (λ x. not (p x)) xs ≡ prefix_len (λ y. not (q y)) (map h xs)
prefix_same p q h e [] = refl
prefix_same p q h e (x ∷ xs) = λ j. cond (not (e x j)) (1 + prefix_same p q h e xs j) 0

pub position_same : {X Y : Type 0} (p : X → Bool) (q : Y → Bool) (h : X → Y) → ((x : X) → p x ≡ q (h x)) → (xs : List X) → position p xs ≡ position q (map h xs)
position_same p q h e xs =
    let size : length xs ≡ length (map h xs) = sym (length-map xs h) in
    λ j. cond (nat_lt (prefix_same p q h e xs j) (size j)) (Some (prefix_same p q h e xs j)) None

module _ (m : Items) (is : IsTable m.names) (within : ItemsWithin m) where
  scope_parts : (f : Function ℕ ℕ ℕ) → FunctionParts m.names f → ScopeParts m.names (scope_of (tables_of m) f)
  scope_parts f parts = record {
    registers = names_within m.names (tables_of m) f parts;
    labels = all_mapped (λ b. block_within m.names b ≡ true) _ (λ b. Some b.label) (λ b e. (and_both _ _ e).0) f.blocks parts.blocks;
    joins = all_mapped (λ b. block_within m.names b ≡ true) (λ js. AllByRecursion (JoinParts m.names) js) (λ b. joins_of b.instructions)
        (λ b e. joins_within m.names b.instructions (parts_of m.names b.instructions (block_instructions m.names b e))) f.blocks parts.blocks;
  }

  labels_shown : (bs : List (Block ℕ ℕ ℕ)) → map (option_map (name_at m.names)) (map (λ b. Some b.label) bs) ≡ map (λ b. Some b.label) (map (shown_block m.names) bs)
  labels_shown bs = sym (map_whole _ _ (λ b. Some b.label) (λ b. refl) bs) ∙ map_whole (λ b. Some (name_at m.names b.label)) (λ b. Some b.label) (shown_block m.names) (λ b. refl) bs

  joins_shown : (bs : List (Block ℕ ℕ ℕ)) → map (map (phi_shown m.names)) (map (λ b. joins_of b.instructions) bs) ≡ map (λ b. phis_of b.instructions) (map (shown_block m.names) bs)
  joins_shown bs =
      sym (map_whole (λ b. map (phi_shown m.names) (joins_of b.instructions)) _ (λ b. joins_of b.instructions) (λ b. refl) bs)
      ∙ map_whole (λ b. map (phi_shown m.names) (joins_of b.instructions)) (λ b. phis_of b.instructions) (shown_block m.names) (λ b. sym (phis_same m.names b.instructions)) bs

  scope_same : (f : Function ℕ ℕ ℕ) → shown_scope m.names (scope_of (tables_of m) f) ≡ written_scope (shown_function m.names f)
  unfolding shown_scope
  scope_same f = λ j. record { registers = names_shown m is f j; labels = labels_shown f.blocks j; phis = joins_shown f.blocks j }

  pub function_same : (f : Function ℕ ℕ ℕ) → function_within m.names f ≡ true → function_of m (tables_of m) f ≡ function_code (shown_module m) (shown_function m.names f)
  unfolding function_of function_code
  function_same f e =
      let parts = function_parts m.names f e in
      let s : Scope = scope_of (tables_of m) f in
      let are = scope_parts f parts in
      let parameters = map_whole (λ p. scalar_or_pointer (tables_of m) p.of) (λ p. scalar_or_ptr p.of) (shown_param m.names) (λ p. scalar_or_same m p.of is) f.params in
      let blocks = blocks_same m is within s are 0 0 f.blocks parts.blocks ∙ ap (λ (r : ScopeV). blocks_code (shown_module m) r 0 0 (map (shown_block m.names) f.blocks)) (scope_same f) in
      let edges = flat_by (λ b. block_within m.names b ≡ true) (edges_of (tables_of m) s) (block_edges (shown_module m) (shown_scope m.names s)) (shown_block m.names) (edges_same m is within s are) f.blocks parts.blocks
      ∙ ap (λ (r : ScopeV). flat_map (block_edges (shown_module m) r) (map (shown_block m.names) f.blocks)) (scope_same f) in
      λ j. record {
        parameters = parameters j;
        result = scalar_same m is f.result parts.result j;
        registers = types_shown m is f j;
        blocks = blocks j;
        edges = edges j;
        external = external_of (linkage_of m.names f);
        declared = f.declared;
      }

-- the code of a module is that of the module written out
pub code_same : (m : Items) → IsTable m.names → is_within m ≡ true → code_of m ≡ module_code (shown_module m)
unfolding code_of module_code
code_same m is e =
    let within = items_within m e in
    let functions = map_same (λ f. function_within m.names f ≡ true) (function_of m (tables_of m)) (function_code (shown_module m)) (shown_function m.names) (function_same m is within) m.functions within.functions in
    let main = position_same (is_main m.names) defines_main (shown_function m.names) (λ f. refl) m.functions in
    λ j. record { functions = functions j; main = main j }
