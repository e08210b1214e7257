-- The edges and the instructions of a block, by numbers and written out.
use Rattle.std.proofs.Common.{◌≡◌, ℕ, zero, suc, ◌+◌, true, List, [], ◌∷◌, ◌++◌, map, length, drop, replicate, get_or, Option, Some, None, refl, sym, ap, ◌∙◌}
use Rattle.std.specs.Prelude.{option_map, fold, unwrap_or, is_some, slice_index_or, if◌then◌else◌}
use Rattle.std.specs.Option.{option_map_or}
use Rattle.std.specs.List.{AllByRecursion, flat_map, drop-map}
use Rattle.std.proofs.Math.ListN as lists
use Rattle.std.proofs.lemmas.List.{length-map}
use Rattle.ir_tree.specs.declared.instruction.Instruction.{Instruction}
use Rattle.ir_tree.specs.declared.items.Block.{Block}
use Rattle.ir_tree.specs.Table.{Table, IsTable}
use Rattle.ir_tree.specs.Naming.{name_at}
use Rattle.ir_tree.specs.Shown.{shown, shown_block}
use Rattle.ir_tree.specs.Modules.{Items}
use Rattle.ir_tree.specs.Written.{shown_module}
use Rattle.ir_rules.specs.Numbering.{name_within, block_within, instruction_within}
use Rattle.ir_rules.proofs.SameLemmas.{and_both}
use Rattle.ir_code.specs.declared.op.Op.TheVariants as op
use Rattle.ir_code.specs.declared.code.Edge.{Edge}
use Rattle.ir_code.specs.Places.{place_of, exit_at}
use Rattle.ir_code.specs.Options.{every}
use Rattle.ir_code.specs.Blocks.{Join, Scope, joins_of, exits_of, targets_of, move_of, edge_to, with_target, with_exit, edges_of, op_of, ops_of, block_of, blocks_from}
use Rattle.ir_code.specs.Coding.{tables_of}
use Rattle.code_laws.specs.Ops.{op_in}
use Rattle.code_laws.specs.Coded.{ScopeV, phis_of, exit_to, move_from, edge_from, with_edge, with_label, block_edges, block_ops, block_code, blocks_code}
use Rattle.code_laws.proofs.Steps.{bind_same, every_same, map_same, all_then}
use Rattle.code_laws.proofs.Leaves.{place_same}
use Rattle.code_laws.proofs.Values.{ItemsWithin}
use Rattle.code_laws.proofs.Parts.{IsName, InstructionParts, instruction_parts}
use Rattle.code_laws.proofs.Instructions.{resolved_same}
use Rattle.code_laws.proofs.Registers.{block_instructions}
use Rattle.code_laws.proofs.Phis.{exits_shown, exits_within, phi_shown, phis_same, JoinParts, move_same}

-- ---- lists

all_at : {X : Type 0} (P : X → Type 0) (xs : List X) (k : ℕ) (d : X) → AllByRecursion P xs → P d → P (get_or xs k d)
all_at P [] k d all e = e
all_at P (x ∷ xs) zero d all e = all.0
all_at P (x ∷ xs) (suc k) d all e = all_at P xs k d all.1 e

all_drop : {X : Type 0} (P : X → Type 0) (n : ℕ) (xs : List X) → AllByRecursion P xs → AllByRecursion P (drop n xs)
all_drop P zero xs all = all
all_drop P (suc n) [] all = tt
all_drop P (suc n) (x ∷ xs) all = all_drop P n xs all.1

fold_same : {X Y B : Type 0} (P : X → Type 0) (f : B → X → B) (g : B → Y → B) (h : X → Y) → ((b : B) (x : X) → P x → f b x ≡ g b (h x)) → (b : B) (xs : List X) → AllByRecursion P xs → fold f b xs ≡ fold g b (map h xs)
fold_same P f g h e b [] all = refl
fold_same P f g h e b (x ∷ xs) all = fold_same P f g h e (f b x) xs all.1 ∙ ap (λ c. fold g c (map h xs)) (e b x all.0)

or_same : {X B : Type 0} (f g : X → B) (o p : Option X) (d : B) → o ≡ p → ((x : X) → f x ≡ g x) → option_map_or f o d ≡ option_map_or g p d
or_same f g None p d e h = ap (λ q. option_map_or g q d) e
or_same f g (Some x) p d e h = h x ∙ ap (λ q. option_map_or g q d) e

-- ---- a function's scope, written out

unfoldable pub shown_scope : Table → Scope → ScopeV
shown_scope t s = record { registers = map (option_map (name_at t)) s.registers; labels = map (option_map (name_at t)) s.labels; phis = map (map (phi_shown t)) s.joins }

-- the numbers of a scope are of the table
pub record ScopeParts (t : Table) (s : Scope) : Type 0 where
  pub registers : AllByRecursion (λ o. name_within t o ≡ true) s.registers
  pub labels : AllByRecursion (λ o. name_within t o ≡ true) s.labels
  pub joins : AllByRecursion (λ js. AllByRecursion (JoinParts t) js) s.joins

pub parts_of : (t : Table) (is : List (Instruction ℕ ℕ ℕ)) → AllByRecursion (λ i. instruction_within t i ≡ true) is → AllByRecursion (InstructionParts t) is
parts_of t is all = all_then (λ i. instruction_within t i ≡ true) (InstructionParts t) (instruction_parts t) is all

module _ (m : Items) (is : IsTable m.names) (within : ItemsWithin m) (s : Scope) (parts : ScopeParts m.names s) where
  edge_same : (label : ℕ) → IsName m.names label → (to : ℕ) → edge_to (tables_of m) s label to ≡ edge_from (shown_module m) (shown_scope m.names s) (name_at m.names label) to
  unfolding shown_scope
  edge_same label e to =
      let joins : List Join = slice_index_or s.joins to [] in
      let there : slice_index_or (map (map (phi_shown m.names)) s.joins) to [] ≡ map (phi_shown m.names) joins = lists.get_or-map (map (phi_shown m.names)) s.joins to [] in
      let moves : every (move_of (tables_of m) s.registers label) joins ≡ every (move_from (shown_module m) (map (option_map (name_at m.names)) s.registers) (name_at m.names label)) (map (phi_shown m.names) joins) =
      every_same (JoinParts m.names) _ _ (phi_shown m.names) (λ p f. move_same m is within s.registers parts.registers label e p f) joins (all_at (λ js. AllByRecursion (JoinParts m.names) js) s.joins to [] parts.joins tt) in
      ap (option_map (λ all. record { to = to; moves = all })) (moves ∙ ap (every (move_from (shown_module m) (map (option_map (name_at m.names)) s.registers) (name_at m.names label))) (sym there))

  target_same : (label : ℕ) → IsName m.names label → (edges : List Edge) (to : ℕ) → with_target (tables_of m) s label edges to ≡ with_edge (shown_module m) (shown_scope m.names s) (name_at m.names label) edges to
  target_same label e edges to = ap (λ o. if is_some (place_of (targets_of edges) to) then edges else option_map_or (λ x. edges ++ x ∷ []) o edges) (edge_same label e to)

  label_same : (label : ℕ) → IsName m.names label → (edges : List Edge) (exit : ℕ) → IsName m.names exit → with_exit (tables_of m) s label edges exit ≡ with_label (shown_module m) (shown_scope m.names s) (name_at m.names label) edges (name_at m.names exit)
  unfolding shown_scope
  label_same label e edges exit f = or_same _ _ _ _ edges (place_same m.names is s.labels exit parts.labels f) (λ to. target_same label e edges to)

  pub edges_same : (b : Block ℕ ℕ ℕ) → block_within m.names b ≡ true → edges_of (tables_of m) s b ≡ block_edges (shown_module m) (shown_scope m.names s) (shown_block m.names b)
  edges_same b e =
      let all : AllByRecursion (InstructionParts m.names) b.instructions = parts_of m.names b.instructions (block_instructions m.names b e) in
      fold_same (IsName m.names) (with_exit (tables_of m) s b.label) (with_label (shown_module m) (shown_scope m.names s) (name_at m.names b.label)) (name_at m.names) (λ edges x f. label_same b.label (and_both _ _ e).0 edges x f) [] (flat_map exits_of b.instructions)
      (exits_within m.names b.instructions all)
      ∙ ap (fold (with_label (shown_module m) (shown_scope m.names s) (name_at m.names b.label)) []) (exits_shown m.names b.instructions)

  exit_same : (leads : List (Option ℕ)) (first x : ℕ) → IsName m.names x → exit_at s.labels leads first x ≡ exit_to (map (option_map (name_at m.names)) s.labels) leads first (name_at m.names x)
  exit_same leads first x e = bind_same (place_same m.names is s.labels x parts.labels e) (λ to. refl)

  count_same : (instructions : List (Instruction ℕ ℕ ℕ)) → length (joins_of instructions) ≡ length (phis_of (map (shown m.names) instructions))
  count_same instructions = sym (ap length (phis_same m.names instructions) ∙ length-map (joins_of instructions) (phi_shown m.names))

  op_same : (leads : List (Option ℕ)) (first : ℕ) (i : Instruction ℕ ℕ ℕ) → InstructionParts m.names i
      → op_of m (tables_of m) s (exit_at s.labels leads first) i ≡ op_in (shown_module m) (map (option_map (name_at m.names)) s.registers) (exit_to (map (option_map (name_at m.names)) s.labels) leads first) (shown m.names i)
  op_same leads first i f = ap (λ o. unwrap_or o op.Stuck) (resolved_same m is within (exit_at s.labels leads first) (exit_to (map (option_map (name_at m.names)) s.labels) leads first) (exit_same leads first) s parts.registers i f)

  ops_same : (first : ℕ) (leads : List (Option ℕ)) (instructions : List (Instruction ℕ ℕ ℕ)) → AllByRecursion (InstructionParts m.names) instructions
      → ops_of m (tables_of m) s (record { first = first; targets = leads }) instructions ≡ block_ops (shown_module m) (shown_scope m.names s) first leads (map (shown m.names) instructions)
  unfolding shown_scope
  ops_same first leads instructions all =
      let n : ℕ = length (joins_of instructions) in
      let rest : map (op_of m (tables_of m) s (exit_at s.labels leads first)) (drop n instructions)
      ≡ map (op_in (shown_module m) (map (option_map (name_at m.names)) s.registers) (exit_to (map (option_map (name_at m.names)) s.labels) leads first)) (drop n (map (shown m.names) instructions)) =
      map_same (InstructionParts m.names) _ _ (shown m.names) (op_same leads first) (drop n instructions) (all_drop (InstructionParts m.names) n instructions all)
      ∙ ap (map (op_in (shown_module m) (map (option_map (name_at m.names)) s.registers) (exit_to (map (option_map (name_at m.names)) s.labels) leads first))) (sym (drop-map (shown m.names) n instructions)) in
      ap (λ l. replicate n op.Phi ++ l) rest
      ∙ ap (λ c. replicate c op.Phi ++ map (op_in (shown_module m) (map (option_map (name_at m.names)) s.registers) (exit_to (map (option_map (name_at m.names)) s.labels) leads first)) (drop c (map (shown m.names) instructions))) (count_same instructions)

  block_same : (first n : ℕ) (b : Block ℕ ℕ ℕ) → block_within m.names b ≡ true → block_of m (tables_of m) s first n b ≡ block_code (shown_module m) (shown_scope m.names s) first n (shown_block m.names b)
  block_same first n b e =
      let all : AllByRecursion (InstructionParts m.names) b.instructions = parts_of m.names b.instructions (block_instructions m.names b e) in
      let edges = edges_same b e in
      let ops : ops_of m (tables_of m) s (record { first = n; targets = targets_of (edges_of (tables_of m) s b) }) b.instructions
      ≡ block_ops (shown_module m) (shown_scope m.names s) n (targets_of (block_edges (shown_module m) (shown_scope m.names s) (shown_block m.names b))) (map (shown m.names) b.instructions) =
      ops_same n (targets_of (edges_of (tables_of m) s b)) b.instructions all
      ∙ ap (λ es. block_ops (shown_module m) (shown_scope m.names s) n (targets_of es) (map (shown m.names) b.instructions)) edges in
      λ j. record { first = first; phis = count_same b.instructions j; ops = ops j }

  pub blocks_same : (first n : ℕ) (bs : List (Block ℕ ℕ ℕ)) → AllByRecursion (λ b. block_within m.names b ≡ true) bs
      → blocks_from m (tables_of m) s first n bs ≡ blocks_code (shown_module m) (shown_scope m.names s) first n (map (shown_block m.names) bs)
  blocks_same first n [] all = refl
  blocks_same first n (b ∷ bs) all =
      let rest = blocks_same (first + length b.instructions) (n + length (edges_of (tables_of m) s b)) bs all.1 in
      let longer : length b.instructions ≡ length (map (shown m.names) b.instructions) = sym (length-map b.instructions (shown m.names)) in
      (λ j. block_same first n b all.0 j ∷ rest j)
      ∙ (λ j. block_code (shown_module m) (shown_scope m.names s) first n (shown_block m.names b) ∷ blocks_code (shown_module m) (shown_scope m.names s) (first + longer j) (n + length (edges_same b all.0 j)) (map (shown_block m.names) bs))
