-- Blocks and functions, put together.
use Rattle.std.proofs.Common.{◌≡◌, ℕ, ◌+◌, ◌<◌, List, [], ◌∷◌, ◌++◌, map, length, drop, get_or, Option, Some, refl, sym, ◌∙◌, ap, append_assoc, arith, length-append}
use Rattle.std.specs.List.{flat_map}
use Rattle.std.proofs.lemmas.List.{drop_more, append-nil, length-map}
use Rattle.pv_base.specs.declared.external.External.{External}
use Rattle.ir_tree.specs.declared.instruction.Instruction.{Instruction}
use Rattle.ir_tree.specs.declared.items.Block.{Block}
use Rattle.ir_tree.specs.declared.items.Function.{Function}
use Rattle.ir_tree.specs.declared.items.Param.{Param}
use Rattle.ir_code.specs.declared.lookups.Linkage.{Linkage}
use Rattle.ir_code.specs.declared.registers.Register.{Register}
use Rattle.ir_tree.specs.Modules.{Items}
use Rattle.ir_code.specs.declared.op.Op.{Op}
use Rattle.ir_code.specs.declared.op.Scalar.{Scalar}
use Rattle.ir_code.specs.declared.code.Edge.{Edge}
use Rattle.ir_code.specs.declared.code.BlockCode.{BlockCode}
use Rattle.ir_code.specs.Tables.{Tables, scalar_at, scalar_or_pointer, linkage_of, external_of}
use Rattle.ir_code.specs.Blocks.{Scope, Join, targets_of, with_exit, joins_of, edges_of, ops_of, block_of, blocks_from, registers_of}
use Rattle.ir_code.specs.Adding.{AreOwn, Adds}
use Rattle.ir_code.specs.Coding.{scope_of, function_of}

-- the edges of a block that has none yet
pub own_added : (t : Tables) (s : Scope) (label : ℕ) (exits : List ℕ) (edges edges' : List Edge) (targets' : List (Option ℕ)) → Adds t s label exits edges [] edges' targets' → AreOwn edges (Rattle.std.specs.Prelude.fold (with_exit t s label) [] exits) edges' targets'
own_added t s label exits edges edges' targets' adds = adds edges [] (record { all_is = sym (append-nil edges); targets_is = refl })

pub own_counted : (before own all : List Edge) (targets : List (Option ℕ)) → AreOwn before own all targets → length before + length targets ≡ length all
own_counted before own all targets are =
    let one : length targets ≡ length own = ap length are.targets_is ∙ length-map own (λ (e : Edge). Some e.to) in
    let two : length all ≡ length (before ++ own) = ap length are.all_is in
    omega (arith, length-append before own)

pub block_right : (m : Items) (t : Tables) (s : Scope) (first : ℕ) (b : Block ℕ ℕ ℕ) (phis first_edge n : ℕ) (targets : List (Option ℕ)) (instructions : List (Instruction ℕ ℕ ℕ)) (ops : List Op)
    → instructions ≡ b.instructions → phis ≡ length (joins_of instructions) → first_edge ≡ n → targets ≡ targets_of (edges_of t s b) → ops ≡ ops_of m t s (record { first = first_edge; targets = targets }) instructions
    → record { first = first; phis = phis; ops = ops } ≡ block_of m t s first n b
block_right m t s first b phis first_edge n targets instructions ops is count edge leads all =
    let ops_is : ops ≡ ops_of m t s (record { first = n; targets = targets_of (edges_of t s b) }) b.instructions = all ∙ (λ j. ops_of m t s (record { first = edge j; targets = leads j }) (is j)) in
    let count_is : phis ≡ length (joins_of b.instructions) = count ∙ ap (λ l. length (joins_of l)) is in
    λ j. record { first = first; phis = count_is j; ops = ops_is j }

module _ (m : Items) (t : Tables) (s : Scope) where
  -- one more block
  pub blocks_more : (all : List (Block ℕ ℕ ℕ)) (i : ℕ) (b : Block ℕ ℕ ℕ) (first n first' n' : ℕ) (blocks blocks' : List BlockCode) (code : BlockCode) (r : List BlockCode) → i < length all → b ≡ get_or all i b
      → code ≡ block_of m t s first n b → blocks' ≡ blocks ++ code ∷ [] → first' ≡ first + length b.instructions → n' ≡ n + length (edges_of t s b)
      → blocks ++ blocks_from m t s first n (drop i all) ≡ r → blocks' ++ blocks_from m t s first' n' (drop (i + 1) all) ≡ r
  blocks_more all i b first n first' n' blocks blocks' code r lt item is more next count so =
      let rest : drop i all ≡ b ∷ drop (i + 1) all = drop_more all i b lt ∙ ap (λ x. x ∷ drop (i + 1) all) (sym item) in
      let here : blocks ++ (code ∷ blocks_from m t s first' n' (drop (i + 1) all)) ≡ blocks ++ blocks_from m t s first n (b ∷ drop (i + 1) all) = λ j. blocks ++ (is j ∷ blocks_from m t s (next j) (count j) (drop (i + 1) all)) in
      ap (λ l. l ++ blocks_from m t s first' n' (drop (i + 1) all)) more ∙ append_assoc blocks (code ∷ []) (blocks_from m t s first' n' (drop (i + 1) all)) ∙ here ∙ ap (λ l. blocks ++ blocks_from m t s first n l) (sym rest) ∙ so

-- what one more item gives
pub flat_more : {A B : Type 0} (f : A → List B) (xs : List A) (i : ℕ) (x : A) (done done' r : List B) → i < length xs → x ≡ get_or xs i x → done' ≡ done ++ f x → done ++ flat_map f (drop i xs) ≡ r → done' ++ flat_map f (drop (i + 1) xs) ≡ r
flat_more f xs i x done done' r lt item more so =
    let rest : drop i xs ≡ x ∷ drop (i + 1) xs = drop_more xs i x lt ∙ ap (λ y. y ∷ drop (i + 1) xs) (sym item) in
    ap (λ l. l ++ flat_map f (drop (i + 1) xs)) more ∙ append_assoc done (f x) (flat_map f (drop (i + 1) xs)) ∙ ap (λ l. done ++ flat_map f l) (sym rest) ∙ so

pub longer : {A : Type 0} (xs ys zs : List A) → zs ≡ xs ++ ys → length zs ≡ length xs + length ys
longer xs ys zs is = ap length is ∙ length-append xs ys

pub scope_right : (t : Tables) (f : Function ℕ ℕ ℕ) (names labels : List (Option ℕ)) (joins : List (List Join)) (registers : List Register) (all : List (Block ℕ ℕ ℕ)) → registers ≡ registers_of t f → all ≡ f.blocks
    → names ≡ map (λ r. r.name) registers → labels ≡ map (λ b. Some b.label) all → joins ≡ map (λ b. joins_of b.instructions) all
    → record { registers = names; labels = labels; joins = joins } ≡ scope_of t f
scope_right t f names labels joins registers all found blocks n l k =
    let names_is : names ≡ (scope_of t f).registers = n ∙ (λ j. map (λ r. r.name) (found j)) in
    let labels_is : labels ≡ (scope_of t f).labels = l ∙ (λ j. map (λ b. Some b.label) (blocks j)) in
    let joins_is : joins ≡ (scope_of t f).joins = k ∙ (λ j. map (λ b. joins_of b.instructions) (blocks j)) in
    λ j. record { registers = names_is j; labels = labels_is j; joins = joins_is j }

pub function_right : (m : Items) (t : Tables) (f : Function ℕ ℕ ℕ) (s : Scope) (parameters types : List Scalar) (result : Option Scalar) (blocks : List BlockCode) (edges : List Edge) (external : Option External)
    (all : List (Block ℕ ℕ ℕ)) (params : List (Param ℕ ℕ)) (linkage : Linkage)
    → all ≡ f.blocks → params ≡ f.params → linkage ≡ linkage_of m.names f
    → s ≡ scope_of t f → parameters ≡ map (λ p. scalar_or_pointer t p.of) params → result ≡ scalar_at t f.result → types ≡ map (λ r. r.of) (registers_of t f)
    → blocks ≡ blocks_from m t s 0 0 all → edges ≡ flat_map (edges_of t s) all → external ≡ external_of linkage
    → record { parameters = parameters; result = result; registers = types; blocks = blocks; edges = edges; external = external; declared = f.declared } ≡ function_of m t f
unfolding function_of
function_right m t f s parameters types result blocks edges external all params linkage within listed linked scope p r g b e x =
    let parameters_is : parameters ≡ map (λ p. scalar_or_pointer t p.of) f.params = p ∙ (λ j. map (λ p. scalar_or_pointer t p.of) (listed j)) in
    let blocks_is : blocks ≡ blocks_from m t (scope_of t f) 0 0 f.blocks = b ∙ (λ j. blocks_from m t (scope j) 0 0 (within j)) in
    let edges_is : edges ≡ flat_map (edges_of t (scope_of t f)) f.blocks = e ∙ (λ j. flat_map (edges_of t (scope j)) (within j)) in
    let external_is : external ≡ external_of (linkage_of m.names f) = x ∙ ap external_of linked in
    λ j. record { parameters = parameters_is j; result = r j; registers = g j; blocks = blocks_is j; edges = edges_is j; external = external_is j; declared = f.declared }
