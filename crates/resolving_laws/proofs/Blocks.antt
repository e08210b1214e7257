-- The places of a module's code.
use Rattle.std.proofs.Common.{◌≡◌, ℕ, zero, suc, ◌+◌, true, List, [], ◌∷◌, ◌++◌, map, length, take, drop, replicate, Option, Some, None, slice_get, refl, sym, ap, subst, ◌∙◌, arith, ◌⊎◌, inl, inr, length-append}
use Rattle.std.specs.Prelude.{IfSome, option_map}
use Rattle.std.specs.List.{flat_map, list_all}
use Rattle.std.proofs.lemmas.Option.{slice_get-map}
use Rattle.ir_tree.specs.declared.instruction.Instruction.{Instruction}
use Rattle.ir_tree.specs.declared.instruction.Instruction.TheVariants as tree
use Rattle.ir_tree.specs.declared.items.Block.{Block}
use Rattle.ir_tree.specs.declared.items.Function.{Function}
use Rattle.ir_tree.specs.Modules.{Items}
use Rattle.ir_rules.specs.Forms.{is_phi}
use Rattle.ir_rules.specs.Spots.{instruction_count}
use Rattle.ir_code.specs.declared.op.Op.{Op}
use Rattle.ir_code.specs.declared.op.Op.TheVariants as op
use Rattle.ir_code.specs.declared.code.Edge.{Edge}
use Rattle.ir_code.specs.declared.code.FunctionCode.{FunctionCode}
use Rattle.ir_code.specs.Places.{exit_at}
use Rattle.ir_code.specs.Tables.{Tables, scalar_at, scalar_or_pointer, external_of, linkage_of}
use Rattle.ir_code.specs.Blocks.{Scope, Join, join_of, registers_of, joins_of, targets_of, edges_of, resolved, op_of, block_of, blocks_from}
use Rattle.ir_code.specs.Coding.{tables_of, scope_of, function_of, code_of}
use Rattle.ir_rules.proofs.SameLemmas.{and_both}
use Rattle.checked_code.proofs.Fitting.{sum_from}
use Rattle.resolving_laws.specs.Resolved.{phis_of, IsResolved}
use Rattle.resolving_laws.specs.Places.{StandsAt, CodedAt}
use Rattle.resolving_laws.specs.Laws.{ResolvedOrStuck}
use Rattle.resolving_laws.proofs.Options.{or_else}
use Rattle.resolving_laws.proofs.Constants.{typed}
use Rattle.resolving_laws.proofs.Names.{names_are, phi_or_not, joins_phis, joins_count}
use Rattle.resolving_laws.proofs.Instructions.{resolved_is}
use Rattle.resolving_laws.proofs.Edges.{scope, leads}

-- ---- items of lists

pub in_front : {A : Type 0} (xs ys : List A) (k : ℕ) (x : A) → slice_get xs k ≡ Some x → slice_get (xs ++ ys) k ≡ Some x
in_front [] ys k x e = absurd cc
in_front (y ∷ xs) ys zero x e = e
in_front (y ∷ xs) ys (suc k) x e = in_front xs ys k x e

pub behind : {A : Type 0} (xs ys : List A) (k : ℕ) → slice_get (xs ++ ys) (length xs + k) ≡ slice_get ys k
behind [] ys k = let z : 0 + k ≡ k = omega arith in rw z refl
behind (x ∷ xs) ys k = let z : suc (length xs) + k ≡ suc (length xs + k) = omega arith in rw z (behind xs ys k)

pub in_flat : {A B : Type 0} (g : A → List B) (xs : List A) (j : ℕ) (x : A) (k : ℕ) (y : B) → slice_get xs j ≡ Some x → slice_get (g x) k ≡ Some y → slice_get (flat_map g xs) (length (flat_map g (take j xs)) + k) ≡ Some y
in_flat g [] j x k y e h = absurd cc
in_flat g (z ∷ xs) zero x k y e h =
    let same : x ≡ z = cc in let o : 0 + k ≡ k = omega arith in rw o (in_front (g z) (flat_map g xs) k y (subst (λ w. slice_get (g w) k ≡ Some y) same h))
in_flat g (z ∷ xs) (suc j) x k y e h =
    let n : length (g z ++ flat_map g (take j xs)) + k ≡ length (g z) + (length (flat_map g (take j xs)) + k) = omega (arith, length-append (g z) (flat_map g (take j xs))) in
    rw n (behind (g z) (flat_map g xs) (length (flat_map g (take j xs)) + k) ∙ in_flat g xs j x k y e h)

-- ---- blocks

count_more : (b : Block ℕ ℕ ℕ) (bs : List (Block ℕ ℕ ℕ)) → instruction_count (b ∷ bs) ≡ length b.instructions + instruction_count bs
count_more b bs = let e = sum_from (λ (x : Block ℕ ℕ ℕ). length x.instructions) bs (0 + length b.instructions) in omega (arith, e)

module _ (m : Items) (t : Tables) (s : Scope) where
  block_from : (bs : List (Block ℕ ℕ ℕ)) (n e j : ℕ) (b : Block ℕ ℕ ℕ) → slice_get bs j ≡ Some b
      → slice_get (blocks_from m t s n e bs) j ≡ Some (block_of m t s (n + instruction_count (take j bs)) (e + length (flat_map (edges_of t s) (take j bs))) b)
  block_from [] n e j b is = absurd cc
  block_from (x ∷ bs) n e zero b is =
      let same : x ≡ b = cc in
      let y : n + 0 ≡ n = omega arith in
      let z : e + 0 ≡ e = omega arith in
      rw (y, z) (ap (λ c. Some (block_of m t s n e c)) same)
  block_from (x ∷ bs) n e (suc j) b is =
      let c = count_more x (take j bs) in
      let y : n + instruction_count (x ∷ take j bs) ≡ (n + length x.instructions) + instruction_count (take j bs) = omega (arith, c) in
      let z : e + length (edges_of t s x ++ flat_map (edges_of t s) (take j bs)) ≡ (e + length (edges_of t s x)) + length (flat_map (edges_of t s) (take j bs)) = omega (arith, length-append (edges_of t s x) (flat_map (edges_of t s) (take j bs))) in
      rw (y, z) (block_from bs (n + length x.instructions) (e + length (edges_of t s x)) j b is)

  pub block_at : (bs : List (Block ℕ ℕ ℕ)) (j : ℕ) (b : Block ℕ ℕ ℕ) → slice_get bs j ≡ Some b
      → slice_get (blocks_from m t s 0 0 bs) j ≡ Some (block_of m t s (instruction_count (take j bs)) (length (flat_map (edges_of t s) (take j bs))) b)
  block_at bs j b is =
      let y : 0 + instruction_count (take j bs) ≡ instruction_count (take j bs) = omega arith in
      let z : 0 + length (flat_map (edges_of t s) (take j bs)) ≡ length (flat_map (edges_of t s) (take j bs)) = omega arith in
      block_from bs 0 0 j b is ∙ ap (λ n. Some (block_of m t s n (0 + length (flat_map (edges_of t s) (take j bs))) b)) y ∙ ap (λ e. Some (block_of m t s (instruction_count (take j bs)) e b)) z

  -- ---- instructions

  -- a block's ops: its phis, then each other instruction
  abbrev ops : (ℕ → Option ℕ) → List (Instruction ℕ ℕ ℕ) → List Op
  ops exit is = replicate (length (joins_of is)) op.Phi ++ map (op_of m t s exit) (drop (length (joins_of is)) is)

  -- the op of an instruction: a phi that the block begins with is none of its own
  pub record HasOp (exit : ℕ → Option ℕ) (is : List (Instruction ℕ ℕ ℕ)) (k : ℕ) (i : Instruction ℕ ℕ ℕ) : Type 0 where
    pub own : Op
    pub at : slice_get (ops exit is) k ≡ Some own
    pub so : ((own ≡ op.Phi) × (is_phi i ≡ true)) ⊎ ((own ≡ op_of m t s exit i) × (list_all is_phi (take (suc k) is) ≡ true → ⊥))

  phi_more : (exit : ℕ → Option ℕ) (x : Instruction ℕ ℕ ℕ) (is : List (Instruction ℕ ℕ ℕ)) (j : Join) → join_of x ≡ Some j → ops exit (x ∷ is) ≡ op.Phi ∷ ops exit is
  phi_more exit x is j e = rw e refl

  phi_no_more : (exit : ℕ → Option ℕ) (x : Instruction ℕ ℕ ℕ) (is : List (Instruction ℕ ℕ ℕ)) → join_of x ≡ None → ops exit (x ∷ is) ≡ map (op_of m t s exit) (x ∷ is)
  phi_no_more exit x is e = rw e refl

  pub has_op : (exit : ℕ → Option ℕ) (is : List (Instruction ℕ ℕ ℕ)) (k : ℕ) (i : Instruction ℕ ℕ ℕ) → slice_get is k ≡ Some i → HasOp exit is k i
  has_op exit [] k i e = absurd cc
  has_op exit (x ∷ is) zero i e = elim (phi_or_not x) [
    | inl h ↦ record { own = op.Phi; at = ap (λ os. slice_get os 0) (phi_more exit x is h.0 h.1); so = let same : x ≡ i = cc in inl (refl, ap is_phi (sym same) ∙ h.2) }
    | inr h ↦ record { own = op_of m t s exit i; at = ap (λ os. slice_get os 0) (phi_no_more exit x is h.0) ∙ (let same : x ≡ i = cc in ap (λ y. Some (op_of m t s exit y)) same); so = inr (refl, λ a. let p : is_phi x ≡ true = (and_both (is_phi x) (list_all is_phi (take 0 is)) a).0 in let not = h.1 in absurd cc) }
  ]
  has_op exit (x ∷ is) (suc k) i e =
      let rest = has_op exit is k i e in
      elim (phi_or_not x) [
        | inl h ↦ record { own = rest.own; at = ap (λ os. slice_get os (suc k)) (phi_more exit x is h.0 h.1) ∙ rest.at; so = elim rest.so [ inl g ↦ inl g | inr g ↦ inr (g.0, λ a. g.1 (and_both (is_phi x) (list_all is_phi (take (suc k) is)) a).1) ] }
        | inr h ↦ record { own = op_of m t s exit i; at = ap (λ os. slice_get os (suc k)) (phi_no_more exit x is h.0) ∙ (slice_get-map (op_of m t s exit) is k ∙ ap (option_map (op_of m t s exit)) e); so = inr (refl, λ a. let p : is_phi x ≡ true = (and_both (is_phi x) (list_all is_phi (take (suc k) is)) a).0 in let not = h.1 in absurd cc) }
      ]

-- ---- functions

-- a function's code in a scope
abbrev pub function_in : Items → Function ℕ ℕ ℕ → Scope → FunctionCode
function_in m f s = record {
  parameters = map (λ p. scalar_or_pointer (tables_of m) p.of) f.params;
  result = scalar_at (tables_of m) f.result;
  registers = map (λ r. r.of) (registers_of (tables_of m) f);
  blocks = blocks_from m (tables_of m) s 0 0 f.blocks;
  edges = flat_map (edges_of (tables_of m) s) f.blocks;
  external = external_of (linkage_of m.names f);
  declared = f.declared;
}

scope_is : (t : Tables) (f : Function ℕ ℕ ℕ) → scope_of t f ≡ scope f
scope_is t f = ap (λ ns. let s : Scope = record { registers = ns; labels = map (λ b. Some b.label) f.blocks; joins = map (λ b. joins_of b.instructions) f.blocks } in s) (names_are t f)

pub coded : (m : Items) (f : Function ℕ ℕ ℕ) → function_of m (tables_of m) f ≡ function_in m f (scope f)
unfolding function_of
coded m f = ap (function_in m f) (scope_is (tables_of m) f)

pub function_at : (m : Items) (k : ℕ) (f : Function ℕ ℕ ℕ) → slice_get m.functions k ≡ Some f → slice_get (code_of m).functions k ≡ Some (function_in m f (scope f))
unfolding code_of
function_at m k f e = slice_get-map (function_of m (tables_of m)) m.functions k ∙ ap (option_map (function_of m (tables_of m))) e ∙ ap Some (coded m f)

-- ---- all of it

module _ (m : Items) (k b i : ℕ) (s : StandsAt m k b i) where
  abbrev pub exit : ℕ → Option ℕ
  exit = exit_at (scope s.function).labels (targets_of (edges_of (tables_of m) (scope s.function) s.block)) (length (flat_map (edges_of (tables_of m) (scope s.function)) (take b s.function.blocks)))

  abbrev pub own_op : HasOp m (tables_of m) (scope s.function) exit s.block.instructions i s.instruction
  own_op = has_op m (tables_of m) (scope s.function) exit s.block.instructions i s.instruction s.instruction_at

  abbrev pub place : CodedAt m k b i s
  place = record {
    function = function_in m s.function (scope s.function);
    block = block_of m (tables_of m) (scope s.function) (instruction_count (take b s.function.blocks)) (length (flat_map (edges_of (tables_of m) (scope s.function)) (take b s.function.blocks))) s.block;
    op = own_op.own;
    function_at = function_at m k s.function s.function_at;
    block_at = block_at m (tables_of m) (scope s.function) s.function.blocks b s.block s.block_at;
    op_at = own_op.at;
    phis = joins_count (phis_of s.block.instructions) (joins_of s.block.instructions) (joins_phis s.block.instructions);
    first = refl;
  }

  -- a phi that the block begins with is one
  phi_is : (x : Instruction ℕ ℕ ℕ) (edges : List Edge) (label : ℕ) → is_phi x ≡ true → IsResolved m s.function edges label x op.Phi
  unfolding IsResolved is_phi
  phi_is (tree.Phi to of arms) edges label e = refl
  phi_is x edges label e = absurd cc

  -- an instruction that is no phi is resolved as it stands
  pub own_resolved : IfSome (resolved m (tables_of m) (scope s.function) exit s.instruction) (IsResolved m s.function place.function.edges s.block.label s.instruction)
  own_resolved =
      resolved_is m s.function place.function.edges s.block.label exit
      (λ x. leads m s.function s.block.label (typed m) place.function.edges s.block (length (flat_map (edges_of (tables_of m) (scope s.function)) (take b s.function.blocks))) x refl
      (λ j e is. in_flat (edges_of (tables_of m) (scope s.function)) s.function.blocks b s.block j e s.block_at is))
      (scope s.function).labels (scope s.function).joins s.instruction

  pub own_is : (own_op.own ≡ op.Stuck) ⊎ IsResolved m s.function place.function.edges s.block.label s.instruction own_op.own
  own_is = elim own_op.so [
    | inl h ↦ inr (subst (IsResolved m s.function place.function.edges s.block.label s.instruction) (sym h.0) (phi_is s.instruction place.function.edges s.block.label h.1))
    | inr h ↦ subst (λ o. (o ≡ op.Stuck) ⊎ IsResolved m s.function place.function.edges s.block.label s.instruction o) (sym h.0)
        (or_else (IsResolved m s.function place.function.edges s.block.label s.instruction) (resolved m (tables_of m) (scope s.function) exit s.instruction) op.Stuck own_resolved)
  ]

pub resolved_or_stuck : ResolvedOrStuck
resolved_or_stuck m k b i s = (place m k b i s, own_is m k b i s)
