-- The constants in the code of a module fit.
use Rattle.std.proofs.Common.{ℕ, ◌+◌, Bool, true, false, List, [], ◌∷◌, ◌++◌, length, map, drop, replicate, Option, Some, None, if◌then◌else◌}
use Rattle.std.specs.Prelude.{IfSome, option_and_then, unwrap_or, is_some, slice_index_or, fold}
use Rattle.std.specs.List.{AllByRecursion, flat_map, range_with_len}
use Rattle.std.specs.Option.{option_map_or}
use Rattle.int_num.specs.declared.ops.BinOp.{BinOp}
use Rattle.int_num.specs.declared.ops.CastOp.{CastOp}
use Rattle.int_num.specs.declared.ops.Flags.{Flags}
use Rattle.int_num.specs.declared.ops.Pred.{Pred}
use Rattle.ir_tree.specs.declared.instruction.Operand.{Operand as Named}
use Rattle.ir_tree.specs.declared.instruction.Operand.TheVariants as named
use Rattle.ir_tree.specs.declared.instruction.Argument.{Argument}
use Rattle.ir_tree.specs.declared.instruction.Case.{Case}
use Rattle.ir_tree.specs.declared.instruction.Callee.{Callee}
use Rattle.ir_tree.specs.declared.instruction.Callee.TheVariants as callee
use Rattle.ir_tree.specs.declared.instruction.Instruction.{Instruction}
use Rattle.ir_tree.specs.declared.instruction.Instruction.TheVariants as tree
use Rattle.ir_tree.specs.declared.items.Block.{Block}
use Rattle.ir_tree.specs.declared.items.Function.{Function}
use Rattle.ir_tree.specs.Trees.{PtrV, ConstantV, IntegerC, NullC, ZeroC, TextC, ArrayC, StructC, NameC, AddressC}
use Rattle.ir_tree.specs.Naming.{type_at, constant_at}
use Rattle.ir_tree.specs.Modules.{Items, types_of}
use Rattle.ir_code.specs.declared.op.Scalar.{Scalar}
use Rattle.ir_code.specs.declared.op.Scalar.TheVariants as scalar
use Rattle.ir_code.specs.declared.op.Operand.{Operand}
use Rattle.ir_code.specs.declared.op.Operand.TheVariants as operand
use Rattle.ir_code.specs.declared.op.Op.{Op}
use Rattle.ir_code.specs.declared.op.Op.TheVariants as op
use Rattle.ir_code.specs.declared.code.Edge.{Edge}
use Rattle.ir_code.specs.declared.lookups.Constant.{Constant}
use Rattle.ir_code.specs.declared.lookups.Constant.TheVariants as constant
use Rattle.ir_code.specs.declared.lookups.Linkage.{Linkage}
use Rattle.ir_code.specs.declared.lookups.Linkage.TheVariants as linkage
use Rattle.ir_code.specs.Options.{every}
use Rattle.ir_code.specs.Places.{place_of, exit_at}
use Rattle.ir_code.specs.Exits.{Leading}
use Rattle.ir_code.specs.Strides.{strides}
use Rattle.ir_code.specs.Tables.{Tables, scalar_at, size_at, type_of, fixed_of, fixed_at}
use Rattle.ir_code.specs.Fixed as fixed
use Rattle.ir_code.specs.Families.{width_of, stored, call_of, count_of, parameters_at, result_register, cases_at, operand_at, argument_at, binary, cast, freeze, compare, select, alloca, load, store, arguments_at, call, return_of, branch, switch}
use Rattle.ir_code.specs.Addresses.{address}
use Rattle.ir_code.specs.Blocks.{Join, joins_of, exits_of, arm_from, Scope, targets_of, move_of, edge_to, with_target, with_exit, edges_of, resolved, op_of, ops_of, blocks_from}
use Rattle.ir_code.specs.Coding.{constant_of, constant_in, tables_of, scope_of, function_of, code_of}
use Rattle.keeping_laws.specs.Constants.{FixedFits, OperandFits, OperandsFit, OpFits, MoveFits, EdgeFits, BlockFits, FunctionFits}
use Rattle.keeping_laws.specs.Modules.{NodesFit}
use Rattle.keeping_laws.specs.Laws.{CodesFit}
use Rattle.keeping_laws.proofs.Lists.{by_append, by_replicate, by_map}
use Rattle.keeping_laws.proofs.Constants.{and_then_fits, map_fits, any_some, by_index, ConstantFits, constant_at_fits, count, zero_fits, fixed_fits}

-- ---- options and lists

-- whatever the first is
any_then : {A B : Type 0} (Q : B → Type 0) (x : Option A) (k : A → Option B) → ((a : A) → IfSome (k a) Q) → IfSome (option_and_then k x) Q
any_then Q (Some a) k g = g a
any_then Q None k g = tt

map_or_fits : {A B : Type 0} (Q : B → Type 0) (P : A → Type 0) (f : A → B) (x : Option A) (d : B) → IfSome x P → ((a : A) → P a → Q (f a)) → Q d → Q (option_map_or f x d)
map_or_fits Q P f (Some a) d h g q = g a h
map_or_fits Q P f None d h g q = q

unwrap_fits : {A : Type 0} (Q : A → Type 0) (x : Option A) (d : A) → IfSome x Q → Q d → Q (unwrap_or x d)
unwrap_fits Q (Some a) d h q = h
unwrap_fits Q None d h q = q

every_fits : {A B : Type 0} (Q : B → Type 0) (f : A → Option B) → ((a : A) → IfSome (f a) Q) → (xs : List A) → IfSome (every f xs) (AllByRecursion Q)
every_fits Q f h [] = tt
every_fits Q f h (x ∷ xs) = and_then_fits Q (AllByRecursion Q) (f x) _ (h x) (λ y p. and_then_fits (AllByRecursion Q) (AllByRecursion Q) (every f xs) _ (every_fits Q f h xs) (λ ys q. (p, q)))

by_all : {A : Type 0} (P : A → Type 0) → ((a : A) → P a) → (xs : List A) → AllByRecursion P xs
by_all P h [] = tt
by_all P h (x ∷ xs) = (h x, by_all P h xs)

by_flat : {A B : Type 0} (P : B → Type 0) (f : A → List B) → ((a : A) → AllByRecursion P (f a)) → (xs : List A) → AllByRecursion P (flat_map f xs)
by_flat P f h [] = tt
by_flat P f h (x ∷ xs) = by_append P (f x) (flat_map f xs) (h x) (by_flat P f h xs)

folded : {A B : Type 0} (P : B → Type 0) (f : B → A → B) → ((b : B) (a : A) → P b → P (f b a)) → (b : B) (xs : List A) → P b → P (fold f b xs)
folded P f h b [] p = p
folded P f h b (x ∷ xs) p = folded P f h (f b x) xs (h b x p)

one_of : {A : Type 0} (P : A → Type 0) (b : Bool) (x y : A) → P x → P y → P (if b then x else y)
one_of P true x y h k = h
one_of P false x y h k = k

-- ---- what is found once of a module

abbrev FoundFits : ℕ → Constant → Type 0
FoundFits next (constant.Is value) = FixedFits next value
FoundFits next constant.Zero = Unit {0}

abbrev TablesFit : ℕ → Tables → Type 0
TablesFit next t = AllByRecursion (λ c. IfSome c (FoundFits next)) t.constants

found_fits : (m : Items) (c : ConstantV) → ConstantFits c → IfSome (constant_of m c) (FoundFits (count m))
found_fits m (IntegerC n) h = map_fits (FixedFits (count m)) (FoundFits (count m)) (fixed.fixed_of m PtrV (IntegerC n)) constant.Is (fixed_fits m PtrV (IntegerC n) h) (λ v q. q)
found_fits m NullC h = map_fits (FixedFits (count m)) (FoundFits (count m)) (fixed.fixed_of m PtrV NullC) constant.Is (fixed_fits m PtrV NullC h) (λ v q. q)
found_fits m ZeroC h = tt
found_fits m (TextC bytes) h = tt
found_fits m (ArrayC elements) h = tt
found_fits m (StructC packed elements) h = tt
found_fits m (NameC name) h = map_fits (FixedFits (count m)) (FoundFits (count m)) (fixed.fixed_of m PtrV (NameC name)) constant.Is (fixed_fits m PtrV (NameC name) h) (λ v q. q)
found_fits m (AddressC of base indices) h =
    map_fits (FixedFits (count m)) (FoundFits (count m)) (fixed.fixed_of m PtrV (AddressC of base indices)) constant.Is (fixed_fits m PtrV (AddressC of base indices) h) (λ v q. q)

tables_fit : (m : Items) → NodesFit m → TablesFit (count m) (tables_of m)
tables_fit m h =
    by_map (λ c. IfSome c (FoundFits (count m))) (constant_in m) (range_with_len 0 (length m.names.constants))
    (by_all (λ k. IfSome (constant_in m k) (FoundFits (count m))) (λ k. found_fits m (constant_at m.names k) (constant_at_fits m h k)) (range_with_len 0 (length m.names.constants)))

at_fits : (next : ℕ) (of : Scalar) (c : Constant) → FoundFits next c → IfSome (fixed_of of c) (FixedFits next)
at_fits next of (constant.Is value) h = h
at_fits next of constant.Zero h = zero_fits next (type_of of)

module _ (next : ℕ) (t : Tables) (h : TablesFit next t) where
  value_fits : (of : Scalar) (k : ℕ) → IfSome (fixed_at t of k) (FixedFits next)
  value_fits of k = and_then_fits (FoundFits next) (FixedFits next) (slice_index_or t.constants k None) _ (by_index (λ c. IfSome c (FoundFits next)) t.constants k None tt h) (at_fits next of)

  -- ---- operands

  module _ (registers : List (Option ℕ)) where
    operand_fits : (of : Scalar) (x : Named ℕ ℕ) → IfSome (operand_at t registers of x) (OperandFits next)
    operand_fits of (named.Register x) = map_fits (λ r. Unit {0}) (OperandFits next) (place_of registers x) operand.Register (any_some _) (λ r q. tt)
    operand_fits of (named.Constant k) = map_fits (FixedFits next) (OperandFits next) (fixed_at t of k) operand.Constant (value_fits of k) (λ c q. q)

    argument_fits : (a : Argument ℕ ℕ ℕ) → IfSome (argument_at t registers a) (OperandFits next)
    argument_fits a = any_then (OperandFits next) (scalar_at t a.of) _ (λ of. operand_fits of a.value)

    arguments_fit : (xs : List (Argument ℕ ℕ ℕ)) → IfSome (arguments_at t registers xs) (OperandsFit next)
    arguments_fit xs = every_fits (OperandFits next) (argument_at t registers) argument_fits xs

    then_operand : (of : Scalar) (x : Named ℕ ℕ) (k : Operand → Option Op) → ((a : Operand) → OperandFits next a → IfSome (k a) (OpFits next)) → IfSome (option_and_then k (operand_at t registers of x)) (OpFits next)
    then_operand of x k g = and_then_fits (OperandFits next) (OpFits next) (operand_at t registers of x) k (operand_fits of x) g

    -- ---- instructions

    binary_fits : (to : ℕ) (what : BinOp) (flags : Flags) (of : ℕ) (x y : Named ℕ ℕ) → IfSome (binary t registers to what flags of x y) (OpFits next)
    binary_fits to what flags of x y =
        any_then (OpFits next) (place_of registers to) _ (λ r. any_then (OpFits next) (scalar_at t of) _ (λ s. then_operand s x _ (λ a p. then_operand s y _ (λ b q. (p, q)))))

    cast_fits : (to : ℕ) (what : CastOp) (flags : Flags) (of : ℕ) (x : Named ℕ ℕ) (target : ℕ) → IfSome (cast t registers to what flags of x target) (OpFits next)
    cast_fits to what flags of x target =
        any_then (OpFits next) (place_of registers to) _
        (λ r. any_then (OpFits next) (scalar_at t of) _ (λ s. then_operand s x _ (λ a p. any_then (OpFits next) (scalar_at t target) _ (λ u. any_then (OpFits next) (width_of u) _ (λ w. p)))))

    freeze_fits : (to of : ℕ) (x : Named ℕ ℕ) → IfSome (freeze t registers to of x) (OpFits next)
    freeze_fits to of x = any_then (OpFits next) (place_of registers to) _ (λ r. any_then (OpFits next) (scalar_at t of) _ (λ s. then_operand s x _ (λ a p. p)))

    compare_fits : (to : ℕ) (pred : Pred) (of : ℕ) (x y : Named ℕ ℕ) → IfSome (compare t registers to pred of x y) (OpFits next)
    compare_fits to pred of x y =
        any_then (OpFits next) (place_of registers to) _ (λ r. any_then (OpFits next) (scalar_at t of) _ (λ s. then_operand s x _ (λ a p. then_operand s y _ (λ b q. tt))))

    select_fits : (to : ℕ) (c : Named ℕ ℕ) (of : ℕ) (x y : Named ℕ ℕ) → IfSome (select t registers to c of x y) (OpFits next)
    select_fits to c of x y =
        any_then (OpFits next) (place_of registers to) _
        (λ r. any_then (OpFits next) (scalar_at t of) _ (λ s. then_operand (scalar.Int 1) c _ (λ d o. then_operand s x _ (λ a p. then_operand s y _ (λ b q. (p, q))))))

    alloca_fits : (to of : ℕ) (n : Option (Argument ℕ ℕ ℕ)) → IfSome (alloca t registers to of n) (OpFits next)
    alloca_fits to of n = any_then (OpFits next) (place_of registers to) _ (λ r. any_then (OpFits next) (size_at t of) _ (λ size. any_then (OpFits next) (count_of t n) _ (λ k. tt)))

    load_fits : (to of : ℕ) (x : Named ℕ ℕ) → IfSome (load t registers to of x) (OpFits next)
    load_fits to of x =
        any_then (OpFits next) (place_of registers to) _
        (λ r. any_then (OpFits next) (scalar_at t of) _ (λ s. any_then (OpFits next) (stored s) _ (λ u. then_operand scalar.Pointer x _ (λ a p. p))))

    store_fits : (of : ℕ) (x y : Named ℕ ℕ) → IfSome (store t registers of x y) (OpFits next)
    store_fits of x y =
        any_then (OpFits next) (scalar_at t of) _ (λ s. any_then (OpFits next) (stored s) _ (λ u. then_operand u x _ (λ a p. then_operand scalar.Pointer y _ (λ b q. (p, q)))))

    address_fits : (m : Items) (to : ℕ) (inbounds : Bool) (of : ℕ) (x : Named ℕ ℕ) (xs : List (Argument ℕ ℕ ℕ)) → IfSome (address m t registers to inbounds of x xs) (OpFits next)
    address_fits m to inbounds of x xs =
        any_then (OpFits next) (place_of registers to) _
        (λ r. any_then (OpFits next) (size_at t of) _
        (λ size. then_operand scalar.Pointer x _
        (λ a p. any_then (OpFits next) (arguments_at t registers xs) _ (λ vs. any_then (OpFits next) (strides (types_of m) (type_at m.names of) vs) _ (λ steps. p)))))

    linked_fits : (to : Option ℕ) (vs : List Operand) (function : ℕ) (l : Linkage) → OperandsFit next vs → IfSome (call_of to vs function l) (OpFits next)
    linked_fits to vs function linkage.Defined q = q
    linked_fits to vs function (linkage.External e) q = q
    linked_fits to vs function linkage.Unknown q = tt

    call_fits : (to : Option ℕ) (of : ℕ) (f : Callee ℕ) (xs : List (Argument ℕ ℕ ℕ)) → IfSome (call t registers to of f xs) (OpFits next)
    call_fits to of (callee.Function x) xs =
        any_then (OpFits next) (result_register registers to) _
        (λ r. any_then (OpFits next) (place_of t.functions x) _
        (λ k. and_then_fits (OperandsFit next) (OpFits next) (arguments_at t registers xs) _ (arguments_fit xs) (λ vs q. linked_fits r vs k (slice_index_or t.linkages k linkage.Unknown) q)))
    call_fits to of (callee.Pointer x) xs =
        any_then (OpFits next) (result_register registers to) _
        (λ r. any_then (OpFits next) (place_of registers x) _
        (λ p. and_then_fits (OperandsFit next) (OpFits next) (arguments_at t registers xs) _ (arguments_fit xs) (λ vs q. any_then (OpFits next) (parameters_at t xs) _ (λ types. q))))

    return_fits : (x : Option (Argument ℕ ℕ ℕ)) → IfSome (return_of t registers x) (OpFits next)
    return_fits None = tt
    return_fits (Some a) = map_fits (OperandFits next) (OpFits next) (argument_at t registers a) _ (argument_fits a) (λ v q. q)

    branch_fits : (exit : ℕ → Option ℕ) (c : Named ℕ ℕ) (x y : ℕ) → IfSome (branch t registers exit c x y) (OpFits next)
    branch_fits exit c x y = then_operand (scalar.Int 1) c _ (λ a p. any_then (OpFits next) (exit x) _ (λ i. any_then (OpFits next) (exit y) _ (λ j. tt)))

    switch_fits : (exit : ℕ → Option ℕ) (of : ℕ) (x : Named ℕ ℕ) (d : ℕ) (cases : List (Case ℕ ℕ)) → IfSome (switch t registers exit of x d cases) (OpFits next)
    switch_fits exit of x d cases =
        any_then (OpFits next) (scalar_at t of) _ (λ s. then_operand s x _ (λ a p. any_then (OpFits next) (exit d) _ (λ i. any_then (OpFits next) (cases_at t exit s cases) _ (λ all. tt))))

    move_fits : (label : ℕ) (j : Join) → IfSome (move_of t registers label j) (MoveFits next)
    move_fits label j =
        any_then (MoveFits next) (place_of registers j.to) _
        (λ r. any_then (MoveFits next) (scalar_at t j.of) _
        (λ of. any_then (MoveFits next) (arm_from label j.arms) _ (λ arm. and_then_fits (OperandFits next) (MoveFits next) (operand_at t registers of arm) _ (operand_fits of arm) (λ v q. q))))

  -- ---- edges and blocks

  module _ (s : Scope) where
    to_fits : (label to : ℕ) → IfSome (edge_to t s label to) (EdgeFits next)
    to_fits label to = map_fits (AllByRecursion (MoveFits next)) (EdgeFits next) (every (move_of t s.registers label) (slice_index_or s.joins to [])) _ (every_fits (MoveFits next) (move_of t s.registers label) (move_fits s.registers label) (slice_index_or s.joins to [])) (λ ms q. q)

    target_fits : (label : ℕ) (edges : List Edge) (to : ℕ) → AllByRecursion (EdgeFits next) edges → AllByRecursion (EdgeFits next) (with_target t s label edges to)
    target_fits label edges to q =
        one_of (AllByRecursion (EdgeFits next)) (is_some (place_of (targets_of edges) to)) edges _ q
        (map_or_fits (AllByRecursion (EdgeFits next)) (EdgeFits next) (λ e. edges ++ e ∷ []) (edge_to t s label to) edges (to_fits label to) (λ e p. by_append (EdgeFits next) edges (e ∷ []) q (p, tt)) q)

    exit_fits : (label : ℕ) (edges : List Edge) (exit : ℕ) → AllByRecursion (EdgeFits next) edges → AllByRecursion (EdgeFits next) (with_exit t s label edges exit)
    exit_fits label edges exit q =
        map_or_fits (AllByRecursion (EdgeFits next)) (λ k. Unit {0}) (with_target t s label edges) (place_of s.labels exit) edges (any_some _) (λ to u. target_fits label edges to q) q

    edges_fit : (b : Block ℕ ℕ ℕ) → AllByRecursion (EdgeFits next) (edges_of t s b)
    edges_fit b = folded (AllByRecursion (EdgeFits next)) (with_exit t s b.label) (exit_fits b.label) [] (flat_map exits_of b.instructions) tt

    module _ (m : Items) where
      resolved_fits : (exit : ℕ → Option ℕ) (i : Instruction ℕ ℕ ℕ) → IfSome (resolved m t s exit i) (OpFits next)
      unfolding resolved
      resolved_fits exit (tree.Binary to what flags of left right) = binary_fits s.registers to what flags of left right
      resolved_fits exit (tree.Cast to what flags of value target) = cast_fits s.registers to what flags of value target
      resolved_fits exit (tree.Freeze to of value) = freeze_fits s.registers to of value
      resolved_fits exit (tree.Compare to pred of left right) = compare_fits s.registers to pred of left right
      resolved_fits exit (tree.Select to condition of on_true on_false) = select_fits s.registers to condition of on_true on_false
      resolved_fits exit (tree.Phi to of arms) = tt
      resolved_fits exit (tree.Alloca to of n) = alloca_fits s.registers to of n
      resolved_fits exit (tree.Load to of pointer) = load_fits s.registers to of pointer
      resolved_fits exit (tree.Store of value pointer) = store_fits s.registers of value pointer
      resolved_fits exit (tree.Address to inbounds of base indices) = address_fits s.registers m to inbounds of base indices
      resolved_fits exit (tree.Call to of variadic what arguments) = call_fits s.registers to of what arguments
      resolved_fits exit (tree.Return value) = return_fits s.registers value
      resolved_fits exit (tree.Jump target) = map_fits (λ e. Unit {0}) (OpFits next) (exit target) op.Jump (any_some _) (λ e q. tt)
      resolved_fits exit (tree.Branch condition on_true on_false) = branch_fits s.registers exit condition on_true on_false
      resolved_fits exit (tree.Switch of value default cases) = switch_fits s.registers exit of value default cases
      resolved_fits exit tree.Unreachable = tt

      op_fits : (exit : ℕ → Option ℕ) (i : Instruction ℕ ℕ ℕ) → OpFits next (op_of m t s exit i)
      op_fits exit i = unwrap_fits (OpFits next) (resolved m t s exit i) op.Stuck (resolved_fits exit i) tt

      ops_fit : (exits : Leading) (is : List (Instruction ℕ ℕ ℕ)) → AllByRecursion (OpFits next) (ops_of m t s exits is)
      ops_fit exits is =
          let exit : ℕ → Option ℕ = exit_at s.labels exits.targets exits.first in
          let rest : List (Instruction ℕ ℕ ℕ) = drop (length (joins_of is)) is in
          by_append (OpFits next) (replicate (length (joins_of is)) op.Phi) (map (op_of m t s exit) rest)
          (by_replicate (OpFits next) (length (joins_of is)) op.Phi tt)
          (by_map (OpFits next) (op_of m t s exit) rest (by_all (λ i. OpFits next (op_of m t s exit i)) (op_fits exit) rest))

      blocks_fit : (first first_edge : ℕ) (bs : List (Block ℕ ℕ ℕ)) → AllByRecursion (BlockFits next) (blocks_from m t s first first_edge bs)
      blocks_fit first first_edge [] = tt
      blocks_fit first first_edge (b ∷ bs) = (ops_fit (record { first = first_edge; targets = targets_of (edges_of t s b) }) b.instructions, blocks_fit (first + length b.instructions) (first_edge + length (edges_of t s b)) bs)

  -- ---- functions

  function_fits : (m : Items) (f : Function ℕ ℕ ℕ) → FunctionFits next (function_of m t f)
  unfolding function_of
  function_fits m f = record { blocks = blocks_fit (scope_of t f) m 0 0 f.blocks; edges = by_flat (EdgeFits next) (edges_of t (scope_of t f)) (edges_fit (scope_of t f)) f.blocks }

pub codes_fit : CodesFit
unfolding code_of
codes_fit m h =
    by_map (FunctionFits (count m)) (function_of m (tables_of m)) m.functions
    (by_all (λ f. FunctionFits (count m) (function_of m (tables_of m) f)) (function_fits (count m) (tables_of m) (tables_fit m h) m) m.functions)
