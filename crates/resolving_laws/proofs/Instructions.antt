-- An instruction that is resolved is what its names, types and constants stand for.
use Rattle.std.proofs.Common.{◌≡◌, ℕ, ◌*◌, ◌-◌, ◌^◌, min, true, false, Bool, List, [], Option, Some, None, refl, sym, ap, subst, if◌then◌else◌}
use Rattle.std.specs.Prelude.{IfSome, option_map, slice_index_or}
use Rattle.int_num.specs.Integer.{Integer}
use Rattle.int_num.specs.declared.ops.BinOp.{BinOp}
use Rattle.int_num.specs.declared.ops.CastOp.{CastOp}
use Rattle.int_num.specs.declared.ops.Flags.{Flags}
use Rattle.int_num.specs.declared.ops.Pred.{Pred}
use Rattle.ir_tree.specs.declared.instruction.Operand.{Operand as Named}
use Rattle.ir_tree.specs.declared.instruction.Operand.TheVariants as named
use Rattle.ir_tree.specs.declared.instruction.Argument.{Argument}
use Rattle.ir_tree.specs.declared.instruction.Case.{Case}
use Rattle.ir_tree.specs.declared.instruction.Callee.{Callee}
use Rattle.ir_tree.specs.declared.instruction.Callee.TheVariants as callee
use Rattle.ir_tree.specs.declared.instruction.Instruction.{Instruction}
use Rattle.ir_tree.specs.declared.instruction.Instruction.TheVariants as tree
use Rattle.ir_tree.specs.declared.items.Function.{Function}
use Rattle.ir_tree.specs.declared.layout.Layout.{Layout}
use Rattle.ir_tree.specs.Naming.{type_at, constant_at}
use Rattle.ir_tree.specs.Modules.{Items, types_of, layout_in}
use Rattle.ir_code.specs.declared.op.Scalar.{Scalar}
use Rattle.ir_code.specs.declared.op.Scalar.TheVariants as scalar
use Rattle.ir_code.specs.declared.op.Fixed.{Fixed}
use Rattle.ir_code.specs.declared.op.Fixed.TheVariants as fixed
use Rattle.ir_code.specs.declared.op.Operand.{Operand}
use Rattle.ir_code.specs.declared.op.Operand.TheVariants as operand
use Rattle.ir_code.specs.declared.op.Op.{Op}
use Rattle.ir_code.specs.declared.op.Op.TheVariants as op
use Rattle.ir_code.specs.declared.code.Edge.{Edge}
use Rattle.ir_code.specs.declared.lookups.Linkage.TheVariants as linkage
use Rattle.ir_code.specs.Options.{every}
use Rattle.ir_code.specs.Places.{place_of}
use Rattle.ir_code.specs.Cases.{edge_of}
use Rattle.ir_code.specs.Strides.{strides}
use Rattle.ir_code.specs.Tables.{Tables, scalar_at, size_at, type_of, fixed_at}
use Rattle.ir_code.specs.Families.{width_of, bits_of, is_stored, stored, call_of, constant_count, count_of, parameters_at, result_register, case_at, cases_at, operand_at, argument_at, binary, cast, freeze, compare, select, alloca, load, store, arguments_at, call, return_of, branch, switch}
use Rattle.ir_code.specs.Addresses.{address}
use Rattle.ir_code.specs.Blocks.{Join, resolved}
use Rattle.ir_code.specs.Coding.{tables_of}
use Rattle.resolving_laws.specs.Looking.{IsFirst, Each}
use Rattle.resolving_laws.specs.Constants.{IsType, AreSteps, IsConstant}
use Rattle.resolving_laws.specs.Resolved.{register_names, IsRegister, IsResult, IsOperand, IsArgument, IsCount, LeadsTo, IsCall, IsCalled, IsCase, IsResolved}
use Rattle.resolving_laws.proofs.Options.{and_then, then_map, every_each, weaken}
use Rattle.resolving_laws.proofs.Firsts.{place_first, named_first}
use Rattle.resolving_laws.proofs.Constants.{typed, answered, sized, stepped, constant_valued}
use Rattle.resolving_laws.proofs.Callees.{linked}
use Rattle.resolving_laws.proofs.Cases.{first_cases}

module _ (m : Items) (f : Function ℕ ℕ ℕ) where
  abbrev names : List (Option ℕ)
  names = register_names f

  abbrev tables : Tables
  tables = tables_of m

  -- ---- operands

  register_is : (x : ℕ) → IfSome (place_of names x) (IsRegister f x)
  register_is x = place_first names x

  pub operand_is : (s : Scalar) (value : Named ℕ ℕ) → IfSome (operand_at tables names s value) (IsOperand m f s value)
  operand_is s (named.Register x) = then_map (IsRegister f x) (IsOperand m f s (named.Register x)) (place_of names x) operand.Register (register_is x) (λ r h. (r, h, refl))
  operand_is s (named.Constant k) =
      then_map (IsConstant m (type_of s) (constant_at m.names k)) (IsOperand m f s (named.Constant k)) (fixed_at tables s k) operand.Constant (constant_valued m s k) (λ v h. (v, h, refl))

  argument_is : (a : Argument ℕ ℕ ℕ) → IfSome (argument_at tables names a) (IsArgument m f a)
  argument_is a =
      and_then (IsType m.names a.of) (IsArgument m f a) (scalar_at tables a.of) _ (typed m a.of)
      (λ s h. weaken (IsOperand m f s a.value) (IsArgument m f a) (operand_at tables names s a.value) (operand_is s a.value) (λ o p. (s, h, p)))

  arguments_are : (xs : List (Argument ℕ ℕ ℕ)) → IfSome (arguments_at tables names xs) (Each (IsArgument m f) xs)
  arguments_are xs = every_each (IsArgument m f) (argument_at tables names) argument_is xs

  result_is : (to : Option ℕ) → IfSome (result_register names to) (IsResult f to)
  result_is None = refl
  result_is (Some x) = then_map (IsRegister f x) (IsResult f (Some x)) (place_of names x) Some (register_is x) (λ r h. (r, h, refl))

  -- ---- counts

  bits_if : (s : Scalar) (of k : ℕ) → IsType m.names of s → (v : Fixed) → IsConstant m (type_of s) (constant_at m.names k) v → IfSome (bits_of v) (IsCount m f (Some (record { of = of; value = named.Constant k })))
  bits_if s of k t (fixed.Int n) h = (s, k, n, t, refl, h, refl)
  bits_if s of k t fixed.Null h = tt
  bits_if s of k t (fixed.Global i offset) h = tt
  bits_if s of k t (fixed.Function i) h = tt
  bits_if s of k t fixed.Nowhere h = tt

  constant_counted : (of : ℕ) (value : Named ℕ ℕ) → IfSome (constant_count tables of value) (IsCount m f (Some (record { of = of; value = value })))
  constant_counted of (named.Register x) = tt
  constant_counted of (named.Constant k) =
      and_then (IsType m.names of) (IsCount m f (Some (record { of = of; value = named.Constant k }))) (scalar_at tables of) _ (typed m of)
      (λ s t. and_then (IsConstant m (type_of s) (constant_at m.names k)) (IsCount m f (Some (record { of = of; value = named.Constant k }))) (fixed_at tables s k) _ (constant_valued m s k) (λ v h. bits_if s of k t v h))

  counted : (a : Option (Argument ℕ ℕ ℕ)) → IfSome (count_of tables a) (IsCount m f a)
  counted None = refl
  counted (Some a) = constant_counted a.of a.value

  -- ---- types

  integer : (of : ℕ) (u : Scalar) → IsType m.names of u → IfSome (width_of u) (λ w. IsType m.names of (scalar.Int w))
  integer of (scalar.Int w) h = h
  integer of scalar.Pointer h = tt

  kept : (s : Scalar) → IfSome (stored s) (λ u. u ≡ s)
  kept s = if_kept (is_stored s)
    where
      if_kept : (b : Bool) → IfSome (if b then Some s else None) (λ u. u ≡ s)
      if_kept true = refl
      if_kept false = tt

  -- ---- over the edges of the code, a label, and where the edges of its block lead

  module _ (edges : List Edge) (label : ℕ) (exit : ℕ → Option ℕ) (leads : (x : ℕ) → IfSome (exit x) (LeadsTo m f edges label x)) where
    abbrev Is : Instruction ℕ ℕ ℕ → Op → Type 0
    Is i o = IsResolved m f edges label i o

    binary_is : (to : ℕ) (what : BinOp) (flags : Flags) (of : ℕ) (x y : Named ℕ ℕ) → IfSome (binary tables names to what flags of x y) (Is (tree.Binary to what flags of x y))
    unfolding IsResolved
    binary_is to what flags of x y =
        and_then (IsRegister f to) (Is (tree.Binary to what flags of x y)) (place_of names to) _ (register_is to)
        (λ r p. and_then (IsType m.names of) (Is (tree.Binary to what flags of x y)) (scalar_at tables of) _ (typed m of)
        (λ s t. and_then (IsOperand m f s x) (Is (tree.Binary to what flags of x y)) (operand_at tables names s x) _ (operand_is s x)
        (λ a g. and_then (IsOperand m f s y) (Is (tree.Binary to what flags of x y)) (operand_at tables names s y) _ (operand_is s y)
        (λ b h. (r, s, a, b, p, t, g, h, refl)))))

    cast_is : (to : ℕ) (what : CastOp) (flags : Flags) (of : ℕ) (x : Named ℕ ℕ) (target : ℕ) → IfSome (cast tables names to what flags of x target) (Is (tree.Cast to what flags of x target))
    unfolding IsResolved
    cast_is to what flags of x target =
        and_then (IsRegister f to) (Is (tree.Cast to what flags of x target)) (place_of names to) _ (register_is to)
        (λ r p. and_then (IsType m.names of) (Is (tree.Cast to what flags of x target)) (scalar_at tables of) _ (typed m of)
        (λ s t. and_then (IsOperand m f s x) (Is (tree.Cast to what flags of x target)) (operand_at tables names s x) _ (operand_is s x)
        (λ a g. and_then (IsType m.names target) (Is (tree.Cast to what flags of x target)) (scalar_at tables target) _ (typed m target)
        (λ u h. and_then (λ w. IsType m.names target (scalar.Int w)) (Is (tree.Cast to what flags of x target)) (width_of u) _ (integer target u h)
        (λ w i. (r, s, a, w, p, t, g, i, refl))))))

    freeze_is : (to of : ℕ) (x : Named ℕ ℕ) → IfSome (freeze tables names to of x) (Is (tree.Freeze to of x))
    unfolding IsResolved
    freeze_is to of x =
        and_then (IsRegister f to) (Is (tree.Freeze to of x)) (place_of names to) _ (register_is to)
        (λ r p. and_then (IsType m.names of) (Is (tree.Freeze to of x)) (scalar_at tables of) _ (typed m of)
        (λ s t. and_then (IsOperand m f s x) (Is (tree.Freeze to of x)) (operand_at tables names s x) _ (operand_is s x)
        (λ a g. (r, s, a, p, t, g, refl))))

    compare_is : (to : ℕ) (pred : Pred) (of : ℕ) (x y : Named ℕ ℕ) → IfSome (compare tables names to pred of x y) (Is (tree.Compare to pred of x y))
    unfolding IsResolved
    compare_is to pred of x y =
        and_then (IsRegister f to) (Is (tree.Compare to pred of x y)) (place_of names to) _ (register_is to)
        (λ r p. and_then (IsType m.names of) (Is (tree.Compare to pred of x y)) (scalar_at tables of) _ (typed m of)
        (λ s t. and_then (IsOperand m f s x) (Is (tree.Compare to pred of x y)) (operand_at tables names s x) _ (operand_is s x)
        (λ a g. and_then (IsOperand m f s y) (Is (tree.Compare to pred of x y)) (operand_at tables names s y) _ (operand_is s y)
        (λ b h. (r, s, a, b, p, t, g, h, refl)))))

    select_is : (to : ℕ) (c : Named ℕ ℕ) (of : ℕ) (x y : Named ℕ ℕ) → IfSome (select tables names to c of x y) (Is (tree.Select to c of x y))
    unfolding IsResolved
    select_is to c of x y =
        and_then (IsRegister f to) (Is (tree.Select to c of x y)) (place_of names to) _ (register_is to)
        (λ r p. and_then (IsType m.names of) (Is (tree.Select to c of x y)) (scalar_at tables of) _ (typed m of)
        (λ s t. and_then (IsOperand m f (scalar.Int 1) c) (Is (tree.Select to c of x y)) (operand_at tables names (scalar.Int 1) c) _ (operand_is (scalar.Int 1) c)
        (λ d q. and_then (IsOperand m f s x) (Is (tree.Select to c of x y)) (operand_at tables names s x) _ (operand_is s x)
        (λ a g. and_then (IsOperand m f s y) (Is (tree.Select to c of x y)) (operand_at tables names s y) _ (operand_is s y)
        (λ b h. (r, s, d, a, b, p, t, q, g, h, refl))))))

    alloca_is : (to of : ℕ) (n : Option (Argument ℕ ℕ ℕ)) → IfSome (alloca tables names to of n) (Is (tree.Alloca to of n))
    unfolding IsResolved
    alloca_is to of n =
        and_then (IsRegister f to) (Is (tree.Alloca to of n)) (place_of names to) _ (register_is to)
        (λ r p. and_then (λ size. (l : Layout) × (layout_in m of ≡ Some l) × (size ≡ l.size)) (Is (tree.Alloca to of n)) (size_at tables of) _ (sized m of)
        (λ size l. and_then (IsCount m f n) (Is (tree.Alloca to of n)) (count_of tables n) _ (counted n)
        (λ k c. (r, l.0, k, p, l.1, c, ap (λ z. op.Alloca r (min (z * k) (2 ^ 64 - 1))) l.2))))

    load_is : (to of : ℕ) (x : Named ℕ ℕ) → IfSome (load tables names to of x) (Is (tree.Load to of x))
    unfolding IsResolved
    load_is to of x =
        and_then (IsRegister f to) (Is (tree.Load to of x)) (place_of names to) _ (register_is to)
        (λ r p. and_then (IsType m.names of) (Is (tree.Load to of x)) (scalar_at tables of) _ (typed m of)
        (λ s t. and_then (λ u. u ≡ s) (Is (tree.Load to of x)) (stored s) _ (kept s)
        (λ u e. and_then (IsOperand m f scalar.Pointer x) (Is (tree.Load to of x)) (operand_at tables names scalar.Pointer x) _ (operand_is scalar.Pointer x)
        (λ a g. (r, s, a, p, t, g, ap (λ v. op.Load r v a) e)))))

    store_is : (of : ℕ) (x y : Named ℕ ℕ) → IfSome (store tables names of x y) (Is (tree.Store of x y))
    unfolding IsResolved
    store_is of x y =
        and_then (IsType m.names of) (Is (tree.Store of x y)) (scalar_at tables of) _ (typed m of)
        (λ s t. and_then (λ u. u ≡ s) (Is (tree.Store of x y)) (stored s) _ (kept s)
        (λ u e. and_then (IsOperand m f u x) (Is (tree.Store of x y)) (operand_at tables names u x) _ (operand_is u x)
        (λ a g. and_then (IsOperand m f scalar.Pointer y) (Is (tree.Store of x y)) (operand_at tables names scalar.Pointer y) _ (operand_is scalar.Pointer y)
        (λ p h. (u, a, p, subst (IsType m.names of) (sym e) t, g, h, refl)))))

    address_is : (to : ℕ) (inbounds : Bool) (of : ℕ) (x : Named ℕ ℕ) (xs : List (Argument ℕ ℕ ℕ)) → IfSome (address m tables names to inbounds of x xs) (Is (tree.Address to inbounds of x xs))
    unfolding IsResolved
    address_is to inbounds of x xs =
        and_then (IsRegister f to) (Is (tree.Address to inbounds of x xs)) (place_of names to) _ (register_is to)
        (λ r p. and_then (λ size. (l : Layout) × (layout_in m of ≡ Some l) × (size ≡ l.size)) (Is (tree.Address to inbounds of x xs)) (size_at tables of) _ (sized m of)
        (λ size l. and_then (IsOperand m f scalar.Pointer x) (Is (tree.Address to inbounds of x xs)) (operand_at tables names scalar.Pointer x) _ (operand_is scalar.Pointer x)
        (λ a g. and_then (Each (IsArgument m f) xs) (Is (tree.Address to inbounds of x xs)) (arguments_at tables names xs) _ (arguments_are xs)
        (λ vs h. and_then (AreSteps (types_of m) (type_at m.names of) vs) (Is (tree.Address to inbounds of x xs)) (strides (types_of m) (type_at m.names of) vs) _ (stepped (types_of m) (type_at m.names of) vs)
        (λ steps q. (r, a, vs, steps, p, g, h, q, refl))))))

    called : (r : Option ℕ) (values : List Operand) (of x k : ℕ) (xs : List (Argument ℕ ℕ ℕ)) (g : IsFirst (λ h. h.name ≡ x) m.functions k)
        → IfSome (call_of r values k (slice_index_or tables.linkages k linkage.Unknown)) (IsCalled m f r of xs values (callee.Function x))
    called r values of x k xs g =
        weaken (IsCall m f r values x k g.item.declared) (IsCalled m f r of xs values (callee.Function x)) (call_of r values k (slice_index_or tables.linkages k linkage.Unknown))
        (linked m f r values x k g.item g.at g.is) (λ o h. (k, g, h))

    call_is : (to : Option ℕ) (of : ℕ) (variadic : Bool) (what : Callee ℕ) (xs : List (Argument ℕ ℕ ℕ)) → IfSome (call tables names to of what xs) (Is (tree.Call to of variadic what xs))
    unfolding IsResolved
    call_is to of variadic (callee.Function x) xs =
        and_then (IsResult f to) (Is (tree.Call to of variadic (callee.Function x) xs)) (result_register names to) _ (result_is to)
        (λ r p. and_then (IsFirst (λ h. h.name ≡ x) m.functions) (Is (tree.Call to of variadic (callee.Function x) xs)) (place_of tables.functions x) _ (named_first (λ (h : Function ℕ ℕ ℕ). h.name) m.functions x)
        (λ k g. and_then (Each (IsArgument m f) xs) (Is (tree.Call to of variadic (callee.Function x) xs)) (arguments_at tables names xs) _ (arguments_are xs)
        (λ vs h. weaken (IsCalled m f r of xs vs (callee.Function x)) (Is (tree.Call to of variadic (callee.Function x) xs)) _ (called r vs of x k xs g) (λ o q. (r, vs, p, h, q)))))
    call_is to of variadic (callee.Pointer x) xs =
        and_then (IsResult f to) (Is (tree.Call to of variadic (callee.Pointer x) xs)) (result_register names to) _ (result_is to)
        (λ r p. and_then (IsRegister f x) (Is (tree.Call to of variadic (callee.Pointer x) xs)) (place_of names x) _ (register_is x)
        (λ k g. and_then (Each (IsArgument m f) xs) (Is (tree.Call to of variadic (callee.Pointer x) xs)) (arguments_at tables names xs) _ (arguments_are xs)
        (λ vs h. and_then (Each (λ (a : Argument ℕ ℕ ℕ) s. IsType m.names a.of s) xs) (Is (tree.Call to of variadic (callee.Pointer x) xs)) (parameters_at tables xs) _
        (every_each (λ (a : Argument ℕ ℕ ℕ) s. IsType m.names a.of s) (λ a. scalar_at tables a.of) (λ a. typed m a.of) xs)
        (λ ps q. (r, vs, p, h, (k, scalar_at tables of, ps, g, answered m of, q, refl))))))

    return_is : (x : Option (Argument ℕ ℕ ℕ)) → IfSome (return_of tables names x) (Is (tree.Return x))
    unfolding IsResolved
    return_is None = refl
    return_is (Some a) = then_map (IsArgument m f a) (Is (tree.Return (Some a))) (argument_at tables names a) _ (argument_is a) (λ v h. (v, h, refl))

    jump_is : (x : ℕ) → IfSome (option_map op.Jump (exit x)) (Is (tree.Jump x))
    unfolding IsResolved
    jump_is x = then_map (LeadsTo m f edges label x) (Is (tree.Jump x)) (exit x) op.Jump (leads x) (λ e h. (e, h, refl))

    branch_is : (c : Named ℕ ℕ) (x y : ℕ) → IfSome (branch tables names exit c x y) (Is (tree.Branch c x y))
    unfolding IsResolved
    branch_is c x y =
        and_then (IsOperand m f (scalar.Int 1) c) (Is (tree.Branch c x y)) (operand_at tables names (scalar.Int 1) c) _ (operand_is (scalar.Int 1) c)
        (λ d q. and_then (LeadsTo m f edges label x) (Is (tree.Branch c x y)) (exit x) _ (leads x)
        (λ a g. and_then (LeadsTo m f edges label y) (Is (tree.Branch c x y)) (exit y) _ (leads y)
        (λ b h. (d, a, b, q, g, h, refl))))

    case_if : (s : Scalar) (c : Case ℕ ℕ) (v : Fixed) → IsConstant m (type_of s) (constant_at m.names c.value) v → IfSome (bits_of v) (λ n. (i : Integer) × IsConstant m (type_of s) (constant_at m.names c.value) (fixed.Int i) × (n ≡ i.bits))
    case_if s c (fixed.Int n) h = (n, h, refl)
    case_if s c fixed.Null h = tt
    case_if s c (fixed.Global i offset) h = tt
    case_if s c (fixed.Function i) h = tt
    case_if s c fixed.Nowhere h = tt

    case_is : (s : Scalar) (c : Case ℕ ℕ) → IfSome (case_at tables exit s c) (IsCase m f edges label s c)
    case_is s c =
        and_then (IsConstant m (type_of s) (constant_at m.names c.value)) (IsCase m f edges label s c) (fixed_at tables s c.value) _ (constant_valued m s c.value)
        (λ v h. and_then (λ n. (i : Integer) × IsConstant m (type_of s) (constant_at m.names c.value) (fixed.Int i) × (n ≡ i.bits)) (IsCase m f edges label s c) (bits_of v) _ (case_if s c v h)
        (λ n i. and_then (LeadsTo m f edges label c.to) (IsCase m f edges label s c) (exit c.to) _ (leads c.to) (λ e g. (i.0, i.1, i.2, g))))

    switch_is : (of : ℕ) (x : Named ℕ ℕ) (d : ℕ) (cases : List (Case ℕ ℕ)) → IfSome (switch tables names exit of x d cases) (Is (tree.Switch of x d cases))
    unfolding IsResolved
    switch_is of x d cases =
        and_then (IsType m.names of) (Is (tree.Switch of x d cases)) (scalar_at tables of) _ (typed m of)
        (λ s t. and_then (IsOperand m f s x) (Is (tree.Switch of x d cases)) (operand_at tables names s x) _ (operand_is s x)
        (λ a g. and_then (LeadsTo m f edges label d) (Is (tree.Switch of x d cases)) (exit d) _ (leads d)
        (λ e h. and_then (λ all. (pairs : List (ℕ × ℕ)) × Each (IsCase m f edges label s) cases pairs × ((y : ℕ) → edge_of all y ≡ edge_of pairs y)) (Is (tree.Switch of x d cases)) (cases_at tables exit s cases) _
        (then_map (Each (IsCase m f edges label s) cases) (λ all. (pairs : List (ℕ × ℕ)) × Each (IsCase m f edges label s) cases pairs × ((y : ℕ) → edge_of all y ≡ edge_of pairs y)) (every (case_at tables exit s) cases) _ (every_each (IsCase m f edges label s) (case_at tables exit s) (case_is s) cases) (λ pairs q. (pairs, q, λ y. first_cases [] pairs y)))
        (λ all q. (s, a, e, q.0, all, t, g, h, q.1, q.2, refl)))))

    unreachable_is : Is tree.Unreachable op.Unreachable
    unfolding IsResolved
    unreachable_is = refl

    -- ---- all of them

    pub resolved_is : (labels : List (Option ℕ)) (joins : List (List Join)) (i : Instruction ℕ ℕ ℕ) → IfSome (resolved m tables (record { registers = names; labels = labels; joins = joins }) exit i) (Is i)
    unfolding resolved
    resolved_is labels joins (tree.Binary to what flags of left right) = binary_is to what flags of left right
    resolved_is labels joins (tree.Cast to what flags of value target) = cast_is to what flags of value target
    resolved_is labels joins (tree.Freeze to of value) = freeze_is to of value
    resolved_is labels joins (tree.Compare to pred of left right) = compare_is to pred of left right
    resolved_is labels joins (tree.Select to condition of on_true on_false) = select_is to condition of on_true on_false
    resolved_is labels joins (tree.Phi to of arms) = tt
    resolved_is labels joins (tree.Alloca to of n) = alloca_is to of n
    resolved_is labels joins (tree.Load to of pointer) = load_is to of pointer
    resolved_is labels joins (tree.Store of value pointer) = store_is of value pointer
    resolved_is labels joins (tree.Address to inbounds of base indices) = address_is to inbounds of base indices
    resolved_is labels joins (tree.Call to of variadic what arguments) = call_is to of variadic what arguments
    resolved_is labels joins (tree.Return value) = return_is value
    resolved_is labels joins (tree.Jump target) = jump_is target
    resolved_is labels joins (tree.Branch condition on_true on_false) = branch_is condition on_true on_false
    resolved_is labels joins (tree.Switch of value default cases) = switch_is of value default cases
    resolved_is labels joins tree.Unreachable = unreachable_is
