-- No instruction of a checked module is stuck.
use Rattle.std.proofs.Common.{◌≡◌, ℕ, suc, ◌*◌, ◌-◌, ◌^◌, min, true, Bool, List, [], ◌∷◌, map, Option, Some, None, slice_get, refl, sym, ap, subst, ◌∙◌}
use Rattle.std.specs.Prelude.{option_map, option_and_then, fold}
use Rattle.std.specs.List.{AllByRecursion, list_all}
use Rattle.std.proofs.lemmas.Option.{slice_get-map}
use Rattle.int_num.specs.declared.ops.BinOp.{BinOp}
use Rattle.int_num.specs.declared.ops.CastOp.{CastOp}
use Rattle.int_num.specs.declared.ops.Flags.{Flags}
use Rattle.int_num.specs.declared.ops.Pred.{Pred}
use Rattle.ir_tree.specs.declared.instruction.Operand.{Operand as Named}
use Rattle.ir_tree.specs.declared.instruction.Operand.TheVariants as named
use Rattle.ir_tree.specs.declared.instruction.Argument.{Argument}
use Rattle.ir_tree.specs.declared.instruction.Arm.{Arm}
use Rattle.ir_tree.specs.declared.instruction.Case.{Case}
use Rattle.ir_tree.specs.declared.instruction.Callee.{Callee}
use Rattle.ir_tree.specs.declared.instruction.Callee.TheVariants as callee
use Rattle.ir_tree.specs.declared.instruction.Instruction.{Instruction}
use Rattle.ir_tree.specs.declared.instruction.Instruction.TheVariants as tree
use Rattle.ir_tree.specs.declared.items.Function.{Function}
use Rattle.ir_tree.specs.Table.{IsTable}
use Rattle.ir_tree.specs.Trees.{IntV, PtrV}
use Rattle.ir_tree.specs.Naming.{type_at}
use Rattle.ir_tree.specs.Shown.{shown, shown_argument, shown_function}
use Rattle.ir_tree.specs.Layouts.{layout_of}
use Rattle.ir_tree.specs.Modules.{Items, types_of}
use Rattle.ir_rules.specs.declared.given.Defined.{Defined}
use Rattle.ir_rules.specs.declared.given.Given.TheVariants.{Pointer, Bit, Written}
use Rattle.ir_rules.specs.Seen.{InstructionV, seen}
use Rattle.ir_rules.specs.Forms.{result_of, used, argument_use, uses, targets, memory_types, register_types, called_names, cast_types, integer_types, is_phi}
use Rattle.ir_rules.specs.Constants.{is_integer}
use Rattle.ir_rules.specs.Causes.{form_fits, operand_index, calls_known, call_allowed, alloca_fits, count_is_constant, all_types_fit, all_names_known}
use Rattle.ir_rules.specs.Reading.{is_register, has_layout, instruction_stands, indices_stand}
use Rattle.ir_rules.specs.Numbering.{is_name, is_type, is_within, function_within}
use Rattle.ir_rules.proofs.SameLemmas.{and_both}
use Rattle.ir_code.specs.declared.op.Scalar.{Scalar}
use Rattle.ir_code.specs.declared.op.Scalar.TheVariants as scalar
use Rattle.ir_code.specs.declared.op.Operand.{Operand}
use Rattle.ir_code.specs.declared.op.Operand.TheVariants as operand
use Rattle.ir_code.specs.declared.op.Op.{Op}
use Rattle.ir_code.specs.declared.op.Op.TheVariants as op
use Rattle.ir_code.specs.Places.{place_of}
use Rattle.ir_code.specs.Cases.{with_case}
use Rattle.ir_code.specs.Tables.{Tables, scalar_at, type_of}
use Rattle.ir_code.specs.Families.{width_of, constant_count, count_of, parameters_at, result_register, case_at, operand_at, argument_at, binary, cast, freeze, compare, select, alloca, load, store, arguments_at, call, return_of, jump, branch, switch}
use Rattle.ir_code.specs.Addresses.{address}
use Rattle.ir_code.specs.Blocks.{Join, resolved}
use Rattle.ir_code.specs.Coding.{tables_of}
use Rattle.resolving_laws.specs.Resolved.{register_names}
use Rattle.resolving_laws.proofs.Lists.{some_of, all_made, from_list_all, zipped}
use Rattle.resolving_laws.proofs.Sound.{Sound, UseSound, IsUse, Within, sound_uses}
use Rattle.resolving_laws.proofs.Values.{Typed, typed_some, size_some, stored_some, integer_some, operand_some}
use Rattle.resolving_laws.proofs.Known.{register_known}
use Rattle.resolving_laws.proofs.Addresses.{IndexSound, indices_some, strides_some}
use Rattle.resolving_laws.proofs.Called.{call_found}
use Rattle.resolving_laws.proofs.Reached.{every_some}

-- ---- what an instruction keeps, part by part

pub record Stands (m : Items) (i : InstructionV) : Type 0 where
  pub registers : list_all is_register (register_types i) ≡ true
  pub memory : list_all (has_layout (types_of m)) (memory_types i) ≡ true
  pub indices : indices_stand (types_of m) i ≡ true

pub stands_parts : (m : Items) (i : InstructionV) → instruction_stands (types_of m) i ≡ true → Stands m i
stands_parts m i e =
    let a = and_both _ (indices_stand (types_of m) i) e in
    let b = and_both _ _ a.0 in
    let c = and_both _ (list_all (has_layout (types_of m)) (memory_types i)) b.0 in
    let d = and_both (list_all is_register (register_types i)) _ c.0 in
    record { registers = d.0; memory = c.1; indices = a.1 }

-- over a function of a checked module
module _ (m : Items) (f : Function ℕ ℕ ℕ) (table : IsTable m.names) (within : is_within m ≡ true) (inside : function_within m.names f ≡ true) where
  abbrev names : List (Option ℕ)
  names = register_names f

  abbrev tables : Tables
  tables = tables_of m

  -- ---- operands

  abbrev HasOperand : Scalar → Named ℕ ℕ → Type 0
  HasOperand s value = (o : Operand) × (operand_at tables names s value ≡ Some o)

  typed_use : (of : ℕ) (value : Named ℕ ℕ) → IsUse m f (used value (Written of)) → is_register (type_at m.names of) ≡ true → Typed m of
  typed_use of value u stands = typed_some m of table u.type stands

  written_operand : (of : ℕ) (t : Typed m of) (value : Named ℕ ℕ) → IsUse m f (used value (Written of)) → HasOperand t.scalar value
  written_operand of t value u = operand_some m f t.scalar value table within inside t.stands (subst (λ type. UseSound m f type value) t.type u.operand)

  pointer_operand : (value : Named ℕ ℕ) → IsUse m f (used value Pointer) → HasOperand scalar.Pointer value
  pointer_operand value u = operand_some m f scalar.Pointer value table within inside refl u.operand

  bit_operand : (value : Named ℕ ℕ) → IsUse m f (used value Bit) → HasOperand (scalar.Int 1) value
  bit_operand value u = operand_some m f (scalar.Int 1) value table within inside refl u.operand

  argument_some : (a : Argument ℕ ℕ ℕ) → IsUse m f (argument_use a) → is_register (type_at m.names a.of) ≡ true → (o : Operand) × (argument_at tables names a ≡ Some o)
  argument_some a u stands =
      let t = typed_use a.of a.value u stands in
      let o = written_operand a.of t a.value u in
      (o.0, ap (option_and_then (λ s. operand_at tables names s a.value)) t.is ∙ o.1)

  arguments_some : (xs : List (Argument ℕ ℕ ℕ)) → AllByRecursion (IsUse m f) (map argument_use xs) → list_all is_register (map (λ a. a.of) (map (shown_argument m.names) xs)) ≡ true
      → ((vs : List Operand) × (arguments_at tables names xs ≡ Some vs)) × ((ss : List Scalar) × (parameters_at tables xs ≡ Some ss))
  arguments_some xs us stands =
      let u = all_made argument_use (IsUse m f) xs us in
      let s = all_made (shown_argument m.names) (λ a. is_register a.of ≡ true) xs (all_made (λ a. a.of) (λ type. is_register type ≡ true) (map (shown_argument m.names) xs) (from_list_all is_register (map (λ a. a.of) (map (shown_argument m.names) xs)) stands)) in (
        every_some (argument_at tables names) xs (zipped (λ a. IsUse m f (argument_use a)) (λ a. is_register (type_at m.names a.of) ≡ true) (λ a. (o : Operand) × (argument_at tables names a ≡ Some o)) argument_some xs u s),
        every_some (λ a. scalar_at tables a.of) xs (zipped (λ a. IsUse m f (argument_use a)) (λ a. is_register (type_at m.names a.of) ≡ true) (λ a. (o : Scalar) × (scalar_at tables a.of ≡ Some o)) (λ a v r. let t = typed_use a.of a.value v r in (t.scalar, t.is)) xs u s),
      )

  integer_type : (of : ℕ) (t : Typed m of) → is_integer (type_at m.names of) ≡ true → (w : ℕ) × (t.scalar ≡ scalar.Int w)
  integer_type of t e = go t.scalar t refl
    where
      go : (s : Scalar) (t : Typed m of) → t.scalar ≡ s → (w : ℕ) × (s ≡ scalar.Int w)
      go (scalar.Int w) t same = (w, refl)
      go scalar.Pointer t same = let no : is_integer PtrV ≡ true = ap is_integer (sym (t.type ∙ ap type_of same)) ∙ e in absurd cc

  -- ---- over an instruction, with the register of its result and the edges that it leads over

  module _ (exit : ℕ → Option ℕ) where
    -- an instruction is resolved
    abbrev Done : Option Op → Type 0
    Done o = (p : Op) × (o ≡ Some p)

    abbrev HasResult : Instruction ℕ ℕ ℕ → Type 0
    HasResult i = (d : Defined ℕ ℕ) → result_of i ≡ Some d → (r : ℕ) × (place_of names d.name ≡ Some r)

    abbrev HasExits : Instruction ℕ ℕ ℕ → Type 0
    HasExits i = (p x : ℕ) → slice_get (targets i) p ≡ Some x → (e : ℕ) × (exit x ≡ Some e)

    binary_some : (to : ℕ) (what : BinOp) (flags : Flags) (of : ℕ) (x y : Named ℕ ℕ) → HasResult (tree.Binary to what flags of x y) → AllByRecursion (IsUse m f) (uses (tree.Binary to what flags of x y))
        → Stands m (shown m.names (tree.Binary to what flags of x y)) → Done (binary tables names to what flags of x y)
    unfolding result_of uses shown register_types
    binary_some to what flags of x y res us st =
        let r = res _ refl in
        let t = typed_use of x us.0 (and_both (is_register (type_at m.names of)) true st.registers).0 in
        let a = written_operand of t x us.0 in
        let b = written_operand of t y us.1.0 in
        (op.Binary r.0 what flags a.0 b.0, rw (r.1, t.is, a.1, b.1) refl)

    cast_some : (to : ℕ) (what : CastOp) (flags : Flags) (of : ℕ) (x : Named ℕ ℕ) (target : ℕ) → HasResult (tree.Cast to what flags of x target) → AllByRecursion (IsUse m f) (uses (tree.Cast to what flags of x target))
        → Stands m (shown m.names (tree.Cast to what flags of x target)) → list_all (is_type m.names) (cast_types (tree.Cast to what flags of x target)) ≡ true → list_all is_integer (integer_types (shown m.names (tree.Cast to what flags of x target))) ≡ true
        → Done (cast tables names to what flags of x target)
    unfolding result_of uses shown register_types cast_types integer_types
    cast_some to what flags of x target res us st casts ints =
        let r = res _ refl in
        let s = and_both (is_register (type_at m.names of)) _ st.registers in
        let q = and_both (is_register (type_at m.names target)) true s.1 in
        let n = and_both (is_integer (type_at m.names of)) _ ints in
        let k = and_both (is_integer (type_at m.names target)) true n.1 in
        let t = typed_use of x us.0 s.0 in
        let a = written_operand of t x us.0 in
        let u = typed_some m target table (and_both (is_type m.names target) true casts).0 q.0 in
        let w = integer_type target u k.0 in
        let wide : width_of u.scalar ≡ Some w.0 = ap width_of w.1 in
        (op.Cast r.0 what flags a.0 w.0, rw (r.1, t.is, a.1, u.is, wide) refl)

    freeze_some : (to of : ℕ) (x : Named ℕ ℕ) → HasResult (tree.Freeze to of x) → AllByRecursion (IsUse m f) (uses (tree.Freeze to of x)) → Stands m (shown m.names (tree.Freeze to of x)) → Done (freeze tables names to of x)
    unfolding result_of uses shown register_types
    freeze_some to of x res us st =
        let r = res _ refl in
        let t = typed_use of x us.0 (and_both (is_register (type_at m.names of)) true st.registers).0 in
        let a = written_operand of t x us.0 in
        (op.Freeze r.0 a.0, rw (r.1, t.is, a.1) refl)

    compare_some : (to : ℕ) (pred : Pred) (of : ℕ) (x y : Named ℕ ℕ) → HasResult (tree.Compare to pred of x y) → AllByRecursion (IsUse m f) (uses (tree.Compare to pred of x y)) → Stands m (shown m.names (tree.Compare to pred of x y))
        → Done (compare tables names to pred of x y)
    unfolding result_of uses shown register_types
    compare_some to pred of x y res us st =
        let r = res _ refl in
        let t = typed_use of x us.0 (and_both (is_register (type_at m.names of)) true st.registers).0 in
        let a = written_operand of t x us.0 in
        let b = written_operand of t y us.1.0 in
        (op.Compare r.0 pred a.0 b.0, rw (r.1, t.is, a.1, b.1) refl)

    select_some : (to : ℕ) (c : Named ℕ ℕ) (of : ℕ) (x y : Named ℕ ℕ) → HasResult (tree.Select to c of x y) → AllByRecursion (IsUse m f) (uses (tree.Select to c of x y)) → Stands m (shown m.names (tree.Select to c of x y))
        → Done (select tables names to c of x y)
    unfolding result_of uses shown register_types
    select_some to c of x y res us st =
        let r = res _ refl in
        let t = typed_use of x us.1.0 (and_both (is_register (type_at m.names of)) true st.registers).0 in
        let d = bit_operand c us.0 in
        let a = written_operand of t x us.1.0 in
        let b = written_operand of t y us.1.1.0 in
        (op.Select r.0 d.0 a.0 b.0, rw (r.1, t.is, d.1, a.1, b.1) refl)

    -- ---- memory

    counted_if : (of : ℕ) (value : Named ℕ ℕ) → IsUse m f (used value (Written of)) → is_register (type_at m.names of) ≡ true → is_integer (type_at m.names of) ≡ true → count_is_constant (Some (shown_argument m.names (record { of = of; value = value }))) ≡ true
        → (n : ℕ) × (constant_count tables of value ≡ Some n)
    counted_if of (named.Register x) u stands int constant = absurd cc
    counted_if of (named.Constant k) u stands int constant =
        let t = typed_use of (named.Constant k) u stands in
        let w = integer_type of t int in
        let type : type_at m.names of ≡ IntV w.0 = t.type ∙ ap type_of w.1 in
        let n = integer_some m f w.0 k (ap (λ s. is_register (type_of s)) (sym w.1) ∙ t.stands) (subst (λ y. UseSound m f y (named.Constant k)) type u.operand) in
        let s : scalar_at tables of ≡ Some (scalar.Int w.0) = t.is ∙ ap Some w.1 in
        (n.0.bits, rw (s, n.1) refl)

    counted_some : (entry : Bool) (to of : ℕ) (n : Option (Argument ℕ ℕ ℕ)) → AllByRecursion (IsUse m f) (uses (tree.Alloca to of n)) → Stands m (shown m.names (tree.Alloca to of n)) → list_all is_integer (integer_types (shown m.names (tree.Alloca to of n))) ≡ true
        → alloca_fits entry (shown m.names (tree.Alloca to of n)) ≡ true → (k : ℕ) × (count_of tables n ≡ Some k)
    unfolding uses shown register_types integer_types alloca_fits
    counted_some entry to of None us st ints fits = (1, refl)
    counted_some entry to of (Some a) us st ints fits =
        counted_if a.of a.value us.0 (and_both (is_register (type_at m.names a.of)) true st.registers).0 (and_both (is_integer (type_at m.names a.of)) true ints).0 (and_both entry (count_is_constant (Some (shown_argument m.names a))) fits).1

    alloca_some : (entry : Bool) (to of : ℕ) (n : Option (Argument ℕ ℕ ℕ)) → HasResult (tree.Alloca to of n) → AllByRecursion (IsUse m f) (uses (tree.Alloca to of n)) → Stands m (shown m.names (tree.Alloca to of n))
        → list_all is_integer (integer_types (shown m.names (tree.Alloca to of n))) ≡ true → alloca_fits entry (shown m.names (tree.Alloca to of n)) ≡ true → list_all (is_type m.names) (memory_types (tree.Alloca to of n)) ≡ true → Done (alloca tables names to of n)
    unfolding result_of shown memory_types
    alloca_some entry to of n res us st ints fits inside_memory =
        let r = res _ refl in
        let size = size_some m of (and_both (is_type m.names of) true inside_memory).0 (and_both (has_layout (types_of m) (type_at m.names of)) true st.memory).0 in
        let k = counted_some entry to of n us st ints fits in
        (op.Alloca r.0 (min (size.0 * k.0) (2 ^ 64 - 1)), rw (r.1, size.1, k.1) refl)

    load_some : (to of : ℕ) (x : Named ℕ ℕ) → HasResult (tree.Load to of x) → AllByRecursion (IsUse m f) (uses (tree.Load to of x)) → Stands m (shown m.names (tree.Load to of x)) → list_all (is_type m.names) (memory_types (tree.Load to of x)) ≡ true
        → Done (load tables names to of x)
    unfolding result_of uses shown register_types memory_types
    load_some to of x res us st inside_memory =
        let r = res _ refl in
        let t = typed_some m of table (and_both (is_type m.names of) true inside_memory).0 (and_both (is_register (type_at m.names of)) true st.registers).0 in
        let k = stored_some m t.scalar (ap (has_layout (types_of m)) (sym t.type) ∙ (and_both (has_layout (types_of m) (type_at m.names of)) true st.memory).0) in
        let p = pointer_operand x us.0 in
        (op.Load r.0 t.scalar p.0, rw (r.1, t.is, k, p.1) refl)

    store_some : (of : ℕ) (x y : Named ℕ ℕ) → AllByRecursion (IsUse m f) (uses (tree.Store of x y)) → Stands m (shown m.names (tree.Store of x y)) → Done (store tables names of x y)
    unfolding uses shown register_types memory_types
    store_some of x y us st =
        let t = typed_use of x us.0 (and_both (is_register (type_at m.names of)) true st.registers).0 in
        let k = stored_some m t.scalar (ap (has_layout (types_of m)) (sym t.type) ∙ (and_both (has_layout (types_of m) (type_at m.names of)) true st.memory).0) in
        let a = written_operand of t x us.0 in
        let p = pointer_operand y us.1.0 in
        (op.Store t.scalar a.0 p.0, rw (t.is, k, a.1, p.1) refl)

    index_sound : (xs : List (Argument ℕ ℕ ℕ)) → AllByRecursion (IsUse m f) (map argument_use xs) → list_all is_register (map (λ a. a.of) (map (shown_argument m.names) xs)) ≡ true → list_all is_integer (map (λ a. a.of) (map (shown_argument m.names) xs)) ≡ true
        → AllByRecursion (IndexSound m f) xs
    index_sound xs us stands ints =
        let u = all_made argument_use (IsUse m f) xs us in
        let s = all_made (shown_argument m.names) (λ a. is_register a.of ≡ true) xs (all_made (λ a. a.of) (λ type. is_register type ≡ true) (map (shown_argument m.names) xs) (from_list_all is_register (map (λ a. a.of) (map (shown_argument m.names) xs)) stands)) in
        let n = all_made (shown_argument m.names) (λ a. is_integer a.of ≡ true) xs (all_made (λ a. a.of) (λ type. is_integer type ≡ true) (map (shown_argument m.names) xs) (from_list_all is_integer (map (λ a. a.of) (map (shown_argument m.names) xs)) ints)) in
        zipped (λ a. IsUse m f (argument_use a)) (λ (a : Argument ℕ ℕ ℕ). (is_register (type_at m.names a.of) ≡ true) × (is_integer (type_at m.names a.of) ≡ true)) (IndexSound m f) (λ a v q. record { operand = v.operand; type = v.type; integer = q.1; stands = q.0 }) xs u
        (zipped (λ (a : Argument ℕ ℕ ℕ). is_register (type_at m.names a.of) ≡ true) (λ (a : Argument ℕ ℕ ℕ). is_integer (type_at m.names a.of) ≡ true) _ (λ a v q. (v, q)) xs s n)

    address_some : (to : ℕ) (inbounds : Bool) (of : ℕ) (x : Named ℕ ℕ) (xs : List (Argument ℕ ℕ ℕ)) → HasResult (tree.Address to inbounds of x xs) → AllByRecursion (IsUse m f) (uses (tree.Address to inbounds of x xs)) → Stands m (shown m.names (tree.Address to inbounds of x xs))
        → list_all is_integer (integer_types (shown m.names (tree.Address to inbounds of x xs))) ≡ true → form_fits (seen m) (shown_function m.names f) (shown m.names (tree.Address to inbounds of x xs)) ≡ true
        → list_all (is_type m.names) (memory_types (tree.Address to inbounds of x xs)) ≡ true → Done (address m tables names to inbounds of x xs)
    unfolding result_of uses shown register_types memory_types integer_types form_fits indices_stand
    address_some to inbounds of x xs res us st ints form inside_memory =
        let r = res _ refl in
        let laid = (and_both (has_layout (types_of m) (type_at m.names of)) true st.memory).0 in
        let size = size_some m of (and_both (is_type m.names of) true inside_memory).0 laid in
        let p = pointer_operand x us.0 in
        let vs = indices_some m f table within inside xs (index_sound xs us.1 st.registers ints) in
        let l = some_of (layout_of (types_of m) (type_at m.names of)) laid in
        let steps = strides_some (types_of m) (type_at m.names of) l.0 vs.0 (map (λ a. operand_index a.of a.value) (map (shown_argument m.names) xs)) l.1 vs.2 form st.indices in
        (op.Address r.0 inbounds p.0 steps.0, rw (r.1, size.1, p.1, vs.1, steps.1) refl)

    -- ---- calls

    result_some : (to : Option ℕ) (of : ℕ) (variadic : Bool) (what : Callee ℕ) (xs : List (Argument ℕ ℕ ℕ)) → HasResult (tree.Call to of variadic what xs) → (r : Option ℕ) × (result_register names to ≡ Some r)
    unfolding result_of
    result_some None of variadic what xs res = (None, refl)
    result_some (Some x) of variadic what xs res = let r = res _ refl in (Some r.0, ap (option_map Some) r.1)

    argument_registers : (to : Option ℕ) (of : ℕ) (variadic : Bool) (what : Callee ℕ) (xs : List (Argument ℕ ℕ ℕ)) → Stands m (shown m.names (tree.Call to of variadic what xs)) → list_all is_register (map (λ a. a.of) (map (shown_argument m.names) xs)) ≡ true
    unfolding shown register_types
    argument_registers None of variadic what xs st = st.registers
    argument_registers (Some x) of variadic what xs st = (and_both (is_register (type_at m.names of)) _ st.registers).1

    call_some : (to : Option ℕ) (of : ℕ) (variadic : Bool) (what : Callee ℕ) (xs : List (Argument ℕ ℕ ℕ)) → HasResult (tree.Call to of variadic what xs) → AllByRecursion (IsUse m f) (uses (tree.Call to of variadic what xs)) → Stands m (shown m.names (tree.Call to of variadic what xs))
        → list_all (function_within m.names) m.functions ≡ true → list_all (is_name m.names) (called_names (tree.Call to of variadic what xs)) ≡ true → calls_known (seen m) (shown m.names (tree.Call to of variadic what xs)) ≡ true
        → call_allowed (seen m) (shown m.names (tree.Call to of variadic what xs)) ≡ true → Done (call tables names to of what xs)
    unfolding uses shown called_names calls_known call_allowed
    call_some to of variadic (callee.Function x) xs res us st functions own known allowed =
        let r = result_some to of variadic (callee.Function x) xs res in
        let vs = (arguments_some xs us (argument_registers to of variadic (callee.Function x) xs st)).0 in
        let c = call_found m r.0 vs.0 x (map (shown_argument m.names) xs) table functions (and_both (is_name m.names x) true own).0 known allowed in
        (c.op, rw (r.1, c.at, vs.1) c.is)
    call_some to of variadic (callee.Pointer x) xs res us st functions own known allowed =
        let r = result_some to of variadic (callee.Pointer x) xs res in
        let p = register_known m.names table f x inside us.0.operand.within us.0.operand.known in
        let all = arguments_some xs us.1 (argument_registers to of variadic (callee.Pointer x) xs st) in
        (op.CallPointer r.0 (operand.Register p.0) (scalar_at tables of) all.1.0 all.0.0, rw (r.1, p.1, all.0.1, all.1.1) refl)

    -- ---- ends of blocks

    return_some : (x : Option (Argument ℕ ℕ ℕ)) → AllByRecursion (IsUse m f) (uses (tree.Return x)) → Stands m (shown m.names (tree.Return x)) → Done (return_of tables names x)
    unfolding uses shown register_types
    return_some None us st = (op.Return None, refl)
    return_some (Some a) us st = let v = argument_some a us.0 (and_both (is_register (type_at m.names a.of)) true st.registers).0 in (op.Return (Some v.0), ap (option_map (λ value. op.Return (Some value))) v.1)

    jump_some : (x : ℕ) → HasExits (tree.Jump x) → Done (jump exit x)
    unfolding targets
    jump_some x exits = let e = exits 0 x refl in (op.Jump e.0, ap (option_map op.Jump) e.1)

    branch_some : (c : Named ℕ ℕ) (x y : ℕ) → AllByRecursion (IsUse m f) (uses (tree.Branch c x y)) → HasExits (tree.Branch c x y) → Done (branch tables names exit c x y)
    unfolding uses targets
    branch_some c x y us exits =
        let d = bit_operand c us.0 in
        let a = exits 0 x refl in
        let b = exits 1 y refl in
        (op.Branch d.0 a.0 b.0, rw (d.1, a.1, b.1) refl)

    by_place : {A : Type 0} (P : A → Type 0) (xs : List A) → ((k : ℕ) (x : A) → slice_get xs k ≡ Some x → P x) → AllByRecursion P xs
    by_place P [] h = tt
    by_place P (x ∷ xs) h = (h 0 x refl, by_place P xs (λ k y e. h (suc k) y e))

    case_some : (of : ℕ) (t : Typed m of) (w : ℕ) (c : Case ℕ ℕ) → t.scalar ≡ scalar.Int w → IsUse m f (used (named.Constant c.value) (Written of)) → (e : ℕ) × (exit c.to ≡ Some e) → (p : ℕ × ℕ) × (case_at tables exit t.scalar c ≡ Some p)
    case_some of t w c int u e =
        let type : type_at m.names of ≡ IntV w = t.type ∙ ap type_of int in
        let n = integer_some m f w c.value (ap (λ s. is_register (type_of s)) (sym int) ∙ t.stands) (subst (λ y. UseSound m f y (named.Constant c.value)) type u.operand) in
        ((n.0.bits, e.0), ap (λ s. case_at tables exit s c) int ∙ (rw (n.1, e.1) refl))

    switch_some : (of : ℕ) (x : Named ℕ ℕ) (d : ℕ) (cases : List (Case ℕ ℕ)) → AllByRecursion (IsUse m f) (uses (tree.Switch of x d cases)) → Stands m (shown m.names (tree.Switch of x d cases)) → list_all is_integer (integer_types (shown m.names (tree.Switch of x d cases))) ≡ true
        → HasExits (tree.Switch of x d cases) → Done (switch tables names exit of x d cases)
    unfolding uses targets shown register_types integer_types
    switch_some of x d cases us st ints exits =
        let t = typed_use of x us.0 (and_both (is_register (type_at m.names of)) true st.registers).0 in
        let w = integer_type of t (and_both (is_integer (type_at m.names of)) true ints).0 in
        let a = written_operand of t x us.0 in
        let e = exits 0 d refl in
        let leads = by_place (λ (c : Case ℕ ℕ). (e : ℕ) × (exit c.to ≡ Some e)) cases (λ k c at. exits (suc k) c.to (slice_get-map (λ (c : Case ℕ ℕ). c.to) cases k ∙ ap (option_map (λ (c : Case ℕ ℕ). c.to)) at)) in
        let pairs = every_some (case_at tables exit t.scalar) cases
        (zipped (λ (c : Case ℕ ℕ). IsUse m f (used (named.Constant c.value) (Written of))) (λ (c : Case ℕ ℕ). (e : ℕ) × (exit c.to ≡ Some e)) (λ c. (p : ℕ × ℕ) × (case_at tables exit t.scalar c ≡ Some p)) (λ c u l. case_some of t w.0 c w.1 u l) cases
        (all_made (λ (c : Case ℕ ℕ). used (named.Constant c.value) (Written of)) (IsUse m f) cases us.1) leads) in
        (op.Switch a.0 e.0 (fold (λ done c. with_case done c.0 c.1) [] pairs.0), rw (t.is, a.1, e.1, pairs.1) refl)

    -- ---- all of them

    phi_is : (to of : ℕ) (arms : List (Arm ℕ ℕ)) → is_phi {N = ℕ} {T = ℕ} {C = ℕ} (tree.Phi to of arms) ≡ true
    unfolding is_phi
    phi_is to of arms = refl

    form_is : (i : Instruction ℕ ℕ ℕ) → all_types_fit (seen m) (shown_function m.names f) (shown m.names i) ≡ true → form_fits (seen m) (shown_function m.names f) (shown m.names i) ≡ true
    form_is i e = (and_both _ (form_fits (seen m) (shown_function m.names f) (shown m.names i)) e).1

    integers_are : (i : Instruction ℕ ℕ ℕ) → all_types_fit (seen m) (shown_function m.names f) (shown m.names i) ≡ true → list_all is_integer (integer_types (shown m.names i)) ≡ true
    integers_are i e = (and_both _ (list_all is_integer (integer_types (shown m.names i))) (and_both _ (form_fits (seen m) (shown_function m.names f) (shown m.names i)) e).0).1

    calls_are : (i : Instruction ℕ ℕ ℕ) → all_names_known (seen m) (shown_function m.names f) (shown m.names i) ≡ true → calls_known (seen m) (shown m.names i) ≡ true
    calls_are i e = (and_both _ (calls_known (seen m) (shown m.names i)) e).1

    module _ (labels : List (Option ℕ)) (joins : List (List Join)) (functions : list_all (function_within m.names) m.functions ≡ true) where
      pub resolved_some : (i : Instruction ℕ ℕ ℕ) → Sound m f i → Within m.names i → (is_phi i ≡ true → ⊥) → HasResult i → HasExits i → Done (resolved m tables (record { registers = names; labels = labels; joins = joins }) exit i)
      unfolding resolved
      resolved_some (tree.Binary to what flags of x y) s w n res ex = binary_some to what flags of x y res (sound_uses m f _ s) (stands_parts m _ s.stands)
      resolved_some (tree.Cast to what flags of x target) s w n res ex = cast_some to what flags of x target res (sound_uses m f _ s) (stands_parts m _ s.stands) w.casts (integers_are _ s.types)
      resolved_some (tree.Freeze to of x) s w n res ex = freeze_some to of x res (sound_uses m f _ s) (stands_parts m _ s.stands)
      resolved_some (tree.Compare to pred of x y) s w n res ex = compare_some to pred of x y res (sound_uses m f _ s) (stands_parts m _ s.stands)
      resolved_some (tree.Select to c of x y) s w n res ex = select_some to c of x y res (sound_uses m f _ s) (stands_parts m _ s.stands)
      resolved_some (tree.Phi to of arms) s w n res ex = absurd (n (phi_is to of arms))
      resolved_some (tree.Alloca to of k) s w n res ex = alloca_some s.entry to of k res (sound_uses m f _ s) (stands_parts m _ s.stands) (integers_are _ s.types) s.alloca w.memory
      resolved_some (tree.Load to of x) s w n res ex = load_some to of x res (sound_uses m f _ s) (stands_parts m _ s.stands) w.memory
      resolved_some (tree.Store of x y) s w n res ex = store_some of x y (sound_uses m f _ s) (stands_parts m _ s.stands)
      resolved_some (tree.Address to inbounds of x xs) s w n res ex = address_some to inbounds of x xs res (sound_uses m f _ s) (stands_parts m _ s.stands) (integers_are _ s.types) (form_is _ s.types) w.memory
      resolved_some (tree.Call to of variadic what xs) s w n res ex = call_some to of variadic what xs res (sound_uses m f _ s) (stands_parts m _ s.stands) functions w.names (calls_are _ s.known) s.calls
      resolved_some (tree.Return x) s w n res ex = return_some x (sound_uses m f _ s) (stands_parts m _ s.stands)
      resolved_some (tree.Jump x) s w n res ex = jump_some x ex
      resolved_some (tree.Branch c x y) s w n res ex = branch_some c x y (sound_uses m f _ s) ex
      resolved_some (tree.Switch of x d cases) s w n res ex = switch_some of x d cases (sound_uses m f _ s) (stands_parts m _ s.stands) (integers_are _ s.types) ex
      resolved_some tree.Unreachable s w n res ex = (op.Unreachable, refl)
