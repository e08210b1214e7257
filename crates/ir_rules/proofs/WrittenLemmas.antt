-- The types and the callee that an instruction writes out, by numbers and written out.
use Rattle.std.proofs.Common.{◌≡◌, ℕ, map, refl}
use Rattle.ir_tree.specs.declared.instruction.Callee.{Callee}
use Rattle.ir_tree.specs.declared.instruction.Callee.TheVariants as callee
use Rattle.ir_tree.specs.declared.instruction.Instruction.{Instruction}
use Rattle.ir_tree.specs.declared.instruction.Instruction.TheVariants as instruction
use Rattle.ir_tree.specs.Table.{Table}
use Rattle.ir_tree.specs.Naming.{name_at, type_at}
use Rattle.ir_tree.specs.Shown.{shown, shown_callee}
use Rattle.ir_rules.specs.Forms.{memory_types, cast_types, called_types, callee_names, called_names}

pub memory_shown : (t : Table) (i : Instruction ℕ ℕ ℕ) → memory_types (shown t i) ≡ map (type_at t) (memory_types i)
unfolding shown memory_types
memory_shown t (instruction.Binary to op flags of left right) = refl
memory_shown t (instruction.Cast to op flags of value target) = refl
memory_shown t (instruction.Freeze to of value) = refl
memory_shown t (instruction.Compare to pred of left right) = refl
memory_shown t (instruction.Select to condition of on_true on_false) = refl
memory_shown t (instruction.Phi to of arms) = refl
memory_shown t (instruction.Alloca to of count) = refl
memory_shown t (instruction.Load to of pointer) = refl
memory_shown t (instruction.Store of value pointer) = refl
memory_shown t (instruction.Address to inbounds of base indices) = refl
memory_shown t (instruction.Call to of variadic what arguments) = refl
memory_shown t (instruction.Return value) = refl
memory_shown t (instruction.Jump target) = refl
memory_shown t (instruction.Branch condition on_true on_false) = refl
memory_shown t (instruction.Switch of value default cases) = refl
memory_shown t instruction.Unreachable = refl

pub cast_shown : (t : Table) (i : Instruction ℕ ℕ ℕ) → cast_types (shown t i) ≡ map (type_at t) (cast_types i)
unfolding shown cast_types
cast_shown t (instruction.Binary to op flags of left right) = refl
cast_shown t (instruction.Cast to op flags of value target) = refl
cast_shown t (instruction.Freeze to of value) = refl
cast_shown t (instruction.Compare to pred of left right) = refl
cast_shown t (instruction.Select to condition of on_true on_false) = refl
cast_shown t (instruction.Phi to of arms) = refl
cast_shown t (instruction.Alloca to of count) = refl
cast_shown t (instruction.Load to of pointer) = refl
cast_shown t (instruction.Store of value pointer) = refl
cast_shown t (instruction.Address to inbounds of base indices) = refl
cast_shown t (instruction.Call to of variadic what arguments) = refl
cast_shown t (instruction.Return value) = refl
cast_shown t (instruction.Jump target) = refl
cast_shown t (instruction.Branch condition on_true on_false) = refl
cast_shown t (instruction.Switch of value default cases) = refl
cast_shown t instruction.Unreachable = refl

pub called_shown : (t : Table) (i : Instruction ℕ ℕ ℕ) → called_types (shown t i) ≡ map (type_at t) (called_types i)
unfolding shown called_types
called_shown t (instruction.Binary to op flags of left right) = refl
called_shown t (instruction.Cast to op flags of value target) = refl
called_shown t (instruction.Freeze to of value) = refl
called_shown t (instruction.Compare to pred of left right) = refl
called_shown t (instruction.Select to condition of on_true on_false) = refl
called_shown t (instruction.Phi to of arms) = refl
called_shown t (instruction.Alloca to of count) = refl
called_shown t (instruction.Load to of pointer) = refl
called_shown t (instruction.Store of value pointer) = refl
called_shown t (instruction.Address to inbounds of base indices) = refl
called_shown t (instruction.Call to of variadic what arguments) = refl
called_shown t (instruction.Return value) = refl
called_shown t (instruction.Jump target) = refl
called_shown t (instruction.Branch condition on_true on_false) = refl
called_shown t (instruction.Switch of value default cases) = refl
called_shown t instruction.Unreachable = refl

name_shown : (t : Table) (what : Callee ℕ) → callee_names (shown_callee t what) ≡ map (name_at t) (callee_names what)
name_shown t (callee.Function n) = refl
name_shown t (callee.Pointer n) = refl

pub callee_shown : (t : Table) (i : Instruction ℕ ℕ ℕ) → called_names (shown t i) ≡ map (name_at t) (called_names i)
unfolding shown called_names
callee_shown t (instruction.Binary to op flags of left right) = refl
callee_shown t (instruction.Cast to op flags of value target) = refl
callee_shown t (instruction.Freeze to of value) = refl
callee_shown t (instruction.Compare to pred of left right) = refl
callee_shown t (instruction.Select to condition of on_true on_false) = refl
callee_shown t (instruction.Phi to of arms) = refl
callee_shown t (instruction.Alloca to of count) = refl
callee_shown t (instruction.Load to of pointer) = refl
callee_shown t (instruction.Store of value pointer) = refl
callee_shown t (instruction.Address to inbounds of base indices) = refl
callee_shown t (instruction.Call to of variadic what arguments) = name_shown t what
callee_shown t (instruction.Return value) = refl
callee_shown t (instruction.Jump target) = refl
callee_shown t (instruction.Branch condition on_true on_false) = refl
callee_shown t (instruction.Switch of value default cases) = refl
callee_shown t instruction.Unreachable = refl
