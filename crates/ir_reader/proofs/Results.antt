-- What an instruction defines, written out and by number.
use Rattle.std.proofs.Common.{◌≡◌, ℕ, Some, None, refl}
use Rattle.std.specs.Prelude.{option_map}
use Rattle.ir_tree.specs.declared.instruction.Instruction.{Instruction}
use Rattle.ir_tree.specs.declared.instruction.Instruction.TheVariants as instruction
use Rattle.ir_tree.specs.Table.{Table}
use Rattle.ir_tree.specs.Naming.{name_at}
use Rattle.ir_tree.specs.Shown.{shown}
use Rattle.ir_grammar.specs.Scopes.{Scope, result_of, defining, after_instruction}

pub result_shown : (later : Table) (i : Instruction ℕ ℕ ℕ) → result_of (shown later i) ≡ option_map (name_at later) (result_of i)
unfolding shown
result_shown later (instruction.Binary to op flags of left right) = refl
result_shown later (instruction.Cast to op flags of value target) = refl
result_shown later (instruction.Freeze to of value) = refl
result_shown later (instruction.Compare to pred of left right) = refl
result_shown later (instruction.Select to condition of on_true on_false) = refl
result_shown later (instruction.Phi to of arms) = refl
result_shown later (instruction.Alloca to of count) = refl
result_shown later (instruction.Load to of pointer) = refl
result_shown later (instruction.Store of value pointer) = refl
result_shown later (instruction.Address to inbounds of base indices) = refl
result_shown later (instruction.Call to of variadic what arguments) = refl
result_shown later (instruction.Return value) = refl
result_shown later (instruction.Jump target) = refl
result_shown later (instruction.Branch condition on_true on_false) = refl
result_shown later (instruction.Switch of value default cases) = refl
result_shown later instruction.Unreachable = refl

pub defines_some : (later : Table) (s : Scope) (i : Instruction ℕ ℕ ℕ) (k : ℕ) → Some k ≡ result_of i → after_instruction s (shown later i) ≡ defining s (name_at later k)
defines_some later s i k e = rw (result_shown later i, ← e) refl

pub defines_none : (later : Table) (s : Scope) (i : Instruction ℕ ℕ ℕ) → None ≡ result_of i → after_instruction s (shown later i) ≡ s
defines_none later s i e = rw (result_shown later i, ← e) refl
