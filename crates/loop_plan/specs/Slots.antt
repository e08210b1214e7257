-- The access slots of an instruction: the pointers through which it reads or writes memory.
use Rattle.std.specs.Prelude.{ℕ, suc, Bool, true, false, List, [], ◌∷◌, ◌++◌, drop, nat_eq, find, Option, Some}
use Rattle.pv_base.specs.declared.external.External.{External}
use Rattle.pv_base.specs.declared.external.External.TheVariants.{Puts, Printf, Memcpy, Memmove, Memset}
use Rattle.ir_tree.specs.declared.instruction.Callee.TheVariants as callee
use Rattle.ir_tree.specs.declared.instruction.Instruction.TheVariants as tree
use Rattle.ir_tree.specs.Trees.{TypeV, PtrV}
use Rattle.ir_rules.specs.Seen.{InstructionV, ArgumentV}
use Rattle.ir_rules.specs.Calls.{external_of}

-- a slot by its number, and whether it writes
pub record Slot : Type 0 where
  pub number : ℕ
  pub writes : Bool

abbrev pub reads_at : ℕ → Slot
reads_at k = record { number = k; writes = false }

abbrev pub writes_at : ℕ → Slot
writes_at k = record { number = k; writes = true }

abbrev pub text_slot : ℕ → TypeV → List Slot
text_slot k PtrV = reads_at k ∷ []
text_slot k type = []

-- each argument of type `ptr` may be a text
abbrev pub text_slots : ℕ → List ArgumentV → List Slot
text_slots k [] = []
text_slots k (a ∷ rest) = text_slot k a.of ++ text_slots (suc k) rest

-- of a call: `printf` reads its format by slot 0, and the text of the i-th argument behind it by slot i
abbrev pub call_slots : Option External → List ArgumentV → List Slot
call_slots (Some Puts) arguments = reads_at 0 ∷ []
call_slots (Some Printf) arguments = reads_at 0 ∷ text_slots 1 (drop 1 arguments)
call_slots (Some (Memcpy n)) arguments = writes_at 0 ∷ reads_at 1 ∷ []
call_slots (Some (Memmove n)) arguments = writes_at 0 ∷ reads_at 1 ∷ []
call_slots (Some (Memset n)) arguments = writes_at 0 ∷ []
call_slots e arguments = []

-- the slots of an instruction, by number
abbrev pub slots_of : InstructionV → List Slot
slots_of (tree.Load to of pointer) = reads_at 0 ∷ []
slots_of (tree.Store of value pointer) = writes_at 0 ∷ []
slots_of (tree.Call to of variadic (callee.Function x) arguments) = call_slots (external_of x) arguments
slots_of i = []

-- the slot of a number
abbrev pub slot_at : InstructionV → ℕ → Option Slot
slot_at i k = find (λ s. nat_eq k s.number) (slots_of i)
