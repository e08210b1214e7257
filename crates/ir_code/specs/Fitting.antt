-- The numbers of instructions have 32 bits.
use Rattle.std.specs.Prelude.{◌≡◌, ◌+◌, ◌<◌, ◌^◌, ℕ, List, length, slice_get, Some}
use Rattle.ir_code.specs.declared.code.BlockCode.{BlockCode}
use Rattle.ir_code.specs.declared.code.FunctionCode.{FunctionCode}
use Rattle.ir_code.specs.declared.code.Code.{Code}

-- so does the number behind the last instruction of each of these blocks
abbrev pub BlocksFit : List BlockCode → Type 0
BlocksFit blocks = (k : ℕ) (b : BlockCode) → slice_get blocks k ≡ Some b → b.first + length b.ops < 2 ^ 32

abbrev pub FunctionsFit : List FunctionCode → Type 0
FunctionsFit functions = (k : ℕ) (f : FunctionCode) → slice_get functions k ≡ Some f → BlocksFit f.blocks

abbrev pub CodeFits : Code → Type 0
CodeFits code = FunctionsFit code.functions
