-- Where the program of a checked module begins.
use Rattle.std.specs.Prelude.{ℕ, ◌≡◌, ◌<◌, ◌++◌, ◌⊎◌, List, [], ◌∷◌, length, slice_get, Some}
use Rattle.ir_code.specs.declared.op.Scalar.{Scalar}
use Rattle.ir_code.specs.declared.op.Scalar.TheVariants.{Int, Pointer}
use Rattle.ir_code.specs.declared.code.BlockCode.{BlockCode}
use Rattle.ir_code.specs.declared.code.FunctionCode.{FunctionCode}
use Rattle.ir_code.specs.declared.code.Code.{Code}
use Rattle.ir_code.specs.Coding.{code_of}
use Rattle.ir_code.specs.Fitting.{CodeFits}
use Rattle.ir_tree.specs.Modules.{Items}

-- `main` takes nothing, or a count and a pointer
abbrev pub AreMainTypes : List Scalar → Type 0
AreMainTypes types = (types ≡ []) ⊎ (types ≡ Int 32 ∷ Pointer ∷ [])

-- The code has a function `main` of 32 bits, whose parameters are its first registers, and whose entry block has an
-- instruction behind its phis.
pub record Starts (code : Code) : Type 0 where
  pub number : ℕ
  pub function : FunctionCode
  pub entry : BlockCode
  pub others : List Scalar
  pub main : code.main ≡ Some number
  pub found : slice_get code.functions number ≡ Some function
  pub first : slice_get function.blocks 0 ≡ Some entry
  pub room : entry.phis < length entry.ops
  pub parameters : AreMainTypes function.parameters
  pub registers : function.registers ≡ function.parameters ++ others
  pub result : function.result ≡ Some (Int 32)

-- the code is that of the module, and its instructions have numbers of 32 bits
pub record IsProgram (m : Items) (code : Code) : Type 0 where
  pub same : code ≡ code_of m
  pub fits : CodeFits code
