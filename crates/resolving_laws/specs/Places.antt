-- The places of a module's code: functions, blocks and instructions by number, in text order.
use Rattle.std.specs.Prelude.{ℕ, ◌≡◌, length, take, Some, slice_get}
use Rattle.ir_tree.specs.declared.instruction.Instruction.{Instruction}
use Rattle.ir_tree.specs.declared.items.Block.{Block}
use Rattle.ir_tree.specs.declared.items.Function.{Function}
use Rattle.ir_tree.specs.Modules.{Items}
use Rattle.ir_rules.specs.Spots.{instruction_count}
use Rattle.ir_code.specs.declared.op.Op.{Op}
use Rattle.ir_code.specs.declared.code.BlockCode.{BlockCode}
use Rattle.ir_code.specs.declared.code.FunctionCode.{FunctionCode}
use Rattle.ir_code.specs.Coding.{code_of}
use Rattle.resolving_laws.specs.Resolved.{phis_of}

-- an instruction stands at this place of the module
pub record StandsAt (m : Items) (k b i : ℕ) : Type 0 where
  pub function : Function ℕ ℕ ℕ
  pub block : Block ℕ ℕ ℕ
  pub instruction : Instruction ℕ ℕ ℕ
  pub function_at : slice_get m.functions k ≡ Some function
  pub block_at : slice_get function.blocks b ≡ Some block
  pub instruction_at : slice_get block.instructions i ≡ Some instruction

-- The code has something at the same place. A block begins with as many phis, and with the number that its first instruction
-- has in the function.
pub record CodedAt (m : Items) (k b i : ℕ) (s : StandsAt m k b i) : Type 0 where
  pub function : FunctionCode
  pub block : BlockCode
  pub op : Op
  pub function_at : slice_get (code_of m).functions k ≡ Some function
  pub block_at : slice_get function.blocks b ≡ Some block
  pub op_at : slice_get block.ops i ≡ Some op
  pub phis : block.phis ≡ length (phis_of s.block.instructions)
  pub first : block.first ≡ instruction_count (take b s.function.blocks)
