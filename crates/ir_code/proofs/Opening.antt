-- The phis that a block begins with are instructions of it.
use Rattle.std.proofs.Common.{ℕ, suc, ◌≤◌, List, [], ◌∷◌, length, Option, Some, None, arith}
use Rattle.ir_tree.specs.declared.instruction.Instruction.{Instruction}
use Rattle.ir_code.specs.Blocks.{Join, join_of, joins_of, before_joins}

within : (o : Option Join) (joins : List Join) (n : ℕ) → length joins ≤ n → length (before_joins o joins) ≤ suc n
within None joins n le = omega arith
within (Some j) joins n le = omega arith

pub joins_within : (instructions : List (Instruction ℕ ℕ ℕ)) → length (joins_of instructions) ≤ length instructions
joins_within [] = omega arith
joins_within (i ∷ instructions) = within (join_of i) (joins_of instructions) (length instructions) (joins_within instructions)
