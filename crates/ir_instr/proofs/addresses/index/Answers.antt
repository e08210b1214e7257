use Rattle.ir_tree.proofs.Showing.{type_within_more}
use Rattle.ir_instr.proofs.addresses.index.Goals as goal

pub returns-in_ok-integer_argument-in-Whole-clause-within : goal.returns-in_ok-integer_argument-in-Whole-clause-within
returns-in_ok-integer_argument-in-Whole-clause-within c = type_within_more _ _ _ c.in_ok-integer_argument-in-Whole.ensures.grows (rw c.in-Whole.is at c.requires.within)
