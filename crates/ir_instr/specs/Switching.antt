-- The cases of a `switch`, and the bits of values as code has them.
use Rattle.std.specs.Prelude.{ℕ, not, List, [], Option, Some, None}
use Rattle.pv_base.specs.declared.name.Name.{Name}
use Rattle.ir_tree.specs.declared.instruction.Case.{Case}
use Rattle.ir_tree.specs.declared.nodes.ConstantNode.{ConstantNode}
use Rattle.ir_tree.specs.declared.nodes.ConstantNode.TheVariants as constant
use Rattle.ir_tree.specs.Trees.{TypeV, ConstantV}
use Rattle.ir_text.specs.Tokens.{is_mark}
use Rattle.ir_text.specs.Reading.{Reader}
use Rattle.ir_text.specs.Repeated.{repeated_under}
use Rattle.ir_text.specs.Types.{Known}
use Rattle.ir_instr.specs.Control.{case_at, with_case}

-- cases up to a `]`, none of which has the bits of one before
abbrev pub cases_at : Known → TypeV → Reader (List (Case Name ConstantV))
cases_at known of ts = repeated_under (λ t. not (is_mark 93 t)) (case_at known of) with_case [] ts

-- the bits of a constant's node
abbrev pub node_bits : ConstantNode → Option ℕ
node_bits (constant.Integer n) = Some n.bits
node_bits constant.Zero = Some 0
node_bits other = None
