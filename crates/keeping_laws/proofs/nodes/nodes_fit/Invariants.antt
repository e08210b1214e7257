use Rattle.std.proofs.Common.{ℕ, ◌≡◌, ◌<◌, slice_get, Some}
use Rattle.ir_tree.specs.declared.nodes.ConstantNode.{ConstantNode}
use Rattle.keeping_laws.specs.Modules.{NodeFits}
use Rattle.keeping_laws.proofs.nodes.nodes_fit.Given as goal

abbrev pub invariant-loop-number : goal.invariant-loop-number
invariant-loop-number l = (k : ℕ) (n : ConstantNode) → k < l.number → slice_get l.names.constants k ≡ Some n → NodeFits n
