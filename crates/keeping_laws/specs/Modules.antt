-- The constants of a module, as its table holds them.
use Rattle.std.specs.Prelude.{All}
use Rattle.int_num.specs.Integer.{IsInteger}
use Rattle.ir_tree.specs.declared.nodes.ConstantNode.{ConstantNode}
use Rattle.ir_tree.specs.declared.nodes.ConstantNode.TheVariants as constant
use Rattle.ir_tree.specs.Modules.{Items}
use Rattle.keeping_laws.specs.Keeping.{IsByte}

-- an integer has the bits of its width, and a text has bytes
abbrev pub NodeFits : ConstantNode → Type 0
NodeFits (constant.Integer n) = IsInteger n
NodeFits constant.Null = Unit {0}
NodeFits constant.Zero = Unit {0}
NodeFits (constant.Text bytes) = All IsByte bytes
NodeFits (constant.Array elements) = Unit {0}
NodeFits (constant.Struct packed elements) = Unit {0}
NodeFits (constant.Name x) = Unit {0}
NodeFits (constant.Address type base indices) = Unit {0}

abbrev pub NodesFit : Items → Type 0
NodesFit m = All NodeFits m.names.constants
