-- Types that stand in no table, as a module's types.
use Rattle.pv_base.specs.External.{ExternalType, IntegerOf}
use Rattle.pv_base.specs.External as external
use Rattle.ir_tree.specs.Trees.{TypeV}
use Rattle.ir_rules.specs.Calls.{outer_type}
use Rattle.ir_rules.specs.declared.whole.Outer.{Outer}
use Rattle.ir_rules.specs.declared.whole.Outer.TheVariants as outer

-- a type that is no number of a table
abbrev pub outer_value : Outer → ExternalType
outer_value (outer.Integer w) = IntegerOf w
outer_value outer.Pointer = external.Pointer
outer_value outer.Void = external.Void

abbrev pub shown_outer : Outer → TypeV
shown_outer o = outer_type (outer_value o)
