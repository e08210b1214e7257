use Rattle.std.proofs.Common.{◌≡◌, take}
use Rattle.std.specs.Prelude.{fold}
use Rattle.ir_tree.specs.Naming.{type_at}
use Rattle.ir_tree.specs.Modules.{types_of}
use Rattle.ir_rules.specs.declared.given.Walk.TheVariants.{Through}
use Rattle.ir_rules.specs.Indexing.{advance}
use Rattle.ir_rules.specs.Heads.{shown_walk}
use Rattle.ir_rules.proofs.paths.walk_along.Given as goal

abbrev pub invariant-loop-index : goal.invariant-loop-index
invariant-loop-index l = shown_walk l.tree.names l.walk ≡ fold (advance (types_of l.tree)) (Through (type_at l.tree.names l.of)) (take l.index-index l.indices)
