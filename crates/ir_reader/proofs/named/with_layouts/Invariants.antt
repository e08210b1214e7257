use Rattle.std.proofs.Common.{◌≡◌, map, take}
use Rattle.std.specs.Map.{lookup}
use Rattle.pv_base.specs.declared.name.Name.{Name}
use Rattle.ir_tree.specs.Table.{same_name}
use Rattle.ir_text.specs.Named.{body_in}
use Rattle.ir_reader.specs.Knowing.{entry_of}
use Rattle.ir_reader.proofs.named.with_layouts.Given as goal

abbrev pub invariant-loop-defined : goal.invariant-loop-defined
invariant-loop-defined l = (q : Name) → body_in l.known q ≡ lookup (same_name q) (map (entry_of l.names l.layouts.layouts) (take l.defined-index l.all))
