use Rattle.std.proofs.Common.{◌≡◌, map, take}
use Rattle.std.specs.Prelude.{IfSome, fold}
use Rattle.ir_tree.specs.Layouts.{joined, no_fields}
use Rattle.ir_tree.specs.Bounds.{IsLayout}
use Rattle.ir_tree.specs.Filling.{answer_at}
use Rattle.ir_text.proofs.layouts.struct_layout.Given as goal

abbrev pub invariant-loop-field : goal.invariant-loop-field
invariant-loop-field l = record {
  so : l.so ≡ fold (joined l.packed) no_fields (map (answer_at l.found) (take l.field-index l.fields));
  bound : IfSome l.so IsLayout;
}
