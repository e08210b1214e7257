use Rattle.std.proofs.Common.{◌≡◌, ◌<◌, ℕ, map, take, length, None}
use Rattle.std.specs.Prelude.{IfSome, fold, slice_index_or}
use Rattle.ir_tree.specs.Layouts.{joined, no_fields, place_in}
use Rattle.ir_tree.specs.Bounds.{IsLayout}
use Rattle.ir_tree.specs.Filling.{answer_at}
use Rattle.ir_tree.proofs.fields.struct_places.Given as goal

abbrev pub invariant-loop-field : goal.invariant-loop-field
invariant-loop-field l = record {
  so : l.so ≡ fold (joined l.packed) no_fields (map (answer_at l.answers) (take l.field-index l.fields));
  bound : IfSome l.so IsLayout;
  len : length l.places ≡ l.field-index;
  each : (i : ℕ) → i < l.field-index → slice_index_or l.places i None ≡ place_in l.packed (map (answer_at l.answers) l.fields) i;
}
