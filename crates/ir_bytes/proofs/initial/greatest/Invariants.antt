use Rattle.std.proofs.Common.{◌≡◌, ◌<◌, drop}
use Rattle.ir_bytes.specs.Works.{greatest}
use Rattle.ir_bytes.proofs.initial.greatest.Given as goal

abbrev pub invariant-loop-field : goal.invariant-loop-field
invariant-loop-field l = record {
  same : greatest l.tree l.packed 1 l.fields ≡ greatest l.tree l.packed l.align (drop l.field-index l.fields);
  some : 0 < l.align;
}
