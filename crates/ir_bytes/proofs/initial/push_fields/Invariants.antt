use Rattle.std.proofs.Common.{◌≡◌, ◌++◌, drop, reverse}
use Rattle.ir_bytes.specs.Works.{field_works, AreAligned}
use Rattle.ir_bytes.proofs.initial.push_fields.Given as goal

abbrev pub invariant-loop-i : goal.invariant-loop-i
invariant-loop-i l = record {
  put : reverse l.work ≡ field_works l.tree l.packed l.start (drop l.i l.fields) ++ reverse l.initial.work;
  aligned : AreAligned l.tree l.packed (drop l.i l.fields);
}
