use Rattle.ir_tree.proofs.Bounded.{joined_bound}
use Rattle.ir_tree.proofs.Folding.{fold_map_more}
use Rattle.ir_tree.specs.Layouts.{joined, no_fields}
use Rattle.ir_tree.specs.Filling.{answer_at}
use Rattle.ir_text.proofs.layouts.struct_layout.Goals as goal

pub loop-field-preserved : goal.loop-field-preserved
loop-field-preserved c = record {
  so =
      let step = fold_map_more (joined c.args.packed) no_fields (answer_at c.args.found.now) c.args.fields.now c.loop-field.field-index 0 c.loop-field-test.true in
      let so = c.loop-field.invariant.so in
      let at = c.answer_at.ensures in
      cc;
  bound = rw c.joined-so.ensures (joined_bound c.args.packed c.loop-field.so c.answer_at.result c.loop-field.invariant.bound (rw c.answer_at.ensures (c.requires _)));
}
