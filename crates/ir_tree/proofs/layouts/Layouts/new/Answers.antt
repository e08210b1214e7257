use Rattle.ir_tree.proofs.Filled.{filled}
use Rattle.ir_tree.proofs.layouts.Layouts.new.Goals as goal

pub returns : goal.returns
returns c = record {
  within = c.requires;
  layouts = filled c.args.names.now c.args.types.now c.in_ok-bodies.bodies c.in_ok-layouts.layouts c.follow.new.answers c.settle.new.answers c.is_table.ensures c.requires
      (rw c.name_count.ensures at c.in_ok-bodies.ensures)
      (rw c.type_count.ensures at c.in_ok-layouts.ensures)
      (rw c.as_slice-3.ensures at c.follow.ensures.reaches)
      (rw c.as_slice-4.ensures at c.settle.ensures.reaches)
      (rw c.as_slice-4.ensures at c.settle.ensures.done);
  bounded = c.settle.ensures.bounded;
  bodies = rw c.name_count.ensures at c.in_ok-bodies.ensures;
  places = rw c.as_slice-5.ensures at c.in_ok-places.ensures;
}
