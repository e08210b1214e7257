use Rattle.std.proofs.Common.{◌≡◌, ◌<◌, length, All}
use Rattle.ir_tree.specs.Table.{Table}
use Rattle.ir_tree.specs.Naming.{Grows}
use Rattle.ir_text.specs.NestedConstants.{constant_at}
use Rattle.ir_text.specs.Named.{known_of}
use Rattle.ir_text.specs.OpenConstants.{resume, begun, OpenWithin, ReachedWithin}
use Rattle.ir_text.proofs.nested_constants.read_constant.Given as goal

abbrev pub invariant-steps : goal.invariant-steps
invariant-steps l = record {
  so_far : (later : Table) → Grows l.names later → resume (known_of later l.known) later l.stack.items (begun (known_of later l.known) later l.cursor l.state) ≡ constant_at (known_of later l.known) l.width l.fn.cursor;
  within : All (OpenWithin l.names) l.stack.items;
  state_within : ReachedWithin l.names l.state;
  grows : Grows l.fn.names l.names;
  shorter : length l.cursor < length l.fn.cursor;
}

abbrev pub decreases-steps : goal.decreases-steps
decreases-steps l = length l.cursor
