use Rattle.std.proofs.Common.{◌≡◌, length, All}
use Rattle.ir_tree.specs.Table.{Table}
use Rattle.ir_tree.specs.Naming as naming
use Rattle.ir_tree.specs.Naming.{Grows}
use Rattle.ir_text.specs.Types.{type_at}
use Rattle.ir_text.specs.Named.{known_of}
use Rattle.ir_text.specs.Nested.{resume, begun, OpenWithin, BegunWithin}
use Rattle.ir_text.proofs.nested.read_type.Given as goal

abbrev pub invariant-steps : goal.invariant-steps
invariant-steps l = record {
  so_far : (later : Table) → Grows l.names later → resume (known_of later l.known) (naming.type_at later) l.stack.items (begun (known_of later l.known) (naming.type_at later) l.cursor l.state) ≡ type_at (known_of later l.known) l.fn.cursor;
  within : All (OpenWithin (length l.names.types)) l.stack.items;
  state_within : BegunWithin (length l.names.types) l.state;
  grows : Grows l.fn.names l.names;
}

abbrev pub decreases-steps : goal.decreases-steps
decreases-steps l = length l.cursor
