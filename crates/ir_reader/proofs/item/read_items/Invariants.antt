use Rattle.std.proofs.Common.{◌≡◌, ◌-◌, length}
use Rattle.ir_tree.specs.Table.{Table}
use Rattle.ir_tree.specs.Naming.{Grows}
use Rattle.ir_text.specs.Named.{known_of, layout_in}
use Rattle.ir_text.specs.MemoryTypes.{AreLaid}
use Rattle.ir_text.specs.Repeated.{repeated_to}
use Rattle.ir_instr.specs.Defined.{AreTypes}
use Rattle.ir_grammar.specs.Modules.{nothing_so_far, with_item}
use Rattle.ir_grammar.specs.Items.{any_token, item_at, items_at}
use Rattle.ir_reader.specs.Gathered.{so_far_at, gathered, SoFarWithin}
use Rattle.ir_reader.proofs.item.read_items.Given as goal

abbrev pub invariant-loop-turn : goal.invariant-loop-turn
invariant-loop-turn l = record {
  so_far : (later : Table) → Grows l.names later → gathered (so_far_at later l.so_far) (repeated_to any_token (item_at (known_of later l.known)) with_item (length l.fn.cursor - l.turn) (so_far_at later l.so_far) l.cursor) ≡ gathered nothing_so_far (items_at (known_of later l.known) l.fn.cursor);
  within : SoFarWithin l.names l.so_far;
  types : AreTypes l.names l.known;
  laid : AreLaid (layout_in l.known) l.names l.layouts;
  grows : Grows l.fn.names l.names;
}
