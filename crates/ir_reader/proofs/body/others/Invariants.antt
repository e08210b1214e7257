use Rattle.std.proofs.Common.{◌≡◌, ◌-◌, length, map}
use Rattle.ir_tree.specs.Table.{Table}
use Rattle.ir_tree.specs.Naming.{Grows}
use Rattle.ir_tree.specs.Shown.{shown_block}
use Rattle.ir_text.specs.Named.{known_of, layout_in}
use Rattle.ir_text.specs.MemoryTypes.{AreLaid}
use Rattle.ir_text.specs.Repeated.{repeated_to, repeated_under}
use Rattle.ir_instr.specs.Defined.{AreNames, AreTypes}
use Rattle.ir_grammar.specs.Scopes.{after_block}
use Rattle.ir_grammar.specs.Bodies.{is_label, block_at}
use Rattle.ir_reader.specs.Scoping.{scope_at}
use Rattle.ir_reader.specs.Behind.{behind}
use Rattle.ir_reader.proofs.body.others.Given as goal

abbrev pub invariant-loop-turn : goal.invariant-loop-turn
invariant-loop-turn l = record {
  so_far : (later : Table) → Grows l.names later → behind (map (shown_block later) l.found) (repeated_to is_label (block_at (known_of later l.known)) after_block (length l.fn.cursor - l.turn) (scope_at later l.scope) l.cursor) ≡ behind (map (shown_block later) l.fn.found) (repeated_under is_label (block_at (known_of later l.known)) after_block (scope_at later l.fn.scope) l.fn.cursor);
  names : AreNames l.names l.scope.defined;
  types : AreTypes l.names l.known;
  laid : AreLaid (layout_in l.known) l.names l.layouts;
  grows : Grows l.fn.names l.names;
}
