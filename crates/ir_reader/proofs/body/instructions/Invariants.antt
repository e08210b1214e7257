use Rattle.std.proofs.Common.{◌≡◌, ◌-◌, length, map}
use Rattle.std.specs.Prelude.{fold}
use Rattle.ir_tree.specs.Table.{Table}
use Rattle.ir_tree.specs.Naming.{Grows}
use Rattle.ir_tree.specs.Shown.{shown}
use Rattle.ir_text.specs.Named.{known_of, layout_in}
use Rattle.ir_text.specs.MemoryTypes.{AreLaid}
use Rattle.ir_text.specs.Repeated.{repeated_to}
use Rattle.ir_reader.specs.Behind.{behind}
use Rattle.ir_instr.specs.Defined.{AreNames, AreTypes}
use Rattle.ir_grammar.specs.Scopes.{after_instruction}
use Rattle.ir_grammar.specs.Bodies.{in_block, step_at, instructions_at}
use Rattle.ir_reader.specs.Scoping.{scope_at}
use Rattle.ir_reader.proofs.body.instructions.Given as goal

abbrev pub invariant-loop-turn : goal.invariant-loop-turn
invariant-loop-turn l = record {
  so_far : (later : Table) → Grows l.names later → behind (map (shown later) l.found) (repeated_to in_block (step_at (known_of later l.known)) after_instruction (length l.fn.cursor - l.turn) (scope_at later l.scope) l.cursor) ≡ instructions_at (known_of later l.known) (scope_at later l.fn.scope) l.fn.cursor;
  defines : (later : Table) → Grows l.names later → scope_at later l.scope ≡ fold after_instruction (scope_at later l.fn.scope) (map (shown later) l.found);
  names : AreNames l.names l.scope.defined;
  types : AreTypes l.names l.known;
  laid : AreLaid (layout_in l.known) l.names l.layouts;
  grows : Grows l.fn.names l.names;
}
