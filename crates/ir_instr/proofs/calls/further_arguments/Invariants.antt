use Rattle.std.proofs.Common.{◌≡◌, length, map}
use Rattle.ir_tree.specs.Table.{Table}
use Rattle.ir_tree.specs.Naming.{Grows}
use Rattle.ir_tree.specs.Shown.{shown_argument}
use Rattle.ir_text.specs.Tokens.{is_mark}
use Rattle.ir_text.specs.Named.{known_of}
use Rattle.ir_text.specs.Lists.{after_comma}
use Rattle.ir_text.specs.Repeated.{repeated}
use Rattle.ir_instr.specs.Calls.{argument_at}
use Rattle.ir_instr.specs.Gathering.{behind}
use Rattle.ir_instr.proofs.calls.further_arguments.Given as goal

abbrev pub invariant-arguments : goal.invariant-arguments
invariant-arguments l = record {
  so_far : (later : Table) → Grows l.names later → behind (map (shown_argument later) l.arguments) (repeated (is_mark 44) (after_comma (argument_at (known_of later l.known))) l.cursor)
      ≡ behind (map (shown_argument later) l.fn.first) (repeated (is_mark 44) (after_comma (argument_at (known_of later l.known))) l.fn.cursor);
  grows : Grows l.fn.names l.names;
}

abbrev pub decreases-arguments : goal.decreases-arguments
decreases-arguments l = length l.cursor
