use Rattle.std.proofs.Common.{◌≡◌, length, map}
use Rattle.std.specs.Prelude.{not}
use Rattle.ir_tree.specs.Table.{Table}
use Rattle.ir_tree.specs.Naming.{Grows}
use Rattle.ir_tree.specs.Shown.{shown_case}
use Rattle.ir_text.specs.Tokens.{is_mark}
use Rattle.ir_text.specs.Named.{known_of}
use Rattle.ir_text.specs.Repeated.{repeated_under}
use Rattle.ir_text.proofs.RepeatedLaws.{behind}
use Rattle.ir_instr.specs.Scalars.{type_of}
use Rattle.ir_instr.specs.Control.{case_at, with_case}
use Rattle.ir_instr.specs.Switching.{cases_at}
use Rattle.ir_instr.proofs.switching.cases.Given as goal

abbrev pub invariant-cases : goal.invariant-cases
invariant-cases l = record {
  so_far : (later : Table) → Grows l.names later → behind (map (shown_case later) l.cases) (repeated_under (λ t. not (is_mark 93 t)) (case_at (known_of later l.known) (type_of l.of)) with_case l.earlier l.cursor) ≡ cases_at (known_of later l.known) (type_of l.of) l.fn.cursor;
  grows : Grows l.fn.names l.names;
}

abbrev pub decreases-cases : goal.decreases-cases
decreases-cases l = length l.cursor
