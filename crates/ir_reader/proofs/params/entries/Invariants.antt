use Rattle.std.proofs.Common.{◌≡◌, ◌-◌, length, map}
use Rattle.std.specs.Prelude.{fold}
use Rattle.ir_tree.specs.Table.{Table}
use Rattle.ir_tree.specs.Naming.{Grows}
use Rattle.ir_tree.specs.Shown.{shown_param}
use Rattle.ir_instr.specs.Defined.{AreNames}
use Rattle.ir_grammar.specs.Scopes.{after_param}
use Rattle.ir_grammar.specs.Headers.{entries_to}
use Rattle.ir_reader.specs.Scoping.{scope_at}
use Rattle.ir_reader.specs.Heads.{behind_params}
use Rattle.ir_reader.proofs.params.entries.Given as goal

abbrev pub invariant-loop-turn : goal.invariant-loop-turn
invariant-loop-turn l = record {
  so_far : (later : Table) → Grows l.names later → behind_params (map (shown_param later) l.params) (entries_to l.declared (length l.fn.cursor - l.turn) (scope_at later l.scope) l.cursor) ≡ entries_to l.declared (length l.fn.cursor) (scope_at later l.fn.scope) l.fn.cursor;
  defines : (later : Table) → Grows l.names later → scope_at later l.scope ≡ fold after_param (scope_at later l.fn.scope) (map (shown_param later) l.params);
  names : AreNames l.names l.scope.defined;
  grows : Grows l.fn.names l.names;
}
