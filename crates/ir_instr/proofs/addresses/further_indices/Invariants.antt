use Rattle.std.proofs.Common.{◌≡◌, length, map}
use Rattle.std.specs.Prelude.{IfSome}
use Rattle.ir_tree.specs.Table.{Table}
use Rattle.ir_tree.specs.Naming.{Grows}
use Rattle.ir_tree.specs.Shown.{shown_argument}
use Rattle.ir_text.specs.Tokens.{is_mark}
use Rattle.ir_text.specs.Named.{known_of}
use Rattle.ir_text.specs.Repeated.{repeated_under}
use Rattle.ir_instr.specs.Addresses.{behind_comma, still_into}
use Rattle.ir_instr.specs.Defined.{AreTypes}
use Rattle.ir_instr.specs.Placing.{into_at, some_into_at, PlaceWithin, further_at}
use Rattle.ir_instr.proofs.KeptTurns.{kept_so}
use Rattle.ir_instr.proofs.addresses.further_indices.Given as goal

abbrev pub invariant-indices : goal.invariant-indices
invariant-indices l = record {
  so_far : (later : Table) → Grows l.names later → kept_so (map (shown_argument later) l.indices) (repeated_under (is_mark 44) (behind_comma (known_of later l.known)) (still_into (known_of later l.known)) (some_into_at later l.state) l.cursor)
      ≡ further_at (known_of later l.known) (into_at later l.fn.place) (map (shown_argument later) l.fn.first) l.fn.cursor;
  within : IfSome l.state (PlaceWithin l.names);
  types : AreTypes l.names l.known;
  grows : Grows l.fn.names l.names;
}

abbrev pub decreases-indices : goal.decreases-indices
decreases-indices l = length l.cursor
