use Rattle.std.proofs.Common.{◌≡◌, length, map, true}
use Rattle.ir_tree.specs.Table.{Table}
use Rattle.ir_tree.specs.Naming.{Grows}
use Rattle.ir_tree.specs.Shown.{shown_arm}
use Rattle.ir_text.specs.Tokens.{is_mark}
use Rattle.ir_text.specs.Named.{known_of}
use Rattle.ir_text.specs.Repeated.{repeated_under}
use Rattle.ir_text.specs.Trailing.{comma_item, still}
use Rattle.ir_instr.specs.Scalars.{type_of}
use Rattle.ir_instr.specs.Selecting.{arm_at}
use Rattle.ir_instr.proofs.KeptTurns.{kept_so}
use Rattle.ir_instr.proofs.selecting.further_arms.Given as goal

abbrev pub invariant-arms : goal.invariant-arms
invariant-arms l = record {
  so_far : (later : Table) → Grows l.names later → kept_so (map (shown_arm later) l.arms) (repeated_under (is_mark 44) (comma_item (is_mark 91) (arm_at (known_of later l.known) (type_of l.of))) still l.may_stand l.cursor)
      ≡ kept_so (map (shown_arm later) l.fn.first) (repeated_under (is_mark 44) (comma_item (is_mark 91) (arm_at (known_of later l.known) (type_of l.of))) still true l.fn.cursor);
  grows : Grows l.fn.names l.names;
}

abbrev pub decreases-arms : goal.decreases-arms
decreases-arms l = length l.cursor
