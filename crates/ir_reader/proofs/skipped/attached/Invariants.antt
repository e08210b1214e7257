use Rattle.std.proofs.Common.{◌≡◌, ◌-◌, length}
use Rattle.ir_grammar.specs.PassedItems.{attached_to}
use Rattle.ir_reader.proofs.skipped.attached.Given as goal

abbrev pub invariant-loop-turn : goal.invariant-loop-turn
invariant-loop-turn l = attached_to (length l.fn.cursor - l.turn) l.cursor ≡ attached_to (length l.fn.cursor) l.fn.cursor
