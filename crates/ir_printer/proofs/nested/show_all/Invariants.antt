use Rattle.std.proofs.Common.{◌≡◌, ◌++◌, ◌+◌, ◌*◌, length}
use Rattle.ir_printer.specs.Nesting.{stacked}
use Rattle.ir_printer.proofs.nested.show_all.Given as goal

abbrev pub invariant-items : goal.invariant-items
invariant-items l = l.to ++ stacked l.names l.stack ≡ l.initial.to ++ stacked l.names l.initial.stack

abbrev pub decreases-items : goal.decreases-items
decreases-items l = 4 * length (stacked l.names l.stack) + length l.stack
