use Rattle.ir_printer.specs.Nesting.{show_pieces, stacked}
use Rattle.ir_printer.proofs.nested.put_type.Goals as goal

pub returns : goal.returns
unfolding show_pieces stacked
returns c = rw (c.in_ok-push.ensures.ok, c.new-stack.ensures) at c.show_all.ensures
