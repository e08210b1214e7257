use Rattle.std.proofs.Common.{sym, ◌*◌}
use Rattle.ir_tree.proofs.Bounded.{sized_great}
use Rattle.ir_text.proofs.layouts.elements.Goals as goal

pub returns-in-None : goal.returns-in-None
returns-in-None c = sym (sized_great (c.args.count * c.args.of.size) c.args.of.align c.in-None.ensures)
