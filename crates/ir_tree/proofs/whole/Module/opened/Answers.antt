use Rattle.std.proofs.Common.{sym, refl}
use Rattle.ir_tree.proofs.Opened.{opened_is, type_past}
use Rattle.ir_tree.proofs.whole.Module.opened.Goals as goal

pub returns-in-Some : goal.returns-in-Some
returns-in-Some c =
    rw (← c.self.view_is) (rw c.opened.ensures (opened_is c.self.inside.names c.self.inside.types c.self.inside.layouts c.args.of c.in-Some.node.now c.is_table.ensures c.self.invariant (sym c.in-Some.ensures)))

pub returns-in-None : goal.returns-in-None
returns-in-None c = rw (← c.self.view_is) (rw (type_past c.self.inside.names c.args.of (sym c.in-None.ensures)) refl)
