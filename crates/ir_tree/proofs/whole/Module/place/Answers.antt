use Rattle.std.proofs.Common.{refl, ◌∙◌, sym}
use Rattle.ir_tree.proofs.Looking.{place_right}
use Rattle.ir_tree.proofs.Opened.{type_past}
use Rattle.ir_tree.proofs.whole.Module.place.Goals as goal

pub returns-in-Some : goal.returns-in-Some
returns-in-Some c =
    rw (← c.self.view_is) (c.place.ensures ∙ place_right c.self.inside.names c.self.inside.types c.self.inside.layouts c.args.of c.args.index c.in-Some.node.now c.is_table.ensures c.self.invariant (sym c.in-Some.ensures))

pub returns-in-None : goal.returns-in-None
returns-in-None c = rw (← c.self.view_is) (rw (type_past c.self.inside.names c.args.of (sym c.in-None.ensures)) refl)
