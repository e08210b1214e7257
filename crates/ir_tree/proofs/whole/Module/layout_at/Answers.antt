use Rattle.std.proofs.Common.{sym, refl, ◌∙◌}
use Rattle.std.proofs.lemmas.Option.{slice_get_within}
use Rattle.ir_tree.proofs.Opened.{type_past}
use Rattle.ir_tree.proofs.whole.Module.layout_at.Goals as goal

pub returns-in-Some : goal.returns-in-Some
returns-in-Some c =
    rw (← c.self.view_is) (c.of.ensures ∙ c.self.invariant.layouts c.args.of (slice_get_within c.self.inside.names.types c.args.of _ (sym c.in-Some.ensures)))

pub returns-in-None : goal.returns-in-None
returns-in-None c = rw (← c.self.view_is) (rw (type_past c.self.inside.names c.args.of (sym c.in-None.ensures)) refl)
