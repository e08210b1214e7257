use Rattle.std.proofs.Common.{Option, subst, sym, lit<, lit≤}
use Rattle.std.specs.Prelude.{IfSome}
use Rattle.std.proofs.lemmas.Option.{slice_get_within}
use Rattle.ir_tree.specs.declared.layout.Layout.{Layout}
use Rattle.ir_tree.specs.Bounds.{IsLayout}
use Rattle.ir_tree.proofs.Opened.{type_past}
use Rattle.ir_tree.proofs.whole.Module.is_bounded.Goals as goal

pub returns-in-Some : goal.returns-in-Some
returns-in-Some c =
    let lt = slice_get_within c.self.inside.names.types c.args.of _ (sym c.in-Some.ensures) in
    rw (← c.self.view_is) (subst (λ (o : Option Layout). IfSome o IsLayout) (c.self.invariant.layouts c.args.of lt) (c.self.invariant.bounded c.args.of))

pub returns-in-None : goal.returns-in-None
returns-in-None c = rw (← c.self.view_is) (rw (type_past c.self.inside.names c.args.of (sym c.in-None.ensures)) (record { size = lit< tt; least = lit< tt; most = lit≤ tt }))
