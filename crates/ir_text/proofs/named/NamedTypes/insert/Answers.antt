use Rattle.std.proofs.Common.{sym, subst}
use Rattle.pv_base.specs.contracts.name.NamePartialEq.TheImpl.{eq-value}
use Rattle.ir_tree.proofs.Tables.{spelled}
use Rattle.ir_text.specs.Named.{HasLayouts}
use Rattle.ir_text.proofs.Bodies.{inserted, layouts_kept, inserted_after}
use Rattle.ir_text.proofs.named.NamedTypes.insert.Goals as goal
use Rattle.ir_text.proofs.named.NamedTypes.insert.Goals.{in-Ok, in-Err}

pub invariant_of-self : goal.invariant_of-self
invariant_of-self c =
    elim c.match-insert.branch [
      | in-Ok w ↦
          layouts_kept c.self.inside.bodies.entries c.insert.new.self.entries c.args.name c.args.body c.self.invariant c.requires
          (inserted c.self.inside.bodies.entries c.insert.new.self.entries c.args.name c.args.body eq-value.it spelled w.in-Ok.ensures.updates.0)
      | in-Err w ↦ subst HasLayouts (sym w.in-Err.ensures.err) c.self.invariant
    ]

pub returns-clause-ok : goal.returns-clause-ok
returns-clause-ok c =
    elim c.match-insert.branch [
      | in-Ok w ↦
          rw w.result-is (inserted_after c.self.inside.bodies.entries c.insert.new.self.entries c.args.name c.args.body c.args.self.now c.self.view_is
          (inserted c.self.inside.bodies.entries c.insert.new.self.entries c.args.name c.args.body eq-value.it spelled w.in-Ok.ensures.updates.0))
      | in-Err w ↦ rw w.result-is tt
    ]
