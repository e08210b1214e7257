use Rattle.ir_tree.proofs.Steps.{starts, found_more_now, no_more_now}
use Rattle.ir_tree.proofs.layouts.pass.Goals as goal
use Rattle.ir_tree.proofs.layouts.pass.Goals.{then-find, else-find}

pub loop-number-init : goal.loop-number-init
loop-number-init c = starts _ _ _ c.requires.bounded

pub loop-number-preserved : goal.loop-number-preserved
loop-number-preserved c =
    elim c.if-find.branch [
      | then-find w ↦
          rw w.found-is (found_more_now c.args.names.now c.args.bodies.now c.args.answers.now c.loop-number.answers c.find.new.answers c.loop-number.number c.loop-number.found c.requires.len c.loop-number.invariant (rw w.if-find.true at c.find.ensures))
      | else-find w ↦
          rw w.found-is (no_more_now c.args.names.now c.args.bodies.now c.args.answers.now c.loop-number.answers c.find.new.answers c.loop-number.number c.loop-number.found c.loop-number.invariant (rw w.if-find.false at c.find.ensures))
    ]
