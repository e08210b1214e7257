use Rattle.ir_tree.proofs.Offsets.{more_places, same_node, no_node}
use Rattle.ir_tree.proofs.fields.all_places.Goals as goal
use Rattle.ir_tree.proofs.fields.all_places.Goals.{in-Some+in_ok-places-in-Some, in-None}

pub loop-number-preserved : goal.loop-number-preserved
loop-number-preserved c =
    more_places c.args.names.now c.args.answers.now c.loop-number.number c.loop-number.all c.push.new.self c.match-type_node.places c.loop-number.invariant c.in_ok-push.ensures.ok
    (λ m known. elim c.match-type_node.branch [
      | in-Some+in_ok-places-in-Some w ↦ rw w.places-is (same_node c.args.answers.now _ _ m _ w.in-Some.ensures known w.in_ok-places-in-Some.ensures)
      | in-None w ↦ no_node c.args.answers.now c.match-type_node.places m _ w.in-None.ensures known
    ])
