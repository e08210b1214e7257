use Rattle.std.proofs.Common.{◌+◌, ◌-◌, ◌/◌, ◌≤◌, ◌≡◌, ◌⊎◌, inl, inr, false, arith, ◌∙◌}
use Rattle.turn_count.specs.Walks.{is_inside}
use Rattle.turn_count.proofs.Counts.{count_capped}
use Rattle.turn_count.proofs.Laps.{backward_in, backward_out}
use Rattle.turn_count.proofs.walk.backward.Goals.{else-steps-from-via-then-steps-from+else-walk-steps, else-steps-from-via-else-steps-from}
use Rattle.turn_count.proofs.walk.backward.Goals as goal

pub returns-clause-steps : goal.returns-clause-steps
returns-clause-steps c =
    let walk = c.args.walk in
    let n = walk.place / (walk.whole - walk.step) + 1 in
    let ends : (c.args.cap ≤ n) ⊎ (is_inside walk n ≡ false) = elim c.else-steps-from.branch [ else-steps-from-via-then-steps-from+else-walk-steps w ↦ inr (backward_out walk.whole walk.inside walk.place walk.step c.requires.inside c.requires.walk.inside c.requires.walk.step w.if-walk-steps.false) | else-steps-from-via-else-steps-from w ↦ inl (let e = c.from.ensures in let f = w.if-steps-from.false in omega arith) ] in
    c.capped.ensures ∙ count_capped (is_inside walk) n c.args.cap (λ j h. backward_in walk.whole walk.inside walk.place walk.step j c.requires.walk.inside c.requires.inside c.requires.walk.step h) ends
