use Rattle.std.proofs.Common.{◌+◌, ◌-◌, ◌/◌, ◌≤◌, ◌≡◌, ◌⊎◌, inl, inr, false, arith, ◌∙◌}
use Rattle.turn_count.specs.Walks.{is_inside}
use Rattle.turn_count.proofs.Counts.{count_capped}
use Rattle.turn_count.proofs.Laps.{onward_in, onward_out}
use Rattle.turn_count.proofs.walk.onward.Goals.{else-steps-from-via-then-steps-from+else-walk-steps, else-steps-from-via-else-steps-from}
use Rattle.turn_count.proofs.walk.onward.Goals as goal

pub returns-clause-steps : goal.returns-clause-steps
returns-clause-steps c =
    let walk = c.args.walk in
    let n = (walk.inside - 1 - walk.place) / walk.step + 1 in
    let ends : (c.args.cap ≤ n) ⊎ (is_inside walk n ≡ false) = elim c.else-steps-from.branch [ else-steps-from-via-then-steps-from+else-walk-steps w ↦ inr (onward_out walk.whole walk.inside walk.place walk.step c.requires.inside c.requires.moves w.if-walk-steps.false) | else-steps-from-via-else-steps-from w ↦ inl (let e = c.from.ensures in let f = w.if-steps-from.false in omega arith) ] in
    c.capped.ensures ∙ count_capped (is_inside walk) n c.args.cap (λ j h. onward_in walk.whole walk.inside walk.place walk.step j c.requires.walk.inside c.requires.inside c.requires.moves h) ends
