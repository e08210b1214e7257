use Rattle.std.proofs.Common.{arith}
use Rattle.turn_count.specs.Walks.{is_inside}
use Rattle.turn_count.proofs.Counts.{all_in, none_in}
use Rattle.turn_count.proofs.Laps.{at_start, still, nowhere_out}
use Rattle.turn_count.proofs.walk.steps_inside.Goals.{then-walk-eq0-via-then-walk-eq0, then-walk-eq0-via-else-walk-eq0+then-walk-2}
use Rattle.turn_count.proofs.walk.steps_inside.Goals as goal

pub returns-then-walk : goal.returns-then-walk
returns-then-walk c =
    let walk = c.args.walk in
    none_in (is_inside walk) c.args.cap (at_start walk.whole walk.inside walk.place walk.step c.requires.place c.if-walk.true)

pub returns-then-walk-eq0 : goal.returns-then-walk-eq0
returns-then-walk-eq0 c =
    let walk = c.args.walk in
    elim c.then-walk-eq0.branch [
      | then-walk-eq0-via-then-walk-eq0 w ↦ all_in (is_inside walk) c.args.cap (λ j h. still walk.whole walk.inside walk.place walk.step j c.requires.place c.if-walk.false w.if-walk-eq0.true)
      | then-walk-eq0-via-else-walk-eq0+then-walk-2 w ↦ all_in (is_inside walk) c.args.cap (λ j h. nowhere_out walk.whole walk.inside walk.place walk.step j (let p = c.requires.place in omega arith) w.if-walk-2.true)
    ]
