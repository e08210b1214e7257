use Rattle.std.proofs.Common.{◌≡◌}
use Rattle.std.proofs.lemmas.Bool.{eqb-true}
use Rattle.ir_checker.proofs.EnterLemmas.{all_again}
use Rattle.ir_checker.proofs.edges.ends_in.Goals as goal

pub returns : goal.returns
returns c = λ e p.
    let same : c.at-last.result.now ≡ c.args.number = eqb-true c.at-last.result.now c.args.number e in
    rw (← same) (all_again p c.args.list.now _ c.at-last.result.now c.at-last.ensures)
