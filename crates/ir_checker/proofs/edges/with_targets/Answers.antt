use Rattle.std.proofs.Common.{arith, refl}
use Rattle.std.specs.Prelude.{nat_eq, not, ◌||◌}
use Rattle.std.specs.List.{list_all}
use Rattle.ir_checker.specs.Keys.{key_of}
use Rattle.ir_checker.specs.Entering.{list_at}
use Rattle.ir_checker.proofs.EnterLemmas.{all_start, all_step, all_done}
use Rattle.ir_checker.proofs.edges.with_targets.Goals as goal

pub loop-target-init : goal.loop-target-init
loop-target-init c = λ q p. all_start (λ k. not (nat_eq q (key_of c.args.names.now c.args.zero k)) || p c.args.from) c.args.targets.now (list_all p (list_at c.args.to q))

pub loop-target-preserved : goal.loop-target-preserved
loop-target-preserved c = λ q p.
    all_step (λ k. not (nat_eq q (key_of c.args.names.now c.args.zero k)) || p c.args.from) c.args.targets.now c.loop-target.target-index _ 0 (list_all p (list_at c.args.to q)) (list_all p (list_at c.loop-target.to q)) _ (omega arith) refl
    (rw c.key_of.ensures at (c.in_ok-to.ensures q p)) (c.loop-target.invariant q p)

pub returns : goal.returns
returns c = λ q p. all_done (λ k. not (nat_eq q (key_of c.args.names.now c.args.zero k)) || p c.args.from) c.args.targets.now c.loop-target.target-index (list_all p (list_at c.args.to q)) _ (omega arith) (c.loop-target.invariant q p)
