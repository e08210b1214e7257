use Rattle.std.proofs.Common.{arith}
use Rattle.std.specs.Prelude.{nat_eq, not, ◌||◌}
use Rattle.std.specs.List.{list_all}
use Rattle.ir_rules.specs.Forms.{targets}
use Rattle.ir_checker.specs.Keys.{key_of}
use Rattle.ir_checker.specs.Entering.{list_at}
use Rattle.ir_checker.proofs.EnterLemmas.{all_start, all_step, all_done}
use Rattle.ir_checker.proofs.edges.with_instructions.Goals as goal

pub loop-instruction-init : goal.loop-instruction-init
loop-instruction-init c = λ q p. all_start (λ i. list_all (λ k. not (nat_eq q (key_of c.args.names.now c.args.zero k)) || p c.args.from) (targets i)) c.args.instructions.now (list_all p (list_at c.args.to q))

pub loop-instruction-preserved : goal.loop-instruction-preserved
loop-instruction-preserved c = λ q p.
    all_step (λ i. list_all (λ k. not (nat_eq q (key_of c.args.names.now c.args.zero k)) || p c.args.from) (targets i)) c.args.instructions.now c.loop-instruction.instruction-index c.instruction-item.result c.instruction-item.result
    (list_all p (list_at c.args.to q)) (list_all p (list_at c.loop-instruction.to q)) _ (omega arith) c.instruction-item.is
    (rw (c.as_slice.ensures, c.in_ok-labels.ensures) at (c.in_ok-to.ensures q p)) (c.loop-instruction.invariant q p)

pub returns : goal.returns
returns c = λ q p.
    all_done (λ i. list_all (λ k. not (nat_eq q (key_of c.args.names.now c.args.zero k)) || p c.args.from) (targets i)) c.args.instructions.now c.loop-instruction.instruction-index (list_all p (list_at c.args.to q)) _ (omega arith) (c.loop-instruction.invariant q p)
