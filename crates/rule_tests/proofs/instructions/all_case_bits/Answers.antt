use Rattle.std.proofs.Common.{[]}
use Rattle.ir_tree.specs.Naming.{constant_at}
use Rattle.ir_rules.specs.Constants.{constant_bits}
use Rattle.ir_rules.proofs.DefiningLemmas.{pushed}
use Rattle.rule_tests.proofs.instructions.all_case_bits.Goals as goal

pub loop-case-preserved : goal.loop-case-preserved
loop-case-preserved c =
    pushed (λ k. constant_bits (constant_at c.args.names.now k.value)) [] c.loop-case.all c.in_ok-all.all c.args.cases.now c.loop-case.case-index _ c.case_bits.result c.loop-case-test.true c.loop-case.invariant c.case_bits.ensures c.in_ok-all.ensures
