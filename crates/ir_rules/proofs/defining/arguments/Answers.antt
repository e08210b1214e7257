use Rattle.std.proofs.Common.{[]}
use Rattle.ir_rules.specs.Defining.{argument_of}
use Rattle.ir_rules.proofs.DefiningLemmas.{pushed}
use Rattle.ir_rules.proofs.defining.arguments.Goals as goal

pub loop-param-preserved : goal.loop-param-preserved
loop-param-preserved c = pushed argument_of [] c.loop-param.all c.in_ok-all.all c.args.params.now c.loop-param.param-index _ c.argument_of.result c.loop-param-test.true c.loop-param.invariant c.argument_of.ensures c.in_ok-all.ensures
