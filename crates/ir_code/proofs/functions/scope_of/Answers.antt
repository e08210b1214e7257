use Rattle.ir_code.proofs.Assembling.{scope_right}
use Rattle.ir_code.proofs.functions.scope_of.Goals as goal

pub returns-clause-scope : goal.returns-clause-scope
returns-clause-scope c =
    scope_right c.args.lookups.now c.args.function.now c.into_names.result c.in_ok-labels.labels c.in_ok-joins.joins c.in_ok-registers.registers c.as_slice-blocks.result.now c.in_ok-registers.ensures c.as_slice-blocks.ensures c.into_names.ensures c.in_ok-labels.ensures c.in_ok-joins.ensures
