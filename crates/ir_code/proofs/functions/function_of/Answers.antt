use Rattle.ir_code.proofs.Assembling.{function_right}
use Rattle.ir_code.proofs.functions.function_of.Goals as goal

pub returns-clause-code : goal.returns-clause-code
returns-clause-code c =
    function_right c.args.module.now c.args.lookups.now c.args.function.now _ c.in_ok-parameters.parameters _ c.scalar.result _ _ c.external_of.result
    c.as_slice-all.result.now c.as_slice.result.now c.args.linkage
    c.as_slice-all.ensures c.as_slice.ensures c.requires.linkage
    c.in_ok-scope.ensures.scope c.in_ok-parameters.ensures c.scalar.ensures c.in_ok-scope.ensures.types
    c.in_ok-blocks.ensures.blocks c.in_ok-blocks.ensures.edges c.external_of.ensures
