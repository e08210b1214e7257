use Rattle.std.proofs.Common.{refl, ◌∙◌}
use Rattle.ir_tree.specs.Filling.{Stays}
use Rattle.ir_tree.proofs.Steps.{reaches_then}
use Rattle.ir_tree.proofs.layouts.settle.Goals as goal

pub passes-init : goal.passes-init
passes-init c = record { reaches = Stays; len = refl; bounded = c.requires.bounded }

pub passes-preserved : goal.passes-preserved
passes-preserved c = record {
  reaches = reaches_then _ _ _ _ _ c.passes.invariant.reaches c.pass.ensures.reaches;
  len = c.pass.ensures.len ∙ c.passes.invariant.len;
  bounded = c.pass.ensures.bounded;
}
