use Rattle.std.proofs.Common.{refl, ◌∙◌}
use Rattle.ir_tree.specs.Filling.{Stays}
use Rattle.ir_tree.proofs.Steps.{reaches_then, tried}
use Rattle.ir_tree.proofs.layouts.follow.Goals as goal

pub loop-number-init : goal.loop-number-init
loop-number-init c = record { reaches = Stays; len = refl; bounded = c.requires.bounded }

pub loop-number-preserved : goal.loop-number-preserved
loop-number-preserved c =
    let more = tried c.args.names.now c.args.bodies.now c.loop-number.answers c.find.new.answers _ c.find.result (c.loop-number.invariant.len ∙ c.requires.len) c.loop-number.invariant.bounded c.find.ensures in
    record {
      reaches = reaches_then _ _ _ _ _ c.loop-number.invariant.reaches more.0;
      len = more.1 ∙ c.loop-number.invariant.len;
      bounded = more.2;
    }
