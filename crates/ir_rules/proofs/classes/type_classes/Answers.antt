use Rattle.std.proofs.Common.{length, arith, ◌∙◌, ap}
use Rattle.std.proofs.lemmas.List.{length_push}
use Rattle.ir_rules.proofs.ClassLemmas.{no_classes, classes_more, classes_whole}
use Rattle.ir_rules.proofs.classes.type_classes.Goals as goal

pub loop-number-init : goal.loop-number-init
loop-number-init c = record {
  len = ap length c.new-classes.ensures;
  below = rw c.new-classes.ensures (no_classes c.args.names.now);
  keyed = rw c.new-classes.ensures c.in_ok-keys.ensures;
}

pub loop-number-preserved : goal.loop-number-preserved
loop-number-preserved c =
    let e = c.in_ok-push.ensures.ok in
    let at = c.as_slice.ensures in
    let next = c.in_ok-class.ensures in
    record {
      len = rw (e, length_push) (omega (arith, c.loop-number.invariant.len));
      below = rw e (classes_more c.args.names.now c.loop-number.classes c.in_ok-class.class c.loop-number.invariant.below (rw at at next.class) (rw at at next.most));
      keyed = rw e (rw at at next.keyed);
    }

pub returns : goal.returns
returns c = classes_whole c.args.names.now c.loop-number.classes (c.loop-number.invariant.len ∙ omega (arith, c.type_count-number-end.ensures)) c.loop-number.invariant.below
