use Rattle.std.proofs.Common.{◌∙◌, sym, arith}
use Rattle.rule_tests.proofs.NumberLemmas.{any_more, differ_more, differ_twice, differ_none, differ_whole, empty_set, is_old, is_new}
use Rattle.rule_tests.proofs.differing.numbers_differ.Goals as goal

pub loop-i-init : goal.loop-i-init
loop-i-init c = record { seen = λ q. empty_set q c.new-seen.result c.new-seen.ensures.empty; differ = differ_none }

pub returns-then-not-branch : goal.returns-then-not-branch
returns-then-not-branch c = differ_twice c.args.all.now c.loop-i.i 0 (omega arith) (sym (c.loop-i.invariant.seen _) ∙ is_old _ _ c.in_ok-add.ensures.new c.if-not-branch.true)

pub loop-i-preserved : goal.loop-i-preserved
loop-i-preserved c = record {
  seen = λ q. c.in_ok-add.ensures.more q ∙ rw (c.loop-i.invariant.seen q) (sym (any_more c.args.all.now c.loop-i.i 0 (omega arith) q));
  differ = differ_more c.args.all.now c.loop-i.i 0 (omega arith) c.loop-i.invariant.differ (sym (c.loop-i.invariant.seen _) ∙ is_new _ _ c.in_ok-add.ensures.new c.if-not-branch.false);
}

pub returns : goal.returns
returns c = differ_whole c.args.all.now c.loop-i.i (omega arith) c.loop-i.invariant.differ
