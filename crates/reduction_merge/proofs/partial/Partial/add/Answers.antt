use Rattle.std.proofs.Common.{◌≡◌, pos, ◌≤ℤ◌, to_z, of_z, sym, subst, arith, ap, ◌∙◌}
use Rattle.std.specs.Int.{w128}
use Rattle.std.proofs.lemmas.Int.{ints}
use Rattle.int_num.specs.Integer.{Integer, HasWidth}
use Rattle.int_num.specs.Reductions.{reduce}
use Rattle.int_num.proofs.Widths.{reduce_keeps_width}
use Rattle.reduction_merge.proofs.Wide.{sum_positive}
use Rattle.reduction_merge.specs.Partials.{PartialOf, SumsFit, added}
use Rattle.reduction_merge.proofs.partial.Partial.add.Goals as goal

-- what is above 0 adds to what is above 0
rises : (c : goal.After-reduce) → pos 0 ≤ℤ to_z w128 (of_z w128 c.sum.result)
rises c = sum_positive c.sum.result c.self.inside.positive c.above.result (record { sfits = c.sum.type_inv }) c.self.invariant.sums.positive (record { sfits = c.above.type_inv }) c.sum.ensures c.self.invariant.positive c.above.ensures.sign

pub invariant_of-self : goal.invariant_of-self
invariant_of-self c =
    let one_width : c.self.inside.folded.width ≡ c.args.x.width = c.self.invariant.folded.width ∙ (ap (λ (p : PartialOf). p.width) c.self.view_is ∙ sym c.requires.width) in
    let folds : HasWidth c.self.inside.folded.width (reduce c.self.inside.op c.self.inside.folded c.args.x) = reduce_keeps_width c.self.inside.op c.self.inside.folded c.args.x c.self.invariant.folded.integer c.bits.ensures.range one_width in
    let sums = subst (λ (p : PartialOf). SumsFit (added p c.args.x)) (sym c.self.view_is) c.requires.sums in
    record {
      width = c.self.invariant.width;
      folded = subst (λ (n : Integer). HasWidth c.self.inside.width n) (sym c.reduce.ensures) (rw (← c.self.invariant.folded.width) folds);
      positive = rises c;
      negative = grind (arith, ints);
      sums = record { positive = grind (arith, ints); negative = grind (arith, ints); unsigned = grind (arith, ints) };
    }
