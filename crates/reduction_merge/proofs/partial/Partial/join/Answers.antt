use Rattle.std.proofs.Common.{◌≡◌, sym, subst, arith, ap, ◌∙◌}
use Rattle.std.proofs.lemmas.Int.{ints}
use Rattle.int_num.specs.Integer.{Integer, HasWidth}
use Rattle.int_num.specs.Reductions.{reduce}
use Rattle.int_num.proofs.Widths.{reduce_keeps_width}
use Rattle.reduction_merge.specs.Partials.{PartialOf}
use Rattle.reduction_merge.proofs.partial.Partial.join.Goals as goal

pub invariant_of-self : goal.invariant_of-self
invariant_of-self c =
    let widths : c.other.inside.width ≡ c.self.inside.width = ap (λ (p : PartialOf). p.width) c.other.view_is ∙ (c.requires.kind.width ∙ sym (ap (λ (p : PartialOf). p.width) c.self.view_is)) in
    let one_width : c.self.inside.folded.width ≡ c.other.inside.folded.width = c.self.invariant.folded.width ∙ sym (c.other.invariant.folded.width ∙ widths) in
    let folds : HasWidth c.self.inside.folded.width (reduce c.self.inside.op c.self.inside.folded c.other.inside.folded) = reduce_keeps_width c.self.inside.op c.self.inside.folded c.other.inside.folded c.self.invariant.folded.integer c.other.invariant.folded.integer one_width in
    let fits = c.requires.sums in
    let mine = c.self.view_is in
    let theirs = c.other.view_is in
    record {
      width = c.self.invariant.width;
      folded = subst (λ (n : Integer). HasWidth c.self.inside.width n) (sym c.reduce.ensures) (rw (← c.self.invariant.folded.width) folds);
      positive = grind (arith, ints);
      negative = grind (arith, ints);
      sums = record { positive = grind (arith, ints); negative = grind (arith, ints); unsigned = grind (arith, ints) };
    }
