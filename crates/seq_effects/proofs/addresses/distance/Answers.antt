use Rattle.std.proofs.Common.{◌≡◌, ◌∙◌, ◌+ℤ◌, sym, arith, rules}
use Rattle.std.specs.Prelude.{FitsSigned}
use Rattle.std.specs.Int.{w128}
use Rattle.std.proofs.lemmas.Int.{ints}
use Rattle.seq_effects.specs.Accesses.{exact}
use Rattle.seq_effects.proofs.Totals.{sum_start, sum_on, sum_err, sum_end}
use Rattle.seq_effects.proofs.addresses.distance.Goals as goal

pub loop-index-init : goal.loop-index-init
loop-index-init c = (sum_start _, omega (arith, ints), omega (arith, ints))

pub loop-index-preserved : goal.loop-index-preserved
loop-index-preserved c =
    let lt = rw c.as_slice-index-items.ensures at c.loop-index-test.true in
    let same = rw c.as_slice-index-items.ensures at c.index-item.is in
    let f : FitsSigned w128 c.in-Ok.more = search rules in
    let sum : exact c.add-sum.result ≡ exact c.loop-index.sum +ℤ c.in-Ok.more = omega (arith, ints, c.add-sum.ensures.value) in (
      sym (sum_on c.args.indices.now c.args.frame.now (exact c.loop-index.sum) (exact c.add-sum.result) c.in-Ok.more c.loop-index.index-index c.index-item.result lt same (sym c.in-Ok.is ∙ c.term.ensures) sum) ∙ c.loop-index.invariant.0,
      omega (arith, ints, c.add-sum.ensures.up, c.add-sum.ensures.down, c.loop-index.invariant.1, c.loop-index.invariant.2),
      omega (arith, ints, c.add-sum.ensures.up, c.add-sum.ensures.down, c.loop-index.invariant.1, c.loop-index.invariant.2),
    )

pub returns-in-Err : goal.returns-in-Err
returns-in-Err c =
    let lt = rw c.as_slice-index-items.ensures at c.loop-index-test.true in
    let same = rw c.as_slice-index-items.ensures at c.index-item.is in
    sym (sum_err c.args.indices.now c.args.frame.now (exact c.loop-index.sum) c.loop-index.index-index c.index-item.result c.in-Err.trap lt same (sym c.in-Err.is ∙ c.term.ensures)) ∙ c.loop-index.invariant.0

pub returns : goal.returns
returns c =
    let le = rw c.as_slice-index-items.ensures at c.loop-index-test.false in
    sym (sum_end c.args.indices.now c.args.frame.now (exact c.loop-index.sum) c.loop-index.index-index le) ∙ c.loop-index.invariant.0
