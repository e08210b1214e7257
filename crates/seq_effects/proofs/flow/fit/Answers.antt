use Rattle.std.proofs.Common.{◌≡◌, slice_get, sym, ◌∙◌, arith, add-one, false, true}
use Rattle.seq_effects.specs.Values.{may_hold, Holds}
use Rattle.seq_effects.proofs.Operands.{fit_step, fit_more, have_types}
use Rattle.seq_effects.proofs.flow.fit.Goals as goal

pub returns-then-not-fits_at-clause-same : goal.returns-then-not-fits_at-clause-same
returns-then-not-fits_at-clause-same c =
    let step = fit_step c.args.types.now c.args.values.now c.loop-i.i c.index-values-i.result c.loop-i-test.true c.index-values-i.is in
    let no : may_hold (slice_get c.args.types.now c.loop-i.i) c.index-values-i.result ≡ false = sym c.fits_at.ensures.same ∙ c.if-not-fits_at.true in
    sym (rw no at step) ∙ c.loop-i.invariant.0

pub loop-i-preserved : goal.loop-i-preserved
loop-i-preserved c =
    let step = fit_step c.args.types.now c.args.values.now c.loop-i.i c.index-values-i.result c.loop-i-test.true c.index-values-i.is in
    let yes : may_hold (slice_get c.args.types.now c.loop-i.i) c.index-values-i.result ≡ true = sym c.fits_at.ensures.same ∙ c.if-not-fits_at.false in
    let holds : Holds c.args.types.now c.loop-i.i c.index-values-i.result = c.fits_at.ensures.holds c.if-not-fits_at.false in
    (rw add-one (sym (rw yes at step) ∙ c.loop-i.invariant.0), omega (arith, holds.there), fit_more _ _ _ c.index-values-i.result c.loop-i-test.true c.index-values-i.is holds c.loop-i.invariant.2)

pub returns-clause-holds : goal.returns-clause-holds
returns-clause-holds c = λ _. have_types c.args.types.now c.args.values.now c.loop-i.i c.loop-i.invariant.1 c.loop-i-test.false c.loop-i.invariant.2
