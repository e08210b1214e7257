use Rattle.std.proofs.Common.{arith, ◌∙◌, Err, sym, ap}
use Rattle.command_words.proofs.NumeralLemmas.{refused_at, one_more}
use Rattle.command_words.proofs.numerals.numbers.Goals as goal

pub returns-in-Err : goal.returns-in-Err
returns-in-Err c =
    let h = rw c.in-Err.is at c.in_ok-value.ensures in
    refused_at c.loop-numeral.numeral-index c.args.all.now _ c.loop-numeral.values.items (omega arith) c.loop-numeral.invariant h.0 ∙ sym (ap Err h.1)

pub loop-numeral-preserved : goal.loop-numeral-preserved
loop-numeral-preserved c =
    let h = rw c.in-Ok.is at c.in_ok-value.ensures in
    rw c.in_ok-push-in-Ok.ensures.items (one_more c.loop-numeral.numeral-index c.args.all.now _ c.loop-numeral.values.items c.in-Ok.value (omega arith) c.loop-numeral.invariant h)
