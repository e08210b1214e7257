use Rattle.std.proofs.Common.{length, arith, ap, ◌∙◌}
use Rattle.ir_lex.specs.Spelling.{written}
use Rattle.ir_lex.proofs.Spellings.{decoded_step, decoded_end}
use Rattle.ir_lex.proofs.spelled.decoded_len.Goals as goal

pub loop-at-preserved : goal.loop-at-preserved
loop-at-preserved c =
    let text = c.args.text.now in
    let at = c.loop-at.at in
    let n = c.written-at.result in
    let step = ap length (decoded_step text at n c.loop-at-test.true (c.written-at.ensures.value ∙ ap written c.from.ensures.value) c.written-at.ensures.some) in
    record {
      within = omega (arith, c.written-at.ensures.bound, c.from.ensures.len);
      counts = omega arith;
      so_far = omega (arith, step);
    }

pub returns : goal.returns
returns c = omega (arith, ap length (decoded_end c.args.text.now c.loop-at.at c.loop-at-test.false))
