use Rattle.std.proofs.Common.{◌≤◌, ◌+◌, ◌-◌, ◌*◌, ◌^◌, get_or, drop, arith, sym, ◌∙◌}
use Rattle.ir_lex.proofs.Spellings.{number_grows, number_step, number_end}
use Rattle.ir_lex.proofs.spelled.magnitude.Goals as goal

pub loop-b-preserved : goal.loop-b-preserved
loop-b-preserved c =
    let step = number_step c.loop-b.n c.loop-b.b-index c.args.digits.now c.loop-b-test.true in
    rw c.in-Some.ensures.1 (sym step ∙ c.loop-b.invariant)

pub returns-in-None : goal.returns-in-None
returns-in-None c =
    let ds = c.args.digits.now in
    let i = c.loop-b.b-index in
    let step = number_step c.loop-b.n i ds c.loop-b-test.true in
    let grows = number_grows (c.loop-b.n * 10 + (get_or ds i 0 - 48)) (drop (i + 1) ds) in
    let big : 2 ^ 128 ≤ c.loop-b.n * 10 + (get_or ds i 0 - 48) = omega (arith, c.in-None.ensures) in
    omega (arith, step, grows, big, c.loop-b.invariant)

pub returns : goal.returns
returns c = sym (number_end c.loop-b.n c.loop-b.b-index c.args.digits.now (omega arith)) ∙ c.loop-b.invariant
