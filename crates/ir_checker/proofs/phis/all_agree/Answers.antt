use Rattle.std.proofs.Common.{◌∙◌, arith, below_more}
use Rattle.ir_checker.proofs.PhiLemmas.{agree_stop, agree_end}
use Rattle.ir_checker.proofs.phis.all_agree.Goals as goal

pub returns-then-not-has_first_operand : goal.returns-then-not-has_first_operand
returns-then-not-has_first_operand c =
    agree_stop c.args.names.now c.args.zero c.requires.zero c.args.arms.now c.args.from.now c.requires.from c.loop-i.i c.has_first_operand.result (omega arith) c.has_first_operand.ensures c.if-not-has_first_operand.true

pub loop-i-preserved : goal.loop-i-preserved
loop-i-preserved c = below_more _ _ c.loop-i.invariant (λ p d e. c.has_first_operand.ensures p d e ∙ c.if-not-has_first_operand.false)

pub returns : goal.returns
returns c = agree_end c.args.names.now c.args.zero c.requires.zero c.args.arms.now c.args.from.now c.requires.from (λ j lt. c.loop-i.invariant j (omega arith))
