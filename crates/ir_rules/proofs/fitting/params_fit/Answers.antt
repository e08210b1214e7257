use Rattle.std.proofs.Common.{arith, sym, ◌∙◌}
use Rattle.ir_tree.specs.Naming.{type_at}
use Rattle.ir_rules.proofs.CallLemmas.{fit_short, fit_stop, fit_more, fit_end, or_left, or_right}
use Rattle.ir_rules.proofs.fitting.params_fit.Goals as goal

pub returns-then-arguments-params : goal.returns-then-arguments-params
returns-then-arguments-params c = fit_short (type_at c.args.names.now) (type_at c.args.names.now) c.args.more c.args.params.now c.args.arguments.now (omega arith)

pub returns-then-not-same_type : goal.returns-then-not-same_type
returns-then-not-same_type c =
    fit_stop (type_at c.args.names.now) (type_at c.args.names.now) c.args.more c.args.params.now c.args.arguments.now c.loop-i.i 0 0 c.same_type.result (omega arith) (omega arith) c.loop-i.invariant c.same_type.ensures c.if-not-same_type.true

pub loop-i-preserved : goal.loop-i-preserved
loop-i-preserved c =
    fit_more (type_at c.args.names.now) (type_at c.args.names.now) c.args.more c.args.params.now c.args.arguments.now c.loop-i.i 0 0 c.same_type.result (omega arith) (omega arith) c.loop-i.invariant c.same_type.ensures c.if-not-same_type.false

pub returns-then-more : goal.returns-then-more
returns-then-more c =
    or_left c.args.more _ c.if-more.true
    ∙ (fit_end (type_at c.args.names.now) (type_at c.args.names.now) c.args.more c.args.params.now c.args.arguments.now c.loop-i.i (omega arith) (omega arith) ∙ sym c.loop-i.invariant)

pub returns-else-more : goal.returns-else-more
returns-else-more c =
    or_right c.args.more _ c.if-more.false
    ∙ (fit_end (type_at c.args.names.now) (type_at c.args.names.now) c.args.more c.args.params.now c.args.arguments.now c.loop-i.i (omega arith) (omega arith) ∙ sym c.loop-i.invariant)
