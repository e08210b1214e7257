use Rattle.std.proofs.Common.{ℕ, arith, sym, ◌∙◌, false}
use Rattle.ir_tree.specs.declared.items.Param.{Param}
use Rattle.ir_tree.specs.Naming.{type_at}
use Rattle.ir_rules.specs.Outer.{shown_outer}
use Rattle.ir_rules.proofs.CallLemmas.{fit_short, fit_stop, fit_more, fit_end}
use Rattle.ir_rules.proofs.whole.each_fits.Goals as goal

pub returns-then-params-outer : goal.returns-then-params-outer
returns-then-params-outer c = fit_short shown_outer (λ (p : Param ℕ ℕ). type_at c.args.names.now p.of) false c.args.outer.now c.args.params.now (omega arith)

pub returns-then-not-is_outer : goal.returns-then-not-is_outer
returns-then-not-is_outer c =
    fit_stop shown_outer (λ (p : Param ℕ ℕ). type_at c.args.names.now p.of) false c.args.outer.now c.args.params.now c.loop-i.i _ _ c.is_outer.result (omega arith) (omega arith) c.loop-i.invariant c.is_outer.ensures c.if-not-is_outer.true

pub loop-i-preserved : goal.loop-i-preserved
loop-i-preserved c =
    fit_more shown_outer (λ (p : Param ℕ ℕ). type_at c.args.names.now p.of) false c.args.outer.now c.args.params.now c.loop-i.i _ _ c.is_outer.result (omega arith) (omega arith) c.loop-i.invariant c.is_outer.ensures c.if-not-is_outer.false

pub returns : goal.returns
returns c = fit_end shown_outer (λ (p : Param ℕ ℕ). type_at c.args.names.now p.of) false c.args.outer.now c.args.params.now c.loop-i.i (omega arith) (omega arith) ∙ sym c.loop-i.invariant
