use Rattle.std.proofs.Common.{◌++◌, ◌∙◌, ap}
use Rattle.load_gen.specs.Module.{function_text}
use Rattle.load_gen.proofs.Texts.{each_none, one_more, drawn_first, function_at, drawn_more}
use Rattle.load_gen.proofs.module_text.put_functions.Goals as goal

pub loop-j-init : goal.loop-j-init
loop-j-init c = (each_none (function_text c.args.number) c.args.to.now, drawn_first c.args.number)

pub loop-j-preserved : goal.loop-j-preserved
loop-j-preserved c =
    let here = function_at c.args.number c.loop-j.j c.loop-j.drawn c.next-factor.result c.next-addend.result c.loop-j.invariant.1 c.next-factor.ensures c.next-addend.ensures in (
      one_more (function_text c.args.number) c.loop-j.j c.args.to.now c.loop-j.to c.put_function.new.to c.loop-j.invariant.0 (c.in_ok-put_function.ensures ∙ ap (λ t. c.loop-j.to ++ t) here),
      drawn_more c.args.number c.loop-j.j c.loop-j.drawn c.next-factor.result c.next-addend.result c.loop-j.invariant.1 c.next-factor.ensures c.next-addend.ensures,
    )
