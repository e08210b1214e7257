use Rattle.std.proofs.lemmas.Result.{on_ok_weaker}
use Rattle.ir_printer.specs.Nesting.{constant_below}
use Rattle.ir_printer.proofs.Bracketing.{address_begun}
use Rattle.ir_printer.proofs.nested.begin_address.Goals as goal

pub returns : goal.returns
returns c =
    on_ok_weaker c.push-4.result
    (λ last t. address_begun t c.args.to.now c.append.new.self c.args.stack.now c.push.new.self c.push-2.new.self c.push-3.new.self c.push-4.new.self c.args.of c.args.typed
    (constant_below t c.args.of c.args.base) c.below.result (c.below.ensures t) c.in_ok-append.ensures.ok c.in_ok-push.ensures.ok c.in_ok-push-2.ensures.ok c.in_ok-push-3.ensures.ok last) c.push-4.ensures.ok
