use Rattle.std.proofs.lemmas.Result.{on_ok_weaker}
use Rattle.ir_printer.proofs.Bracketing.{array_begun}
use Rattle.ir_printer.proofs.nested.begin_array.Goals as goal

pub returns : goal.returns
returns c = on_ok_weaker c.push-2.result (λ last t. array_begun t c.args.to.now c.put_array_head.new.to c.args.stack.now c.push.new.self c.push-2.new.self c.args.count c.args.of c.in_ok-put_array_head.ensures c.in_ok-push.ensures.ok last) c.push-2.ensures.ok
