use Rattle.std.proofs.lemmas.Result.{on_ok_weaker}
use Rattle.ir_printer.proofs.Bracketing.{field_begun}
use Rattle.ir_printer.proofs.nested.next_field.Goals as goal

pub returns : goal.returns
returns c = on_ok_weaker c.push-2.result (λ last t. field_begun t c.args.to.now c.put_lead.new.to c.args.stack.now c.push.new.self c.push-2.new.self c.args.of c.args.from c.args.field c.in_ok-put_lead.ensures c.in_ok-push.ensures.ok last) c.push-2.ensures.ok
