use Rattle.std.proofs.Common.{◌∙◌}
use Rattle.std.proofs.lemmas.Result.{on_ok_weaker}
use Rattle.ir_printer.proofs.Bracketing.{text_written}
use Rattle.ir_printer.proofs.nested.put_text.Goals as goal

pub returns : goal.returns
returns c = on_ok_weaker c.put_quoted.result (λ e. e ∙ text_written c.args.to.now c.append.new.self c.args.bytes.now c.in_ok-append.ensures.ok) c.put_quoted.ensures
