use Rattle.std.proofs.Common.{sym, subst}
use Rattle.std.proofs.lemmas.Result.{IfOk-weaker}
use Rattle.command_words.specs.PlainLines.{ReadsPlain}
use Rattle.command_words.specs.Requests.{Asked}
use Rattle.command_words.proofs.PlainReads.{reads_plain}
use Rattle.command_words.proofs.request.read_request.Goals as goal

pub returns-clause-plain : goal.returns-clause-plain
returns-clause-plain c =
    IfOk-weaker c.read_exactly.result _ _ (λ r e. subst (λ (a : Asked). ReadsPlain c.args.words.now a) (sym e) (reads_plain c.args.words.now)) c.read_exactly.ensures
