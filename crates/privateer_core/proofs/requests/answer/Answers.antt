use Rattle.std.proofs.Common.{◌≡◌, subst, Result, IfOk}
use Rattle.command_words.specs.Requests.{Asked, asked_of}
use Rattle.privateer_core.specs.Requests.{AnswersWords}
use Rattle.privateer_core.proofs.requests.answer.Goals as goal

pub returns-clause-answers : goal.returns-clause-answers
returns-clause-answers g c =
    subst (λ (asked : Asked). IfOk c.answer_request.result (AnswersWords (g.F.Files.content c.args.files.now) asked (g.F.Files.faults c.args.files.now) (g.F.Files.faults c.answer_request.new.files)))
    (rw c.as_slice.ensures at c.in_ok-request.ensures.asked) c.answer_request.ensures.answers
