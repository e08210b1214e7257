use Rattle.privateer_core.proofs.RequestLemmas.{usage_answered, help_answered}
use Rattle.privateer_core.proofs.requests.answer_request.Goals as goal

pub returns-in-Usage-clause-answers : goal.returns-in-Usage-clause-answers
returns-in-Usage-clause-answers g c =
    rw c.in-Usage.is (usage_answered (g.F.Files.content c.args.files.now) c.in-Usage.line _ _ c.refuse.ensures)

pub returns-in-Refused-clause-answers : goal.returns-in-Refused-clause-answers
returns-in-Refused-clause-answers g c =
    rw c.in-Refused.is (help_answered (g.F.Files.content c.args.files.now) c.in-Refused.text _ _ c.refuse-in-Refused.ensures)
