use Rattle.std.proofs.Common.{refl}
use Rattle.command_words.specs.Requests.{asked_of}
use Rattle.privateer_core.proofs.TopLemmas.{ends_given, ends_without}
use Rattle.privateer_core.proofs.top.plain_top.Goals as goal

pub returns-in-Ok : goal.returns-in-Ok
returns-in-Ok g c =
    record { ends = ends_given (asked_of c.args.words.now) _ _ c.deliver.result c.in-Ok.a c.in-Ok.ensures.answers c.deliver.ensures c.in-Ok.ensures.answered c.in-Ok.ensures.content c.in-Ok.ensures.later }

pub returns-in-Err : goal.returns-in-Err
returns-in-Err g c = record { ends = ends_without (asked_of c.args.words.now) _ _ refl refl c.answer.ensures.content c.answer.ensures.later }
