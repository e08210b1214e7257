use Rattle.std.proofs.Common.{◌∙◌, sym, ap, map}
use Rattle.std.proofs.lemmas.Result.{IfOk-weaker}
use Rattle.command_words.specs.Requests.{asked_of_matches, whole_commands}
use Rattle.command_words.proofs.ReadLemmas.{words_taken, words_refused, entered_is, free_as, whole_is_free}
use Rattle.command_words.proofs.request.read_texts.Goals as goal

pub returns-in-Some : goal.returns-in-Some
returns-in-Some c =
    let parse = rw c.in-Ok.is at c.in_ok-matches.ensures in
    let taken = words_taken _ _ whole_commands (map (λ s. s.now) c.args.words.now) c.in_ok-command.ensures c.in-Ok.matches (parse (free_as _ _ c.in_ok-command.ensures whole_is_free)) in
    let entered = entered_is c.in-Ok.matches _ _ c.in-Some.ensures.name c.in-Some.ensures.rows in
    IfOk-weaker c.read_matches.result _ _ (λ r h. h ∙ sym (ap (asked_of_matches whole_commands) entered) ∙ taken) c.read_matches.ensures

pub returns : goal.returns
returns c =
    let refusal = rw c.in-Err.is at c.in_ok-matches.ensures in
    words_refused _ _ whole_commands (map (λ s. s.now) c.args.words.now) c.in_ok-command.ensures (refusal (free_as _ _ c.in_ok-command.ensures whole_is_free))
