use Rattle.std.proofs.Common.{ap, ◌∙◌}
use Rattle.std.specs.Prelude.{not}
use Rattle.profile_reader.proofs.SetLemmas.{holds_more, new_at}
use Rattle.profile_reader.proofs.repeats.note.Goals as goal

pub returns-clause-new : goal.returns-clause-new
returns-clause-new c = λ lines holds.
    c.in_ok-new.ensures.added ∙ ap not (new_at c.args.set.now c.in_ok-key.key c.args.line.now lines c.in_ok-key.ensures holds)

pub returns-clause-holds : goal.returns-clause-holds
returns-clause-holds c = λ lines holds.
    holds_more _ _ c.in_ok-key.key c.args.line.now lines c.in_ok-key.ensures holds c.in_ok-new.ensures.updates.0
