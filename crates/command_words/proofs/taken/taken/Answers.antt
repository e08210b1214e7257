use Rattle.std.proofs.Common.{◌∙◌, map}
use Rattle.command_words.proofs.ReadLemmas.{is_taken, some_fault}
use Rattle.command_words.proofs.taken.taken.Goals as goal

pub returns-in-Ok : goal.returns-in-Ok
returns-in-Ok c = λ free.
    is_taken _ (map (λ s. s.now) c.args.words.now) c.in-Ok.matches free (c.in-Ok.ensures.kinds free) c.in-Ok.ensures.matches

pub returns : goal.returns
returns c = λ free.
    some_fault _ _ c.in-Err.e (c.in-Err.ensures.kinds free) (λ memory. c.in_default.not-OutOfMemory (c.kind.ensures ∙ memory))
