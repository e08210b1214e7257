use Rattle.std.proofs.Common.{◌++◌, ap, sym, ◌∙◌, append-nil}
use Rattle.privacy_check.specs.Views.{names_of}
use Rattle.privacy_check.proofs.Tables.{names_of-table_of}
use Rattle.privacy_check.proofs.shadow.Shadow.names.Goals as goal

pub returns-clause-all : goal.returns-clause-all
returns-clause-all c =
    sym (append-nil c.loop-name.names) ∙ ap (λ left. c.loop-name.names ++ left) (sym c.in-None.ensures.steps.0) ∙ c.loop-name.invariant
    ∙ c.into_iter-name-iterator.ensures.into_iter_gives ∙ c.keys-name-items.ensures.rest
    ∙ names_of-table_of (λ v. v.items) c.self.inside.objects.entries ∙ ap names_of c.self.view_is
