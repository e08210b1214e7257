use Rattle.std.proofs.Common.{[], ◌∷◌}
use Rattle.privacy_check.specs.Shadows.{untouched}
use Rattle.privacy_check.specs.History.{Touch, no_turns, turns_after, after_calls}
use Rattle.privacy_check.proofs.Histories.{reached, new_inv, next_may}
use Rattle.privacy_check.proofs.laws.access_law.Goals as goal

pub returns : goal.returns
returns c = λ sizes calls access at len stamp lawful ok.
    next_may sizes (after_calls (untouched sizes) calls) (λ n o. turns_after n o no_turns calls) access at len stamp
    (reached sizes calls (Touch access at len stamp ∷ []) (untouched sizes) (λ n o. no_turns) 3 (new_inv sizes) lawful ok)
