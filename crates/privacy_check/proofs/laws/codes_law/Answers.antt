use Rattle.std.proofs.Common.{[], append-nil}
use Rattle.privacy_check.specs.Shadows.{untouched}
use Rattle.privacy_check.specs.History.{no_turns}
use Rattle.privacy_check.proofs.Histories.{reached, new_inv}
use Rattle.privacy_check.proofs.laws.codes_law.Goals as goal

pub returns : goal.returns
returns c = λ sizes calls lawful ok name size known.
    (reached sizes calls [] (untouched sizes) (λ n o. no_turns) 3 (new_inv sizes) (rw append-nil lawful) ok).inv.stands name size known
