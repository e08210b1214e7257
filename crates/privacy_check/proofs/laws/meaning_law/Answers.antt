use Rattle.std.proofs.Common.{List, [], false, ◌∙◌, ap, sym, append-nil}
use Rattle.privacy_check.specs.Shadows.{Shadows, untouched}
use Rattle.privacy_check.specs.History.{Call, no_turns, turns_after}
use Rattle.privacy_check.specs.Meaning.{accepted}
use Rattle.privacy_check.proofs.Histories.{reached, new_inv}
use Rattle.privacy_check.proofs.Meanings.{accepted_are, bytes_after, meaning_of, new_bytes}
use Rattle.privacy_check.proofs.laws.meaning_law.Goals as goal

pub returns : goal.returns
returns c = λ sizes calls lawful name size known.
    let start : Shadows = untouched sizes in
    let these : List Call = accepted start calls in
    let are = accepted_are sizes calls start 3 lawful in
    let at = reached sizes these [] start (λ n o. no_turns) 3 (new_inv sizes) (rw append-nil are.lawful) are.ok in
    let stands = at.inv.stands name size known in
    record {
      codes = stands.codes;
      known = ap (λ (s : Shadows). s name) (sym are.same) ∙ stands.known;
      sized = stands.sized;
      each = λ o h. meaning_of at.last name o _ these (turns_after name o no_turns these) (at.inv.small name o) (stands.each o h)
          (bytes_after sizes these start (λ n o. no_turns) (λ n o. []) (λ n o. false) 3 (new_inv sizes) new_bytes are.lawful are.ok name o);
    }
