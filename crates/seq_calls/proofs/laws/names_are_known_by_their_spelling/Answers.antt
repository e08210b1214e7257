use Rattle.std.proofs.Common.{◌≡◌, Some, subst}
use Rattle.pv_base.specs.Outside.{Text}
use Rattle.seq_calls.specs.Names.{known}
use Rattle.seq_calls.proofs.Spelling.{known_sound, known_complete}
use Rattle.seq_calls.proofs.laws.names_are_known_by_their_spelling.Goals as goal

pub returns : goal.returns
returns c name e = (known_sound name e, λ spelled. subst (λ (t : Text). known t ≡ Some e) spelled.1 (known_complete e spelled.0))
