use Rattle.turn_laws.proofs.Standing.{header_is_stop}
use Rattle.turn_laws.proofs.a_header_is_a_stop.Goals as goal

pub returns : goal.returns
returns c = header_is_stop
