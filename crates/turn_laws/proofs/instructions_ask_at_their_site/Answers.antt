use Rattle.turn_laws.proofs.Sites.{instructions_ask_at}
use Rattle.turn_laws.proofs.instructions_ask_at_their_site.Goals as goal

pub returns : goal.returns
returns c = instructions_ask_at
