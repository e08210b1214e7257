use Rattle.profile_laws.proofs.Accepts.{accepts}
use Rattle.profile_laws.proofs.accepts_the_grammar.Goals as goal

pub returns : goal.returns
returns c = accepts
