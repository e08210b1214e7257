use Rattle.read_laws.proofs.Named.{texts_describe}
use Rattle.read_laws.proofs.texts_describe.Goals as goal

pub returns : goal.returns
returns c = texts_describe
