use Rattle.read_laws.proofs.Texts.{texts_stand}
use Rattle.read_laws.proofs.texts_stand.Goals as goal

pub returns : goal.returns
returns c = texts_stand
