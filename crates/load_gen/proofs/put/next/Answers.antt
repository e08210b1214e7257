use Rattle.load_gen.proofs.Texts.{next_wraps}
use Rattle.load_gen.proofs.put.next.Goals as goal

pub returns : goal.returns
returns c = let m = next_wraps c.args.x in cc
