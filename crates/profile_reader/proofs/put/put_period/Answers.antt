use Rattle.profile_reader.proofs.KeepLemmas.{put_period}
use Rattle.profile_reader.proofs.put.put_period.Goals as goal

pub returns-clause-lines : goal.returns-clause-lines
returns-clause-lines c = put_period c.args.current.now c.args.turns c.requires.order c.requires.none
