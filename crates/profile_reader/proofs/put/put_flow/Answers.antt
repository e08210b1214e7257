use Rattle.profile_reader.proofs.KeepLemmas.{put_flow}
use Rattle.profile_reader.proofs.put.put_flow.Goals as goal

pub returns-clause-lines : goal.returns-clause-lines
returns-clause-lines c = rw c.in_ok-push.ensures.ok (put_flow c.args.current.now c.args.flow c.requires)
