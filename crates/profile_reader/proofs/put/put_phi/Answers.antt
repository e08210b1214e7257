use Rattle.profile_reader.proofs.KeepLemmas.{put_phi}
use Rattle.profile_reader.proofs.put.put_phi.Goals as goal

pub returns-clause-lines : goal.returns-clause-lines
returns-clause-lines c = rw c.in_ok-push.ensures.ok (put_phi c.args.current.now c.args.phi c.requires)
