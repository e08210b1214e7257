use Rattle.profile_reader.proofs.KeepLemmas.{put_use}
use Rattle.profile_reader.proofs.put.put_use.Goals as goal

pub returns-clause-lines : goal.returns-clause-lines
returns-clause-lines c = rw c.in_ok-push.ensures.ok (put_use c.args.current.now c.args.touched c.requires)
