use Rattle.profile_reader.proofs.KeepLemmas.{put_local}
use Rattle.profile_reader.proofs.put.put_local.Goals as goal

pub returns-clause-lines : goal.returns-clause-lines
returns-clause-lines c = rw c.in_ok-push.ensures.ok (put_local c.args.current.now c.args.site c.requires)
