use Rattle.profile_reader.proofs.KeepLemmas.{put_value}
use Rattle.profile_reader.proofs.put.put_value.Goals as goal

pub returns-clause-lines : goal.returns-clause-lines
returns-clause-lines c = rw c.in_ok-push.ensures.ok (put_value c.args.current.now c.args.value c.requires)
