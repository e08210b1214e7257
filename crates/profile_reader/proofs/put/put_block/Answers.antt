use Rattle.profile_reader.proofs.KeepLemmas.{put_block}
use Rattle.profile_reader.proofs.put.put_block.Goals as goal

pub returns-clause-lines : goal.returns-clause-lines
returns-clause-lines c = rw c.in_ok-push.ensures.ok (put_block c.args.current.now c.args.name c.requires)
