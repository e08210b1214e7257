use Rattle.module_laws.proofs.Uniqueness.{spelled_is_read}
use Rattle.module_laws.proofs.spelled_modules_are_read.Goals as goal

pub returns : goal.returns
returns c = spelled_is_read
