use Rattle.module_laws.proofs.WholeLaws.{read_is_spelled}
use Rattle.module_laws.proofs.modules_are_spelled.Goals as goal

pub returns : goal.returns
returns c = read_is_spelled
