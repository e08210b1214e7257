use Rattle.module_laws.proofs.GlobalLaws.{named_type_laws}
use Rattle.module_laws.proofs.named_types_are_read.Goals as goal

pub returns : goal.returns
returns c = named_type_laws
