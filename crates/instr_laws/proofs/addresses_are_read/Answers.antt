use Rattle.instr_laws.proofs.AddressLaws.{address_laws}
use Rattle.instr_laws.proofs.addresses_are_read.Goals as goal

pub returns : goal.returns
returns c = address_laws
