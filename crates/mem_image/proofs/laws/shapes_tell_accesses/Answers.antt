use Rattle.mem_image.proofs.Lookups.{same_access, same_write_access, same_size}
use Rattle.mem_image.proofs.laws.shapes_tell_accesses.Goals as goal

pub returns : goal.returns
returns c m n pointer len e = (same_access m n pointer len e, same_write_access m n pointer len e, same_size m n pointer e)
