use Rattle.mem_image.proofs.Lookups.{shape-end_frame, peek-end_frame}
use Rattle.mem_image.proofs.laws.ended_is_gone.Goals as goal

pub returns : goal.returns
returns c m names name offset k = (shape-end_frame m names name k, peek-end_frame m names name offset k)
