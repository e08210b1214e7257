use Rattle.turn_laws.proofs.Trees.{image_is_instance}
use Rattle.turn_laws.proofs.an_image_is_a_memory.Goals as goal

pub returns : goal.returns
returns g c = image_is_instance _
