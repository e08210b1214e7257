use Rattle.code_laws.proofs.Pictures.{picture_same}
use Rattle.code_laws.proofs.picture_is_that_of_the_module.Goals as goal

pub returns : goal.returns
returns c = picture_same
