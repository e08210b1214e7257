use Rattle.int_num.proofs.Widths.{binary_keeps_width, cast_has_width, reduce_keeps_width, identity_has_width}
use Rattle.int_num.proofs.laws.results_have_their_width.Goals as goal

pub returns-clause-binary : goal.returns-clause-binary
returns-clause-binary c = binary_keeps_width

pub returns-clause-cast : goal.returns-clause-cast
returns-clause-cast c = cast_has_width

pub returns-clause-reduce : goal.returns-clause-reduce
returns-clause-reduce c = reduce_keeps_width

pub returns-clause-identity : goal.returns-clause-identity
returns-clause-identity c = identity_has_width
