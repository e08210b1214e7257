use Rattle.std.proofs.Common.{refl}
use Rattle.rule_tests.specs.Tested.{table_stands}
use Rattle.rule_tests.proofs.reading.table_stands.Goals as goal

pub returns : goal.returns
unfolding table_stands
returns c = rw (c.in_ok-names.ensures, c.in_ok-types.ensures, c.in_ok-constants.ensures, c.names.ensures) refl
