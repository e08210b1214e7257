use Rattle.std.proofs.Common.{sym}
use Rattle.rule_tests.proofs.TestedLemmas.{globals_are}
use Rattle.rule_tests.proofs.reading.globals_stand.Goals as goal

pub returns : goal.returns
returns c = rw (c.have_layouts-layouts.ensures, c.sizes_below-sizes.ensures, c.is_number-variables.ensures, c.is_number.ensures, c.globals-globals.ensures, c.functions-functions.ensures) (sym (globals_are c.args.tree.now))
