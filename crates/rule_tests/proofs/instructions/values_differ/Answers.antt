use Rattle.std.proofs.Common.{sym, ap, ◌∙◌}
use Rattle.std.specs.Prelude.{nat_eq}
use Rattle.ir_rules.specs.Reading.{all_differ}
use Rattle.rule_tests.proofs.ReadingLemmas.{bits_of_cases}
use Rattle.rule_tests.proofs.instructions.values_differ.Goals as goal

pub returns : goal.returns
returns c = c.in_ok-differ.ensures ∙ ap (all_differ nat_eq) (c.as_slice.ensures ∙ c.in_ok-all.ensures ∙ sym (bits_of_cases c.args.names.now c.args.cases.now))
