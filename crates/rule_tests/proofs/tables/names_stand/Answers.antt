use Rattle.std.proofs.Common.{arith}
use Rattle.pv_base.specs.declared.name.Name.TheVariants.{Numbered}
use Rattle.ir_rules.specs.Reading.{name_stands}
use Rattle.rule_tests.proofs.ReadingLemmas.{all_items}
use Rattle.rule_tests.proofs.tables.names_stand.Goals as goal

pub returns : goal.returns
returns c = all_items name_stands (Numbered 0) c.args.names.now.names (λ j lt. c.loop-i.invariant j (omega arith))
