use Rattle.std.proofs.Common.{length, sym, ◌∙◌, arith, ◌<◌}
use Rattle.ir_tree.specs.Naming.{type_at}
use Rattle.ir_tree.specs.Modules.{types_of}
use Rattle.ir_rules.specs.Reading.{level_stands}
use Rattle.rule_tests.proofs.ReadingLemmas.{all_below, not_below}
use Rattle.rule_tests.proofs.tables.types_stand.Goals as goal

pub returns-then-not-level_stands : goal.returns-then-not-level_stands
returns-then-not-level_stands c =
    let lt : c.loop-i.i < length c.args.tree.now.names.types = rw c.names.ensures at (rw c.type_count-i-end.ensures at c.loop-i-test.true) in
    not_below (λ k. level_stands (types_of c.args.tree.now) (type_at c.args.tree.now.names k)) (length c.args.tree.now.names.types) c.loop-i.i lt (rw (← c.in_ok-number.ensures) (sym c.level_stands.ensures ∙ c.if-not-level_stands.true))

pub returns : goal.returns
returns c =
    let len = rw c.names.ensures at c.type_count-i-end.ensures in
    all_below (λ k. level_stands (types_of c.args.tree.now) (type_at c.args.tree.now.names k)) (length c.args.tree.now.names.types) (λ j lt. c.loop-i.invariant j (omega (arith, len)))
