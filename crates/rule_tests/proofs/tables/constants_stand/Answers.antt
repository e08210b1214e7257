use Rattle.std.proofs.Common.{length, sym, ◌∙◌, arith, ◌<◌}
use Rattle.ir_tree.specs.Naming.{constant_at}
use Rattle.ir_tree.specs.Modules.{types_of}
use Rattle.ir_rules.specs.Reading.{address_stands}
use Rattle.rule_tests.proofs.ReadingLemmas.{all_below, not_below}
use Rattle.rule_tests.proofs.tables.constants_stand.Goals as goal

pub returns-then-not-branch : goal.returns-then-not-branch
returns-then-not-branch c =
    let lt : c.loop-i.i < length c.args.tree.now.names.constants = rw c.names.ensures at (rw c.constant_count-i-end.ensures at c.loop-i-test.true) in
    not_below (λ k. address_stands (types_of c.args.tree.now) (constant_at c.args.tree.now.names k)) (length c.args.tree.now.names.constants) c.loop-i.i lt (rw (← c.in_ok-number.ensures) (sym c.in_ok-constant_stands.ensures ∙ c.if-not-branch.true))

pub returns : goal.returns
returns c =
    let len = rw c.names.ensures at c.constant_count-i-end.ensures in
    all_below (λ k. address_stands (types_of c.args.tree.now) (constant_at c.args.tree.now.names k)) (length c.args.tree.now.names.constants) (λ j lt. c.loop-i.invariant j (omega (arith, len)))
