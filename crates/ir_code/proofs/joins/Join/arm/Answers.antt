use Rattle.std.proofs.Common.{◌∙◌, sym, ap}
use Rattle.std.specs.Prelude.{option_map}
use Rattle.ir_code.proofs.Arms.{arm_none, arm_some, arm_within}
use Rattle.ir_code.specs.Blocks.{arm_from}
use Rattle.ir_code.proofs.joins.Join.arm.Goals as goal

pub at-requires : goal.at-requires
at-requires c = arm_within c.self.inside.arms c.self.inside.from c.args.label c.in-Some.place c.self.invariant c.in-Some.ensures

pub returns-in-Some : goal.returns-in-Some
returns-in-Some c =
    let found = arm_some c.self.inside.arms c.self.inside.from c.args.label c.in-Some.place c.self.invariant c.in-Some.ensures in
    ap (option_map (λ a. a.value)) (sym c.at.ensures) ∙ found ∙ ap (λ j. arm_from c.args.label j.arms) c.self.view_is

pub returns-in-None : goal.returns-in-None
returns-in-None c =
    let found = arm_none c.self.inside.arms c.self.inside.from c.args.label c.self.invariant c.in-None.ensures in
    found ∙ ap (λ j. arm_from c.args.label j.arms) c.self.view_is
