use Rattle.std.proofs.Common.{sym, ap, ◌∙◌}
use Rattle.ir_code.specs.Cases.{edge_of}
use Rattle.ir_code.proofs.Tables.{none_where, case_added}
use Rattle.ir_code.proofs.cases.Cases.add.Goals as goal

pub invariant_of-self-in-Ok : goal.invariant_of-self-in-Ok
invariant_of-self-in-Ok c =
    let absent = none_where c.edge.result (sym c.is_some.ensures ∙ c.if-is_some.false) in
    let none = ap (λ p. edge_of p c.args.value) c.self.view_is ∙ sym c.edge.ensures ∙ absent in
    case_added c.self.inside.pairs c.push.new.self c.self.inside.edges c.insert.new.self c.args.value c.args.edge c.self.invariant none c.in-Ok.ensures.updates.0 c.in_ok-push.ensures.ok
