use Rattle.std.proofs.Common.{◌≡◌, Some, slice_get, rules, sym, ap, ◌∙◌, true}
use Rattle.ir_checker.specs.contracts.constant_keys.ConstantKeyPartialEq.TheImpl.{eq-value}
use Rattle.ir_tree.proofs.Places.{one_place}
use Rattle.ir_rules.proofs.TypeKeyLemmas.{stays_if}
use Rattle.ir_checker.proofs.constant_keys.ConstantKeys.number.Goals as goal

pub returns-clause-only : goal.returns-clause-only
returns-clause-only c = λ j is.
    let s = c.in-Ok.ensures.stored in
    let known : slice_get c.insert_full.new.self.keys c.in-Ok.number ≡ Some c.args.key = search rules in
    let key : s.0 ≡ c.args.key = cc in
    let same : eq-value.it c.args.key c.args.key ≡ true = ap (eq-value.it c.args.key) (sym key) ∙ s.2 in
    one_place eq-value.it c.args.key same c.insert_full.new.self.keys j c.in-Ok.number c.insert_full.ensures.unique is known

pub returns-clause-kept : goal.returns-clause-kept
returns-clause-kept c = λ j x is. rw c.in-Ok.ensures.keys (stays_if c.self.inside.keys.keys c.args.key j x _ (rw c.self.view_is is))
