use Rattle.std.proofs.Common.{◌≡◌, Some, slice_get, rules, sym, ap, ◌∙◌, true}
use Rattle.pv_base.specs.contracts.name.NamePartialEq.TheImpl.{eq-value}
use Rattle.ir_tree.proofs.Places.{one_place}
use Rattle.ir_tree.proofs.Tables.{table_named, longer, names_grow, distinct_spelled}
use Rattle.ir_tree.proofs.table.Names.number.Goals as goal

pub returns-clause-only : goal.returns-clause-only
returns-clause-only c = λ j is.
    let s = c.in-Ok.ensures.stored in
    let known : slice_get c.insert_full.new.self.keys c.in-Ok.number ≡ Some c.args.name = search rules in
    let key : s.0 ≡ c.args.name = cc in
    let same : eq-value.it c.args.name c.args.name ≡ true = ap (eq-value.it c.args.name) (sym key) ∙ s.2 in
    one_place eq-value.it c.args.name same c.insert_full.new.self.keys j c.in-Ok.number c.insert_full.ensures.unique is known

pub invariant_of-self-2 : goal.invariant_of-self-2
invariant_of-self-2 c =
    table_named (record { names = c.self.inside.names.keys; types = c.self.inside.types; constants = c.self.inside.constants }) c.insert_full.new.self.keys c.self.invariant
    (distinct_spelled c.insert_full.new.self.keys c.insert_full.ensures.unique)
    (longer c.self.inside.names.keys c.insert_full.new.self.keys c.args.name _ c.in-Ok.ensures.keys)

pub returns-clause-grows : goal.returns-clause-grows
returns-clause-grows c = rw (← c.self.view_is) (names_grow c.self.inside.names.keys c.insert_full.new.self.keys c.self.inside.types c.self.inside.constants c.args.name _ c.in-Ok.ensures.keys)
