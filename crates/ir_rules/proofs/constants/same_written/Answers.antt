use Rattle.std.proofs.Common.{◌<◌, ◌≤◌, length, arith, sym, ◌∙◌}
use Rattle.ir_tree.specs.Naming.{type_at}
use Rattle.ir_tree.specs.declared.nodes.Element.{Element}
use Rattle.ir_rules.specs.Heads.{element_types}
use Rattle.ir_rules.proofs.SameLemmas.{fields_differ, fields_end, fields_stop, fields_more}
use Rattle.ir_rules.proofs.ConstantLemmas.{written_at, written_length}
use Rattle.ir_rules.proofs.constants.same_written.Goals as goal

abbrev none : Element
none = record { of = 0; value = 0 }

pub returns-then-fields-elements : goal.returns-then-fields-elements
returns-then-fields-elements c =
    fields_differ (type_at c.args.names.now) c.args.fields.now (element_types c.args.elements.now) (λ e. c.if-fields-elements.true (e ∙ written_length c.args.elements.now))

pub returns-then-not-same_type : goal.returns-then-not-same_type
returns-then-not-same_type c =
    let inside : c.loop-i.i < length c.args.elements.now = omega arith in
    let lt : c.loop-i.i < length (element_types c.args.elements.now) = omega (arith, written_length c.args.elements.now) in
    fields_stop (type_at c.args.names.now) c.args.fields.now (element_types c.args.elements.now) c.loop-i.i c.same_type.result (omega arith) lt c.loop-i.invariant
    (rw (written_at c.args.elements.now c.loop-i.i none inside) c.same_type.ensures) c.if-not-same_type.true

pub loop-i-preserved : goal.loop-i-preserved
loop-i-preserved c =
    let inside : c.loop-i.i < length c.args.elements.now = omega arith in
    let lt : c.loop-i.i < length (element_types c.args.elements.now) = omega (arith, written_length c.args.elements.now) in
    fields_more (type_at c.args.names.now) c.args.fields.now (element_types c.args.elements.now) c.loop-i.i c.same_type.result (omega arith) lt c.loop-i.invariant
    (rw (written_at c.args.elements.now c.loop-i.i none inside) c.same_type.ensures) c.if-not-same_type.false

pub returns : goal.returns
returns c =
    let le : length (element_types c.args.elements.now) ≤ c.loop-i.i = omega (arith, written_length c.args.elements.now) in
    sym (c.loop-i.invariant ∙ fields_end (type_at c.args.names.now) c.args.fields.now (element_types c.args.elements.now) c.loop-i.i (omega arith) le)
