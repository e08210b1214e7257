use Rattle.ir_tree.proofs.Showing.{grows_then, type_within_more}
use Rattle.ir_text.proofs.ConstantTurns.{address_more, indexed}
use Rattle.ir_text.proofs.ConstantSteps.{field_from}
use Rattle.ir_text.proofs.nested_constants.named_field.Goals as goal

pub field-requires : goal.field-requires
field-requires c = type_within_more _ _ _ c.in_ok-word.ensures.grows c.requires.of

pub returns-clause-steps : goal.returns-clause-steps
returns-clause-steps c = λ later known grows.
    field_from known later c.args.address.of c.args.address.base c.args.of c.in_ok-word.word c.in_ok-value.value c.args.address.indices c.push.new.self c.in_ok-value.next c.args.cursor.now c.word_of_32.new.cursor c.field.new.cursor
    (c.in_ok-word.ensures.reads later (grows_then _ _ _ c.in_ok-value.ensures.grows grows)) (c.in_ok-value.ensures.reads later grows) (c.in_ok-value.ensures.leads later grows) c.in_ok-push.ensures.ok

pub returns-clause-within : goal.returns-clause-within
returns-clause-within c =
    let grew = c.in_ok-value.ensures.grows in
    let all = grows_then _ _ _ c.in_ok-word.ensures.grows grew in
    (indexed c.field.new.names c.args.address c.push.new.self c.in_ok-word.word c.in_ok-value.value c.in_ok-push.ensures.ok (address_more _ _ c.args.address all c.requires.address) (type_within_more _ _ _ grew c.in_ok-word.ensures.within) c.in_ok-value.ensures.within.0, c.in_ok-value.ensures.within.1)
