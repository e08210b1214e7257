use Rattle.std.proofs.Common.{◌∙◌, map, refl}
use Rattle.std.specs.Prelude.{option_map}
use Rattle.ir_tree.specs.Naming.{type_at, constant_at}
use Rattle.ir_text.specs.OpenConstants.{shown_element}
use Rattle.ir_text.proofs.ConstantSteps.{counted_from}
use Rattle.ir_text.proofs.ConstantTurns.{address_more, into_more}
use Rattle.ir_text.proofs.nested_constants.counted.Goals as goal

pub returns-clause-steps : goal.returns-clause-steps
returns-clause-steps c = λ later known grows.
    counted_from known (type_at later c.args.address.of) (constant_at later c.args.address.base) (map (shown_element later) c.args.address.indices) (option_map (type_at later) c.args.next) c.args.cursor.now ∙ rw (c.in_ok-of.ensures.reads later grows, c.width_of-width.ensures.width later grows) refl

pub returns-clause-within : goal.returns-clause-within
returns-clause-within c = ((address_more _ _ _ c.in_ok-of.ensures.grows c.requires.address, c.in_ok-of.ensures.within, into_more _ _ c.args.next c.in_ok-of.ensures.grows c.requires.next), c.width_of-width.ensures.range)
