use Rattle.std.proofs.Common.{◌∙◌, map, refl}
use Rattle.ir_text.specs.Named.{known_of}
use Rattle.ir_text.specs.OpenConstants.{shown_element}
use Rattle.ir_text.proofs.ConstantSteps.{from_type}
use Rattle.ir_text.proofs.ConstantTurns.{elements_more, grows_self, type_keeps}
use Rattle.ir_text.proofs.nested_constants.element.Goals as goal

pub returns-clause-steps : goal.returns-clause-steps
returns-clause-steps c = λ later grows.
    from_type (known_of later c.args.known.now) c.args.bracket (map (shown_element later) c.args.elements) c.args.cursor.now ∙ rw (c.in_ok-of.ensures.reads later grows, c.width_of-width.ensures.width later grows) refl

pub returns-clause-within : goal.returns-clause-within
returns-clause-within c = ((elements_more _ _ _ c.in_ok-of.ensures.grows c.requires, c.in_ok-of.ensures.within), c.width_of-width.ensures.range)

pub returns-clause-no_longer : goal.returns-clause-no_longer
returns-clause-no_longer c = type_keeps _ _ _ _ (c.in_ok-of.ensures.reads c.read_type.new.names (grows_self c.read_type.new.names))
