use Rattle.std.proofs.Common.{◌∙◌}
use Rattle.mem_image.proofs.Kept.{lookup_is, found_parts}
use Rattle.mem_image.proofs.image.Image.find.Goals as goal

pub returns-clause-object : goal.returns-clause-object
returns-clause-object c = rw (← c.self.view_is) (c.get.ensures.value ∙ lookup_is c.args.name c.self.inside.objects.entries c.self.invariant.keys)

pub returns-clause-parts : goal.returns-clause-parts
returns-clause-parts c = found_parts _ c.args.name c.self.inside.objects.entries _ _ c.self.invariant c.get.ensures.value
