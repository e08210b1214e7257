use Rattle.std.proofs.Common.{sym}
use Rattle.mem_image.proofs.Kept.{first_of, first_none, first_parts}
use Rattle.mem_image.proofs.image.Image.first_from.Goals as goal

pub returns-in-Some-clause-object : goal.returns-in-Some-clause-object
returns-in-Some-clause-object c = rw (← c.self.view_is) (sym (first_of c.args.name c.self.inside.objects.entries c.range.result _ _ c.self.invariant.keys (c.range.ensures.between tt) c.in-Some.ensures.steps))

pub returns-in-Some-clause-parts : goal.returns-in-Some-clause-parts
returns-in-Some-clause-parts c =
    first_parts c.args.name _ 0 _ c.in-Some.object.now c.self.invariant.picture.rising (first_of c.args.name c.self.inside.objects.entries c.range.result _ _ c.self.invariant.keys (c.range.ensures.between tt) c.in-Some.ensures.steps)

pub returns-in-None-clause-object : goal.returns-in-None-clause-object
returns-in-None-clause-object c = rw (← c.self.view_is) (sym (first_none c.args.name c.self.inside.objects.entries c.range.result c.self.invariant.keys (c.range.ensures.between tt) c.in-None.ensures.steps.0))
