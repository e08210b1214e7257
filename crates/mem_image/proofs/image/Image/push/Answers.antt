use Rattle.std.proofs.Common.{ap, refl, arith, ◌∙◌, ◌+◌}
use Rattle.mem_image.specs.declared.object.Object.{Object}
use Rattle.mem_image.proofs.Kept.{inserted_last, kept_pushed, values_pushed}
use Rattle.mem_image.proofs.image.Image.push.Goals as goal

pub invariant_of-self-2 : goal.invariant_of-self-2
invariant_of-self-2 c =
    let object : Object = record { name = c.self.inside.next; site = c.args.site; kind = c.args.kind; fixed = c.args.fixed; bytes = c.args.bytes } in
    rw (c.in-Ok.ensures.entries, inserted_last c.self.inside.objects.entries 0 c.self.inside.next object c.self.invariant.keys c.self.invariant.picture.rising, c.len-size.ensures)
    (kept_pushed c.self.inside.objects.entries c.self.inside.next c.self.inside.live object c.self.invariant refl c.requires.parts (omega (arith, rw (← c.self.view_is) at c.requires.room, c.self.invariant.live)) (rw (← c.self.view_is) at c.requires.names))

pub returns-clause-ok : goal.returns-clause-ok
returns-clause-ok c =
    let object : Object = record { name = c.self.inside.next; site = c.args.site; kind = c.args.kind; fixed = c.args.fixed; bytes = c.args.bytes } in
    let e = c.in-Ok.ensures.entries ∙ inserted_last c.self.inside.objects.entries 0 c.self.inside.next object c.self.invariant.keys c.self.invariant.picture.rising in
    rw (e, ← c.self.view_is) (ap (λ os. record { objects = os; next = c.self.inside.next + 1 }) (values_pushed c.self.inside.objects.entries (c.self.inside.next, object)))
