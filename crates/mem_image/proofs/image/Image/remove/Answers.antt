use Rattle.std.proofs.Common.{ap}
use Rattle.mem_image.proofs.Kept.{length_taken, kept_taken, values_removed}
use Rattle.mem_image.proofs.image.Image.remove.Goals as goal

pub overflow_sub-self : goal.overflow_sub-self
overflow_sub-self c = rw c.len.ensures (length_taken c.args.name c.self.inside.objects.entries c.in-Some.object c.self.inside.next c.self.inside.live c.self.invariant c.in-Some.ensures.value)

pub invariant_of-self : goal.invariant_of-self
invariant_of-self c = rw (c.in-Some.ensures.entries, c.len.ensures) (kept_taken c.args.name c.self.inside.objects.entries c.in-Some.object c.self.inside.next c.self.inside.live c.self.invariant c.in-Some.ensures.value)

pub returns-in-Some : goal.returns-in-Some
returns-in-Some c = rw (c.in-Some.ensures.entries, ← c.self.view_is) (ap (λ os. record { objects = os; next = c.self.inside.next }) (values_removed c.args.name c.self.inside.objects.entries c.self.invariant.keys))

pub returns-in_default : goal.returns-in_default
returns-in_default c = rw (c.remove.ensures.entries, ← c.self.view_is) (ap (λ os. record { objects = os; next = c.self.inside.next }) (values_removed c.args.name c.self.inside.objects.entries c.self.invariant.keys))
