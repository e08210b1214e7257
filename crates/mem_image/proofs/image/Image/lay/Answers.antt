use Rattle.std.proofs.Common.{ap, sym}
use Rattle.mem_image.proofs.Objects.{with_bytes_none}
use Rattle.mem_image.proofs.Kept.{fits_in, kept_laid, values_laid, missed}
use Rattle.mem_image.proofs.image.Image.lay.Goals as goal
use Rattle.mem_image.proofs.image.Image.lay.Goals.{in-Some, in_default}

pub write-requires : goal.write-requires
write-requires c = fits_in c.args.place.name c.self.inside.objects.entries c.in-Some.object.now _ c.self.invariant.keys c.in-Some.ensures.value (rw (← c.self.view_is) at c.requires.inside)

pub invariant_of-self : goal.invariant_of-self
invariant_of-self c = elim c.match-get_mut.branch [
  | in-Some w ↦
      let fits = fits_in c.args.place.name c.self.inside.objects.entries w.in-Some.object.now _ c.self.invariant.keys w.in-Some.ensures.value (rw (← c.self.view_is) at c.requires.inside) in
      rw (w.self-inside-is, (c.get_mut.follows.holds _).0, w.write.ensures) (kept_laid c.args.place c.args.bytes.now c.self.inside.objects.entries _ _ w.in-Some.object.now c.self.invariant w.in-Some.ensures.value fits c.requires.parts)
  | in_default w ↦ rw (w.self-inside-is, c.get_mut.follows.holds-at-none) c.self.invariant
]

pub returns : goal.returns
returns c = elim c.match-get_mut.branch [
  | in-Some w ↦ rw (w.self-inside-is, (c.get_mut.follows.holds _).0, w.write.ensures, ← c.self.view_is) (ap (λ os. record { objects = os; next = c.self.inside.next }) (values_laid c.args.place c.args.bytes.now c.self.inside.objects.entries w.in-Some.object.now c.self.invariant.keys w.in-Some.ensures.value))
  | in_default w ↦ rw (w.self-inside-is, c.get_mut.follows.holds-at-none, ← c.self.view_is) (ap (λ os. record { objects = os; next = c.self.inside.next }) (sym (with_bytes_none c.args.place.name _ _ (missed c.args.place.name c.self.inside.objects.entries c.self.invariant.keys w.in_default.ensures.value))))
]
