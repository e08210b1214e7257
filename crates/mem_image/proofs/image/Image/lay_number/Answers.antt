use Rattle.std.proofs.Common.{ap, sym, replicate}
use Rattle.std.proofs.lemmas.List.{length-replicate}
use Rattle.std.proofs.lemmas.List.Elements.{All-replicate}
use Rattle.mem_image.specs.declared.object.Byte.TheVariants.{Num}
use Rattle.mem_image.specs.Picture.{PartFits}
use Rattle.mem_image.proofs.Objects.{with_bytes_none, spliced_replicate}
use Rattle.mem_image.proofs.Kept.{fits_in, kept_laid, values_laid, missed}
use Rattle.mem_image.proofs.image.Image.lay_number.Goals as goal
use Rattle.mem_image.proofs.image.Image.lay_number.Goals.{in-Some, in_default}

pub fill-requires : goal.fill-requires
fill-requires c = fits_in c.args.place.name c.self.inside.objects.entries c.in-Some.object.now _ c.self.invariant.keys c.in-Some.ensures.value (rw (← c.self.view_is) at c.requires)

pub invariant_of-self : goal.invariant_of-self
invariant_of-self c = elim c.match-get_mut.branch [
  | in-Some w ↦
      let fits = fits_in c.args.place.name c.self.inside.objects.entries w.in-Some.object.now _ c.self.invariant.keys w.in-Some.ensures.value (rw (← c.self.view_is) at c.requires) in
      rw (w.self-inside-is, (c.get_mut.follows.holds _).0, w.fill.ensures, ← spliced_replicate w.in-Some.object.now.bytes c.args.place.offset c.args.len (Num c.args.value))
      (kept_laid c.args.place (replicate c.args.len (Num c.args.value)) c.self.inside.objects.entries _ _ w.in-Some.object.now c.self.invariant w.in-Some.ensures.value (rw (length-replicate c.args.len (Num c.args.value)) fits) (All-replicate PartFits c.args.len (Num c.args.value) tt))
  | in_default w ↦ rw (w.self-inside-is, c.get_mut.follows.holds-at-none) c.self.invariant
]

pub returns : goal.returns
returns c = elim c.match-get_mut.branch [
  | in-Some w ↦
      rw (w.self-inside-is, (c.get_mut.follows.holds _).0, w.fill.ensures, ← c.self.view_is, ← spliced_replicate w.in-Some.object.now.bytes c.args.place.offset c.args.len (Num c.args.value))
      (ap (λ os. record { objects = os; next = c.self.inside.next }) (values_laid c.args.place (replicate c.args.len (Num c.args.value)) c.self.inside.objects.entries w.in-Some.object.now c.self.invariant.keys w.in-Some.ensures.value))
  | in_default w ↦ rw (w.self-inside-is, c.get_mut.follows.holds-at-none, ← c.self.view_is) (ap (λ os. record { objects = os; next = c.self.inside.next }) (sym (with_bytes_none c.args.place.name _ _ (missed c.args.place.name c.self.inside.objects.entries c.self.invariant.keys w.in_default.ensures.value))))
]
