-- The globals of a program, in the memory in which it starts and in a later one.
use Rattle.std.specs.Prelude.{ℕ, ◌≡◌, length, Some}
use Rattle.pv_base.specs.declared.place.AllocSite.TheVariants as site
use Rattle.mem_image.specs.declared.object.Object.{Object}
use Rattle.mem_image.specs.declared.object.Kind.TheVariants as kind
use Rattle.mem_image.specs.Picture.{Picture, find}

-- the second object is of the site, the kind, the mark and the size of the first
pub record SameShape (o p : Object) : Type 0 where
  pub site : p.site ≡ o.site
  pub kind : p.kind ≡ o.kind
  pub fixed : p.fixed ≡ o.fixed
  pub size : length p.bytes ≡ length o.bytes

-- Every global of the first memory stands in the later one, under its name and in its shape; and whatever stands there with the
-- site of a global is one of these.
pub record KeepsGlobals (first later : Picture) : Type 0 where
  pub kept : (name : ℕ) (o : Object) → find name first.objects ≡ Some o → o.kind ≡ kind.Global → (p : Object) × (find name later.objects ≡ Some p) × SameShape o p
  pub only : (name i : ℕ) (p : Object) → find name later.objects ≡ Some p → p.site ≡ site.Global i
      → (o : Object) × (find name first.objects ≡ Some o) × (o.kind ≡ kind.Global) × SameShape o p
