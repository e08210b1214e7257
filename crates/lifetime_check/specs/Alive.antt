-- Objects of some sites that are alive.
use Rattle.std.specs.Prelude.{ℕ, ◌+◌, ◌==◌, ◌&&◌, nat_le, Bool, false, List, [], ◌∷◌, length, Option, None, Some}
use Rattle.std.specs.List.{filter, list_any}
use Rattle.pv_base.specs.declared.place.AllocSite.{AllocSite}
use Rattle.pv_base.specs.declared.place.AllocSite.TheVariants.{Global, At}
use Rattle.mem_image.specs.declared.object.Object.{Object}
use Rattle.lifetime_check.specs.declared.alive.Left.{Left}

abbrev pub same_site : AllocSite → AllocSite → Bool
same_site (Global m) (Global n) = m == n
same_site (At s) (At t) = s.function == t.function && s.place == t.place
same_site (Global m) (At t) = false
same_site (At s) (Global n) = false

-- the live objects from a name on whose site is among these, by rising name
abbrev pub short_from : ℕ → List AllocSite → List Object → List Object
short_from from short objects = filter (λ o. nat_le from o.name && list_any (same_site o.site) short) objects

-- the site of the first of some objects, and how many there are
abbrev pub left_of : List Object → Option Left
left_of [] = None
left_of (o ∷ os) = Some (record { site = o.site; count = length (o ∷ os) })

-- the same with an object more behind the others
abbrev pub one_more : Option Left → AllocSite → Left
one_more None site = record { site = site; count = 1 }
one_more (Some l) site = record l { count = l.count + 1 }
