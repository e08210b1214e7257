-- A memory as two look-ups: the shape of an object, and a byte of it. Laws of memories speak of these and not of lists.
use Rattle.std.specs.Prelude.{ℕ, ◌+◌, ◌<◌, ◌≤◌, ◌≡◌, ◌==◌, ◌&&◌, nat_le, nat_lt, pos, negsuc, List, length, get_or, Option, None, Some, Bool}
use Rattle.pv_base.specs.declared.place.AllocSite.{AllocSite}
use Rattle.pv_base.specs.declared.place.Place.{Place}
use Rattle.mem_image.specs.declared.object.Pointer.{Pointer}
use Rattle.mem_image.specs.declared.object.Pointer.TheVariants.{Null, Obj, Fun}
use Rattle.mem_image.specs.declared.object.Byte.{Byte}
use Rattle.mem_image.specs.declared.object.Byte.TheVariants.{Unset}
use Rattle.mem_image.specs.declared.object.Kind.{Kind}
use Rattle.mem_image.specs.declared.object.Object.{Object}
use Rattle.mem_image.specs.Picture.{Picture, find, bytes_at}

-- all of an object but its name and its bytes
pub record Shape : Type 0 where
  pub site : AllocSite
  pub kind : Kind
  pub fixed : Bool
  pub size : ℕ

abbrev pub shaped : Option Object → Option Shape
shaped None = None
shaped (Some o) = Some (record { site = o.site; kind = o.kind; fixed = o.fixed; size = length o.bytes })

-- the shape of the live object of a name
unfoldable pub shape : List Object → ℕ → Option Shape
shape objects name = shaped (find name objects)

-- the byte at an offset of the object of a name, which is not set where there is none
unfoldable pub peek : List Object → ℕ → ℕ → Byte
peek objects name offset = get_or (bytes_at name objects) offset Unset

-- whether so many bytes from a place on take in the byte at an offset of the object of a name
abbrev pub covers : Place → ℕ → ℕ → ℕ → Bool
covers place len name offset = name == place.name && nat_le place.offset offset && nat_lt offset (place.offset + len)

-- the object that a pointer points into has the same shape in both memories
abbrev pub SameShape : Picture → Picture → Pointer → Type 0
SameShape m n Null = Unit {0}
SameShape m n (Fun index) = Unit {0}
SameShape m n (Obj name offset) = shape m.objects name ≡ shape n.objects name

-- and so many bytes from a pointer on are the same
abbrev pub SameBytes : Picture → Picture → Pointer → ℕ → Type 0
SameBytes m n Null len = Unit {0}
SameBytes m n (Fun index) len = Unit {0}
SameBytes m n (Obj name (negsuc o)) len = Unit {0}
SameBytes m n (Obj name (pos o)) len = (i : ℕ) → o ≤ i → i < o + len → peek m.objects name i ≡ peek n.objects name i
