-- What a map of objects by name says of the list of its values.
use Rattle.std.proofs.Common.{◌≡◌, ℕ, suc, Bool, nat_le, ◌+◌, ◌<◌, ◌≤◌, ◌==◌, ◌-◌, ◌∙◌, IfSome, Bor, true, false, List, [], ◌∷◌, ◌++◌, length, Option, Some, None, arith, refl, sym, ap, subst, cond, if◌then◌else◌}
use Rattle.std.proofs.lemmas.Bool.Decides.{nat_tests}
use Rattle.std.specs.List.{All, filter}
use Rattle.std.specs.Option.{option_copied}
use Rattle.std.specs.Map.{lookup, set_value, remove_entry, values_of}
use Rattle.std.specs.Ordering.{nat_cmp}
use Rattle.std.specs.declared.cmp.Ordering.TheVariants.{Greater}
use Rattle.std.specs.BTreeMap.{is_at, insert_entry}
use Rattle.std.specs.BTreeMap.Range.{range_contains}
use Rattle.std.specs.declared.ops.Bound.TheVariants.{Included, Unbounded}
use Rattle.std.specs.Cmp.{unsigned_tied, nat_cmp_is}
use Rattle.pv_base.specs.declared.place.Place.{Place}
use Rattle.mem_image.specs.declared.object.Byte.{Byte}
use Rattle.mem_image.specs.declared.object.Object.{Object}
use Rattle.pv_base.specs.Limits.{live_limit}
use Rattle.mem_image.specs.Picture.{PartFits, Rising, live, find, first_from, count_from, with_bytes, without, bytes_of, bytes_at, spliced, name_limit}
use Rattle.mem_image.specs.Entries.{Keyed, IsKept}
use Rattle.mem_image.proofs.Objects.{rising_higher, rising_without, rising_with_bytes, rising_pushed, live_pushed, live_without, live_with_bytes, parts_of, length_spliced, parts_spliced}

tested : (name : ℕ) (e : ℕ × Object) → e.0 ≡ e.1.name → is_at (nat_cmp name) e.0 ≡ (name == e.1.name)
tested name e h = rw (← h) (unsigned_tied name e.0)

pub lookup_is : (name : ℕ) (es : List (ℕ × Object)) → Keyed es → lookup (is_at (nat_cmp name)) es ≡ find name (values_of es)
lookup_is name [] h = refl
lookup_is name (e ∷ es) h = rw (tested name e h.0, lookup_is name es h.1) refl

-- whether a map counts an entry to a range that begins at a name
abbrev pub from_name : ℕ → ℕ × Object → Bool
from_name name e = range_contains nat_cmp (Included name) Unbounded e.0

from_at : (name n : ℕ) → range_contains nat_cmp (Included name) Unbounded n ≡ nat_le name n
from_at name n = grind (arith, nat_tests)

from_is : (name : ℕ) (e : ℕ × Object) → e.0 ≡ e.1.name → from_name name e ≡ nat_le name e.1.name
from_is name e h = from_at name e.0 ∙ ap (nat_le name) h

abbrev pub first_value : List (ℕ × Object) → Option Object
first_value [] = None
first_value (e ∷ es) = Some e.1

pub first_in : (name : ℕ) (es : List (ℕ × Object)) → Keyed es → first_from name (values_of es) ≡ first_value (filter (from_name name) es)
first_in name [] h = refl
first_in name (e ∷ es) h = rw (from_is name e h.0, first_in name es h.1) elim (nat_le name e.1.name) as (λ b. (if b then Some e.1 else first_value (filter (from_name name) es)) ≡ first_value (cond b (e ∷ filter (from_name name) es) (filter (from_name name) es))) [
  | true ↦ refl
  | false ↦ refl
]

-- the object that a walk of such a range gives first
pub first_of : (name : ℕ) (es all rest : List (ℕ × Object)) (e : ℕ × Object) → Keyed es → all ≡ filter (from_name name) es → all ≡ e ∷ rest → first_from name (values_of es) ≡ Some e.1
first_of name es all rest e k f h = first_in name es k ∙ ap first_value (sym f ∙ h)

pub first_none : (name : ℕ) (es all : List (ℕ × Object)) → Keyed es → all ≡ filter (from_name name) es → all ≡ [] → first_from name (values_of es) ≡ None
first_none name es all k f h = first_in name es k ∙ ap first_value (sym f ∙ h)

pub first_parts : (name : ℕ) (os : List Object) (low n : ℕ) (o : Object) → Rising low os n → first_from name os ≡ Some o → All PartFits o.bytes
first_parts name [] low n o h e = absurd (cc)
first_parts name (x ∷ os) low n o h e = (elim (nat_le name x.name) as (λ b. (if b then Some x else first_from name os) ≡ Some o → All PartFits o.bytes) [
  | true ↦ λ q. subst (λ f. All PartFits (bytes_of f)) q h.2
  | false ↦ λ q. first_parts name os (x.name + 1) n o h.3 q
]) e

pub count_in : (name : ℕ) (es : List (ℕ × Object)) → Keyed es → count_from name (values_of es) ≡ length (filter (from_name name) es)
count_in name [] h = refl
count_in name (e ∷ es) h = rw (from_is name e h.0, count_in name es h.1) elim (nat_le name e.1.name) as (λ b. (if b then suc (length (filter (from_name name) es)) else length (filter (from_name name) es)) ≡ length (cond b (e ∷ filter (from_name name) es) (filter (from_name name) es))) [
  | true ↦ refl
  | false ↦ refl
]

pub values_removed : (name : ℕ) (es : List (ℕ × Object)) → Keyed es → values_of (remove_entry (is_at (nat_cmp name)) es) ≡ without name (values_of es)
values_removed name [] h = refl
values_removed name (e ∷ es) h = rw (tested name e h.0) elim (name == e.1.name) as (λ b. values_of (cond b es (e ∷ remove_entry (is_at (nat_cmp name)) es)) ≡ (if b then values_of es else e.1 ∷ without name (values_of es))) [
  | true ↦ refl
  | false ↦ ap (λ os. e.1 ∷ os) (values_removed name es h.1)
]

pub keyed_removed : (name : ℕ) (es : List (ℕ × Object)) → Keyed es → Keyed (remove_entry (is_at (nat_cmp name)) es)
keyed_removed name [] h = tt
keyed_removed name (e ∷ es) h = elim (is_at (nat_cmp name) e.0) as (λ b. Keyed (cond b es (e ∷ remove_entry (is_at (nat_cmp name)) es))) [
  | true ↦ h.1
  | false ↦ (h.0, keyed_removed name es h.1)
]

pub keyed_pushed : (es : List (ℕ × Object)) (e : ℕ × Object) → Keyed es → e.0 ≡ e.1.name → Keyed (es ++ e ∷ [])
keyed_pushed [] e h k = (k, tt)
keyed_pushed (x ∷ es) e h k = (h.0, keyed_pushed es e h.1 k)

pub values_pushed : (es : List (ℕ × Object)) (e : ℕ × Object) → values_of (es ++ e ∷ []) ≡ values_of es ++ e.1 ∷ []
values_pushed [] e = refl
values_pushed (x ∷ es) e = ap (λ os. x.1 ∷ os) (values_pushed es e)

-- an object of the next name goes to the end
pub inserted_last : (es : List (ℕ × Object)) (low n : ℕ) (o : Object) → Keyed es → Rising low (values_of es) n → insert_entry nat_cmp es n o ≡ es ++ (n, o) ∷ []
inserted_last [] low n o h r = refl
inserted_last (e ∷ es) low n o h r =
    let below : e.0 < n = omega (arith, h.0, r.1) in
    rw (sym (nat_cmp_is n e.0 Greater below), inserted_last es (e.1.name + 1) n o h.1 r.3) refl

pub found_parts : (r : Option (Bor Object)) (name : ℕ) (es : List (ℕ × Object)) (n sum : ℕ) → IsKept es n sum → option_copied r ≡ lookup (is_at (nat_cmp name)) es → IfSome r (λ o. All PartFits o.now.bytes)
found_parts None name es n sum k e = tt
found_parts (Some b) name es n sum k e = parts_of name (values_of es) n b.now k.picture.rising (sym (lookup_is name es k.keys) ∙ sym e)

-- the entries with an object of the same name in place of that of a name
pub keyed_set : (name : ℕ) (es : List (ℕ × Object)) (o p : Object) → Keyed es → lookup (is_at (nat_cmp name)) es ≡ Some o → p.name ≡ o.name → Keyed (set_value (is_at (nat_cmp name)) es p)
keyed_set name [] o p h e q = tt
keyed_set name (x ∷ es) o p h e q = (elim (is_at (nat_cmp name) x.0) as (λ b. cond b (Some x.1) (lookup (is_at (nat_cmp name)) es) ≡ Some o → Keyed (cond b ((x.0, p) ∷ es) (x ∷ set_value (is_at (nat_cmp name)) es p))) [
  | true ↦ λ f. (cc, h.1)
  | false ↦ λ f. (h.0, keyed_set name es o p h.1 f q)
]) e

pub values_set : (name : ℕ) (bytes : List Byte) (es : List (ℕ × Object)) (o : Object) → Keyed es → lookup (is_at (nat_cmp name)) es ≡ Some o → values_of (set_value (is_at (nat_cmp name)) es (record o { bytes = bytes })) ≡ with_bytes name bytes (values_of es)
values_set name bytes [] o h e = refl
values_set name bytes (x ∷ es) o h e = rw (← tested name x h.0) ((elim (is_at (nat_cmp name) x.0) as (λ b. cond b (Some x.1) (lookup (is_at (nat_cmp name)) es) ≡ Some o → values_of (cond b ((x.0, record o { bytes = bytes }) ∷ es) (x ∷ set_value (is_at (nat_cmp name)) es (record o { bytes = bytes }))) ≡ (if b then record x.1 { bytes = bytes } ∷ values_of es else x.1 ∷ with_bytes name bytes (values_of es))) [
  | true ↦ λ f. ap (λ y. elim y [ Some z ↦ record z { bytes = bytes } ∷ values_of es | None ↦ [] ]) (sym f)
  | false ↦ λ f. ap (λ os. x.1 ∷ os) (values_set name bytes es o h.1 f)
]) e)

-- the map after other bytes of the same number were put into an object
pub kept_set : (name : ℕ) (bytes : List Byte) (es : List (ℕ × Object)) (n sum : ℕ) (o : Object) → IsKept es n sum → lookup (is_at (nat_cmp name)) es ≡ Some o → length bytes ≡ length o.bytes → All PartFits bytes → IsKept (set_value (is_at (nat_cmp name)) es (record o { bytes = bytes })) n sum
kept_set name bytes es n sum o k e len parts =
    let found : find name (values_of es) ≡ Some o = sym (lookup_is name es k.keys) ∙ e in
    let same : live (with_bytes name bytes (values_of es)) ≡ live (values_of es) = live_with_bytes name bytes (values_of es) (rw found len) in
    record {
      keys = keyed_set name es o (record o { bytes = bytes }) k.keys e refl;
      picture = rw (values_set name bytes es o k.keys e) (record { rising = rising_with_bytes name bytes (values_of es) 0 n parts k.picture.rising; live = rw same k.picture.live; names = k.picture.names });
      live = rw (values_set name bytes es o k.keys e, same) k.live;
    }

-- the map after an object was taken out
pub kept_removed : (name : ℕ) (es : List (ℕ × Object)) (n sum : ℕ) → IsKept es n sum → IsKept (remove_entry (is_at (nat_cmp name)) es) n (sum - length (bytes_at name (values_of es)))
kept_removed name es n sum k =
    let less : live (without name (values_of es)) + length (bytes_at name (values_of es)) ≡ live (values_of es) = live_without name (values_of es) in
    record {
      keys = keyed_removed name es k.keys;
      picture = rw (values_removed name es k.keys) (record { rising = rising_without name (values_of es) 0 n k.picture.rising; live = omega (arith, less, k.picture.live); names = k.picture.names });
      live = rw (values_removed name es k.keys) (omega (arith, less, k.live));
    }

-- the map after an object of the next name was put into it
pub kept_pushed : (es : List (ℕ × Object)) (n sum : ℕ) (o : Object) → IsKept es n sum → o.name ≡ n → All PartFits o.bytes → sum + length o.bytes ≤ live_limit → n < name_limit → IsKept (es ++ (n, o) ∷ []) (n + 1) (sum + length o.bytes)
kept_pushed es n sum o k e parts room names =
    let grown : live (values_of es ++ o ∷ []) ≡ live (values_of es) + length o.bytes = live_pushed (values_of es) o in
    record {
      keys = keyed_pushed es (n, o) k.keys (sym e);
      picture = rw (values_pushed es (n, o)) (record { rising = rising_pushed (values_of es) 0 n o k.picture.rising (omega arith) e parts; live = omega (arith, grown, k.live, room); names = omega (arith, names) });
      live = rw (values_pushed es (n, o)) (omega (arith, grown, k.live));
    }

-- an object that the map has, in the picture
pub found : (name : ℕ) (es : List (ℕ × Object)) (o : Object) → Keyed es → Some o ≡ lookup (is_at (nat_cmp name)) es → find name (values_of es) ≡ Some o
found name es o h e = sym (lookup_is name es h) ∙ sym e

pub missed : (name : ℕ) (es : List (ℕ × Object)) → Keyed es → None ≡ lookup (is_at (nat_cmp name)) es → find name (values_of es) ≡ None
missed name es h e = sym (lookup_is name es h) ∙ sym e

pub fits_in : (name : ℕ) (es : List (ℕ × Object)) (o : Object) (n : ℕ) → Keyed es → Some o ≡ lookup (is_at (nat_cmp name)) es → n ≤ length (bytes_at name (values_of es)) → n ≤ length o.bytes
fits_in name es o n h e le = subst (λ f. n ≤ length (bytes_of f)) (found name es o h e) le

-- the map after bytes were put over those of an object
pub kept_laid : (place : Place) (others : List Byte) (es : List (ℕ × Object)) (n sum : ℕ) (o : Object) → IsKept es n sum → Some o ≡ lookup (is_at (nat_cmp place.name)) es → place.offset + length others ≤ length o.bytes → All PartFits others → IsKept (set_value (is_at (nat_cmp place.name)) es (record o { bytes = spliced o.bytes place.offset others })) n sum
kept_laid place others es n sum o k e le parts =
    kept_set place.name (spliced o.bytes place.offset others) es n sum o k (sym e) (length_spliced o.bytes others place.offset le) (parts_spliced o.bytes others place.offset (parts_of place.name (values_of es) n o k.picture.rising (found place.name es o k.keys e)) parts)

pub values_laid : (place : Place) (others : List Byte) (es : List (ℕ × Object)) (o : Object) → Keyed es → Some o ≡ lookup (is_at (nat_cmp place.name)) es → values_of (set_value (is_at (nat_cmp place.name)) es (record o { bytes = spliced o.bytes place.offset others })) ≡ with_bytes place.name (spliced (bytes_at place.name (values_of es)) place.offset others) (values_of es)
values_laid place others es o h e = rw (found place.name es o h e) (values_set place.name (spliced o.bytes place.offset others) es o h (sym e))

pub length_taken : (name : ℕ) (es : List (ℕ × Object)) (o : Object) (n sum : ℕ) → IsKept es n sum → Some o ≡ lookup (is_at (nat_cmp name)) es → length o.bytes ≤ sum
length_taken name es o n sum k e =
    let less : live (without name (values_of es)) + length (bytes_at name (values_of es)) ≡ live (values_of es) = live_without name (values_of es) in
    let same : length (bytes_at name (values_of es)) ≡ length o.bytes = ap (λ f. length (bytes_of f)) (found name es o k.keys e) in
    omega (arith, less, same, k.live)

pub kept_taken : (name : ℕ) (es : List (ℕ × Object)) (o : Object) (n sum : ℕ) → IsKept es n sum → Some o ≡ lookup (is_at (nat_cmp name)) es → IsKept (remove_entry (is_at (nat_cmp name)) es) n (sum - length o.bytes)
kept_taken name es o n sum k e = subst (λ f. IsKept (remove_entry (is_at (nat_cmp name)) es) n (sum - length (bytes_of f))) (found name es o k.keys e) (kept_removed name es n sum k)

-- the map where the next name is a later one
pub kept_passed : (es : List (ℕ × Object)) (n sum m : ℕ) → IsKept es n sum → n ≤ m → m ≤ name_limit → IsKept es m sum
kept_passed es n sum m k le names = record { keys = k.keys; picture = record { rising = rising_higher (values_of es) 0 n m k.picture.rising le; live = k.picture.live; names = names }; live = k.live }
