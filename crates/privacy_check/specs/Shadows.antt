-- What a shadow answers, on the codes of its objects.
use Rattle.std.specs.Prelude.{◌≡◌, ◌≤◌, ℕ, ◌+◌, ◌==◌, List, ◌++◌, length, map, take, drop, replicate, position, slice_index, All, Option, Some, None, option_map, is_none, unwrap_or, Result, Ok, Err, if◌then◌else◌}
use Rattle.std.specs.Map.{lookup}
use Rattle.pv_base.specs.declared.place.Place.{Place}
use Rattle.shadow_codes.specs.Codes.{read_code, write_code, reset_code}
use Rattle.privacy_check.specs.declared.access.Access.{Access}
use Rattle.privacy_check.specs.declared.access.Access.TheVariants.{Read, Write}
use Rattle.privacy_check.specs.declared.access.BadCode.{BadCode}

-- the codes of each object by its name, a code for each byte; None for a name that is no private object's
abbrev pub Shadows : Type 0
Shadows = ℕ → Option (List ℕ)

-- the object of that name has these codes, and all others have theirs
abbrev pub with_codes : Shadows → ℕ → List ℕ → Shadows
with_codes shadows name codes = λ n. if n == name then Some codes else shadows n

-- the code after an access by the turn with that stamp; None where it may not pass
abbrev pub after : Access → ℕ → ℕ → Option ℕ
after Read stamp code = read_code stamp code
after Write stamp code = write_code stamp code

-- the first code that an access may not pass
abbrev pub first_bad : Access → ℕ → List ℕ → Option ℕ
first_bad access stamp codes = position (λ c. is_none (after access stamp c)) codes

abbrev pub next_code : Access → ℕ → ℕ → ℕ
next_code access stamp code = unwrap_or (after access stamp code) code

-- the codes after an access that passes
abbrev pub passed : Access → ℕ → List ℕ → List ℕ
passed access stamp codes = map (next_code access stamp) codes

-- the codes in a range
abbrev pub in_range : ℕ → ℕ → List ℕ → List ℕ
in_range offset len codes = take len (drop offset codes)

abbrev pub pass_or_refuse : Option ℕ → ℕ → List ℕ → List ℕ → Result (List ℕ) BadCode
pass_or_refuse None offset range new = Ok new
pass_or_refuse (Some k) offset range new = Err (record { offset = offset + k; code = slice_index range k })

-- an access to a range of an object: its codes after it, or the first byte that it may not pass
abbrev pub object_after : Access → ℕ → ℕ → ℕ → List ℕ → Result (List ℕ) BadCode
object_after access stamp offset len codes =
    pass_or_refuse (first_bad access stamp (in_range offset len codes)) offset (in_range offset len codes)
    (take offset codes ++ (passed access stamp (in_range offset len codes) ++ drop len (drop offset codes)))

abbrev pub kept_in : Shadows → ℕ → Result (List ℕ) BadCode → Result Shadows BadCode
kept_in shadows name (Ok codes) = Ok (with_codes shadows name codes)
kept_in shadows name (Err bad) = Err bad

abbrev pub known_after : Option (List ℕ) → Access → ℕ → Place → ℕ → Shadows → Result Shadows BadCode
known_after None access stamp at len shadows = Ok shadows
known_after (Some codes) access stamp at len shadows =
    kept_in shadows at.name (object_after access stamp at.offset len codes)

-- an access to a range of the object of that name
abbrev pub shadows_after : Access → ℕ → Place → ℕ → Shadows → Result Shadows BadCode
shadows_after access stamp at len shadows = known_after (shadows at.name) access stamp at len shadows

-- what the caller is told of it
abbrev pub told : {A : Type 0} → Result A BadCode → Result (Unit {0}) BadCode
told (Ok a) = Ok tt
told (Err bad) = Err bad

-- all codes at the end of a period
abbrev pub next_period : Shadows → Shadows
next_period shadows = λ name. option_map (map reset_code) (shadows name)

-- objects of these names and sizes, with all codes 0
abbrev pub untouched : List (ℕ × ℕ) → Shadows
untouched sizes = λ name. option_map (λ size. replicate size 0) (lookup (λ n. n == name) sizes)

-- the range lies in an object, and no code there is above the stamp
pub record MayAccess (shadows : Shadows) (at : Place) (len stamp : ℕ) : Type 0 where
  pub codes : List ℕ
  pub known : shadows at.name ≡ Some codes
  pub within : at.offset + len ≤ length codes
  pub stamps : All (λ c. c ≤ stamp) (in_range at.offset len codes)
