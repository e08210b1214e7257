-- What a worker did to its private bytes, as a list of calls; and what that says of each byte.
use Rattle.std.specs.Prelude.{◌≡◌, ◌≤◌, ◌<◌, ℕ, zero, suc, ◌+◌, ◌==◌, nat_le, nat_lt, Bool, true, false, ◌&&◌, ◌||◌, not, List, [], ◌∷◌, ◌++◌, length, slice_index, Option, Some, None, Result, Ok, Err, if◌then◌else◌}
use Rattle.std.specs.Map.{lookup}
use Rattle.std.specs.List.{list_any}
use Rattle.std.specs.Result.{result_unwrap_or}
use Rattle.pv_base.specs.declared.place.Place.{Place}
use Rattle.shadow_codes.specs.Codes.{greatest_of}
use Rattle.privacy_check.specs.declared.access.Access.{Access}
use Rattle.privacy_check.specs.declared.access.Access.TheVariants.{Read, Write}
use Rattle.privacy_check.specs.declared.access.BadCode.{BadCode}
use Rattle.privacy_check.specs.Shadows.{Shadows, MayAccess, shadows_after, next_period, untouched, told}

-- a call on a shadow
pub data Call : Type 0 where
  -- an access to so many bytes by the turn with that stamp
  Touch : (access : Access) (at : Place) (len stamp : ℕ) → Call
  EndPeriod : Call

-- for one byte, the stamps of the turns that wrote it in this period and that wrote it in earlier ones, and of those
-- that read it in this period
pub record Turns : Type 0 where
  pub wrote : List ℕ
  pub wrote_before : List ℕ
  pub read : List ℕ

abbrev pub no_turns : Turns
no_turns = record { wrote = []; wrote_before = []; read = [] }

-- the byte at that offset of that object is in a range
abbrev pub covers : Place → ℕ → ℕ → ℕ → Bool
covers at len name offset = (name == at.name) && (nat_le at.offset offset && nat_lt offset (at.offset + len))

abbrev pub touched_by : Access → ℕ → Turns → Turns
touched_by Read stamp t = record t { read = stamp ∷ t.read }
touched_by Write stamp t = record t { wrote = stamp ∷ t.wrote }

-- one call more
abbrev pub turns_with : ℕ → ℕ → Turns → Call → Turns
turns_with name offset t (Touch access at len stamp) = if covers at len name offset then touched_by access stamp t else t
turns_with name offset t EndPeriod = record { wrote = []; wrote_before = t.wrote ++ t.wrote_before; read = [] }

-- the turns of a byte after calls, from those before them
abbrev pub turns_after : ℕ → ℕ → Turns → List Call → Turns
turns_after name offset t [] = t
turns_after name offset t (call ∷ calls) = turns_after name offset (turns_with name offset t call) calls

-- the code of a byte: the stamp of the greatest turn that wrote it in this period; else 1 where an earlier period's
-- turn wrote it; else 2 where it was read in this period; else 0
abbrev pub code_by : List ℕ → List ℕ → List ℕ → ℕ
code_by (s ∷ ss) before read = greatest_of (s ∷ ss)
code_by [] (s ∷ ss) read = 1
code_by [] [] (s ∷ ss) = 2
code_by [] [] [] = 0

abbrev pub code_of : Turns → ℕ
code_of t = code_by t.wrote t.wrote_before t.read

abbrev pub is_some_turn : List ℕ → Bool
is_some_turn [] = false
is_some_turn (s ∷ ss) = true

-- a read may pass where this turn wrote the byte, or no turn of this worker did; a write where some turn of this worker
-- wrote it, or none read it in this period
abbrev pub may : Access → ℕ → Turns → Bool
may Read stamp t = list_any (λ s. s == stamp) t.wrote || not (is_some_turn t.wrote || is_some_turn t.wrote_before)
may Write stamp t = is_some_turn t.wrote || (is_some_turn t.wrote_before || not (is_some_turn t.read))

-- the first byte of a range that an access may not pass, with its code; `turns` tells the turns of each offset
abbrev pub refused : Access → ℕ → (ℕ → Turns) → ℕ → ℕ → Option BadCode
refused access stamp turns offset zero = None
refused access stamp turns offset (suc len) =
    if may access stamp (turns offset) then refused access stamp turns (suc offset) len
    else Some (record { offset = offset; code = code_of (turns offset) })

abbrev pub answer_by : Option BadCode → Result (Unit {0}) BadCode
answer_by None = Ok tt
answer_by (Some bad) = Err bad

-- a range of an object that was made
pub record InObject (sizes : List (ℕ × ℕ)) (at : Place) (len : ℕ) : Type 0 where
  pub size : ℕ
  pub known : lookup (λ n. n == at.name) sizes ≡ Some size
  pub within : at.offset + len ≤ size

-- what the caller keeps to: ranges in objects, and stamps that begin at 3 in each period and do not fall in it; `last`
-- is the greatest stamp so far
abbrev pub Lawful : List (ℕ × ℕ) → ℕ → List Call → Type 0
Lawful sizes last [] = Unit {0}
Lawful sizes last (Touch access at len stamp ∷ calls) = (last ≤ stamp) × InObject sizes at len × Lawful sizes stamp calls
Lawful sizes last (EndPeriod ∷ calls) = Lawful sizes 3 calls

-- the codes after a call, and what the caller is told
abbrev pub codes_after : Shadows → Call → Shadows
codes_after shadows (Touch access at len stamp) = result_unwrap_or (shadows_after access stamp at len shadows) shadows
codes_after shadows EndPeriod = next_period shadows

abbrev pub told_of : Shadows → Call → Result (Unit {0}) BadCode
told_of shadows (Touch access at len stamp) = told (shadows_after access stamp at len shadows)
told_of shadows EndPeriod = Ok tt

abbrev pub after_calls : Shadows → List Call → Shadows
after_calls shadows [] = shadows
after_calls shadows (call ∷ calls) = after_calls (codes_after shadows call) calls

-- each call in turn is answered Ok
abbrev pub AllOk : Shadows → List Call → Type 0
AllOk shadows [] = Unit {0}
AllOk shadows (call ∷ calls) = (told_of shadows call ≡ Ok tt) × AllOk (codes_after shadows call) calls

-- the object has this size, and the code of each of its bytes is that of the byte's turns
pub record StandsFor (shadows : Shadows) (name size : ℕ) (turns : ℕ → Turns) : Type 0 where
  pub codes : List ℕ
  pub known : shadows name ≡ Some codes
  pub sized : length codes ≡ size
  pub each : (offset : ℕ) → offset < size → slice_index codes offset ≡ code_of (turns offset)

-- after any lawful calls on a new shadow that were answered Ok, each code says what the calls did to its byte
abbrev pub CodesLaw : Type 0
CodesLaw = (sizes : List (ℕ × ℕ)) (calls : List Call) → Lawful sizes 3 calls → AllOk (untouched sizes) calls
    → (name size : ℕ) → lookup (λ n. n == name) sizes ≡ Some size
    → StandsFor (after_calls (untouched sizes) calls) name size (λ offset. turns_after name offset no_turns calls)

-- and the next access is refused exactly at the first byte where the turns say so
abbrev pub RefusalLaw : Type 0
RefusalLaw = (sizes : List (ℕ × ℕ)) (calls : List Call) (access : Access) (at : Place) (len stamp : ℕ)
    → Lawful sizes 3 (calls ++ Touch access at len stamp ∷ []) → AllOk (untouched sizes) calls
    → told (shadows_after access stamp at len (after_calls (untouched sizes) calls))
    ≡ answer_by (refused access stamp (λ offset. turns_after at.name offset no_turns calls) at.offset len)

-- such an access may be asked for: its range is there, and no code is above its stamp
abbrev pub AccessLaw : Type 0
AccessLaw = (sizes : List (ℕ × ℕ)) (calls : List Call) (access : Access) (at : Place) (len stamp : ℕ)
    → Lawful sizes 3 (calls ++ Touch access at len stamp ∷ []) → AllOk (untouched sizes) calls
    → MayAccess (after_calls (untouched sizes) calls) at len stamp
