-- What a code means: which turns of the worker read and wrote its byte, by the calls that were not refused.
use Rattle.std.specs.Prelude.{◌≡◌, ◌<◌, ℕ, ◌==◌, nat_le, Bool, true, false, ◌&&◌, ◌||◌, not, List, [], ◌∷◌, length, slice_index, Option, Some, None, Result, Ok, Err, if◌then◌else◌}
use Rattle.std.specs.Map.{lookup}
use Rattle.std.specs.List.{list_any}
use Rattle.privacy_check.specs.declared.access.Access.{Access}
use Rattle.privacy_check.specs.declared.access.Access.TheVariants.{Read, Write}
use Rattle.privacy_check.specs.declared.access.BadCode.{BadCode}
use Rattle.privacy_check.specs.Shadows.{Shadows, untouched}
use Rattle.privacy_check.specs.History.{Call, Touch, EndPeriod, covers, Lawful, codes_after, told_of, after_calls}

abbrev pub kept_if_ok : Result (Unit {0}) BadCode → Call → List Call → List Call
kept_if_ok (Ok u) call calls = call ∷ calls
kept_if_ok (Err bad) call calls = calls

-- the calls without those that were refused
abbrev pub accepted : Shadows → List Call → List Call
accepted shadows [] = []
accepted shadows (call ∷ calls) = kept_if_ok (told_of shadows call) call (accepted (codes_after shadows call) calls)

-- the accesses to a byte in a period, each with its turn's stamp, the latest first
abbrev pub Accesses : Type 0
Accesses = List (Access × ℕ)

abbrev pub accesses_with : ℕ → ℕ → Accesses → Call → Accesses
accesses_with name offset earlier (Touch access at len stamp) = if covers at len name offset then (access, stamp) ∷ earlier else earlier
accesses_with name offset earlier EndPeriod = []

-- those of the last period of the calls, from those before them
abbrev pub accesses_after : ℕ → ℕ → Accesses → List Call → Accesses
accesses_after name offset earlier [] = earlier
accesses_after name offset earlier (call ∷ calls) = accesses_after name offset (accesses_with name offset earlier call) calls

abbrev pub is_write : Access → Bool
is_write Read = false
is_write Write = true

-- that turn wrote the byte
abbrev pub wrote_it : ℕ → Accesses → Bool
wrote_it stamp accesses = list_any (λ a. is_write a.0 && (a.1 == stamp)) accesses

abbrev pub reads_before_writing : Access → ℕ → Accesses → Bool
reads_before_writing Read stamp earlier = not (wrote_it stamp earlier)
reads_before_writing Write stamp earlier = false

-- some turn read the byte with no write of that turn before it
abbrev pub read_first : Accesses → Bool
read_first [] = false
read_first (a ∷ earlier) = reads_before_writing a.0 a.1 earlier || read_first earlier

abbrev pub write_or : Access → ℕ → Option ℕ → Option ℕ
write_or Read stamp earlier = earlier
write_or Write stamp earlier = Some stamp

-- the stamp of the last write
abbrev pub last_write : Accesses → Option ℕ
last_write [] = None
last_write (a ∷ earlier) = write_or a.0 a.1 (last_write earlier)

abbrev pub writes : ℕ → ℕ → Call → Bool
writes name offset (Touch access at len stamp) = if covers at len name offset then is_write access else false
writes name offset EndPeriod = false

-- some turn of the span wrote the byte
abbrev pub written_in : ℕ → ℕ → List Call → Bool
written_in name offset calls = list_any (writes name offset) calls

-- a code is 2 exactly where a turn of this period read the byte first; at least 3 exactly where one wrote it, and then
-- the stamp of the last write; and 1 or at least 3 exactly where a turn of the span wrote it
pub record Meaning (name offset code : ℕ) (calls : List Call) : Type 0 where
  pub read : (code == 2) ≡ read_first (accesses_after name offset [] calls)
  pub wrote : (if nat_le 3 code then Some code else None) ≡ last_write (accesses_after name offset [] calls)
  pub in_span : ((code == 1) || nat_le 3 code) ≡ written_in name offset calls

-- each code of the object has its meaning
pub record Means (shadows : Shadows) (name size : ℕ) (calls : List Call) : Type 0 where
  pub codes : List ℕ
  pub known : shadows name ≡ Some codes
  pub sized : length codes ≡ size
  pub each : (offset : ℕ) → offset < size → Meaning name offset (slice_index codes offset) calls

-- after any lawful calls on a new shadow, each code means what the calls that were not refused did to its byte
abbrev pub MeaningLaw : Type 0
MeaningLaw = (sizes : List (ℕ × ℕ)) (calls : List Call) → Lawful sizes 3 calls → (name size : ℕ) → lookup (λ n. n == name) sizes ≡ Some size
    → Means (after_calls (untouched sizes) calls) name size (accepted (untouched sizes) calls)
