-- Files and sinks in memory, whose faults are chosen by the numbers of their calls.
use Rattle.std.specs.Prelude.{◌≡◌, ◌<◌, ◌+◌, ◌-◌, ◌++◌, ◌==◌, ℕ, List, [], ◌∷◌, length, take, Bool, true, false, Option, Some, None, option_map, find, Result, Ok, Err, nat_lt, nat_le, if◌then◌else◌, refl}
use Rattle.std.specs.List.{list_any}
use Rattle.std.specs.Str.{bytes_eq}
use Rattle.pv_base.specs.declared.outside.FileEnd.{FileEnd}
use Rattle.pv_base.specs.declared.outside.FileEnd.TheVariants.{Failed, TooLong}
use Rattle.pv_base.specs.Outside.{Text, HasRoom}

-- the content of the first pair of that name
abbrev pub content_of : List (Text × Text) → Text → Option Text
content_of entries name = option_map (λ e. e.1) (find (λ e. bytes_eq e.0 name) entries)

-- the call of that number is to fail
abbrev pub is_listed : List ℕ → ℕ → Bool
is_listed failing call = list_any (λ n. n == call) failing

-- what a read gives that has memory: of a listed call, of no such name, and of a content
abbrev pub read_gives : Bool → Option Text → ℕ → Result Text FileEnd
read_gives true told limit = Err Failed
read_gives false None limit = Err Failed
read_gives false (Some text) limit = if nat_lt limit (length text) then Err TooLong else Ok text

-- the bytes that a call left, or its refusal
abbrev pub read_shown : {U : Type 0} → Text → Result U FileEnd → Result Text FileEnd
read_shown bytes (Ok u) = Ok bytes
read_shown bytes (Err e) = Err e

-- whether a put is taken, and the bytes that are held after it: a listed call appends nothing, and one beyond the room
-- what fits
abbrev pub put_gives : Bool → ℕ → Text → Text → Bool × Text
put_gives true room held bytes = (false, held)
put_gives false room held bytes =
    if nat_le (length held + length bytes) room
    then (true, held ++ bytes)
    else (false, held ++ take (room - length held) bytes)

-- the room is told where no call is to fail
abbrev pub told_room : List ℕ → ℕ → Option ℕ
told_room [] room = Some room
told_room (x ∷ xs) room = None

pub faultless_has_room : (failing : List ℕ) (room : ℕ) (bytes : Text) (faults : ℕ)
    → (failing ≡ [] → length bytes < room → faults ≡ 0)
    → HasRoom (told_room failing room) (Some bytes) faults
faultless_has_room [] room bytes faults h = h refl
faultless_has_room (x ∷ xs) room bytes faults h = tt
