-- What files and sinks do, as their callers see it.
use Rattle.std.specs.Prelude.{◌≡◌, ◌<◌, ◌≤◌, ◌⊎◌, ◌++◌, ℕ, List, [], length, Option, option_map, IfSome, Result, Ok, Err}
use Rattle.pv_base.specs.declared.outside.FileEnd.{FileEnd}
use Rattle.pv_base.specs.declared.outside.FileEnd.TheVariants.{Failed, TooLong, Memory}
use Rattle.pv_base.specs.declared.outside.SinkFault.{SinkFault}

-- a run of bytes
abbrev pub Text : Type 0
Text = List ℕ

-- where a count of faults stands still
abbrev pub last_count : ℕ
last_count = 18446744073709551615

-- a count of faults rose in a call: it is greater after it, or stands at its last value
abbrev pub Rose : ℕ → ℕ → Type 0
Rose before after = (before < after) ⊎ (last_count ≤ after)

-- what is held, where that is told, once these bytes are appended
abbrev pub appended : Option Text → Text → Option Text
appended held bytes = option_map (λ b. b ++ bytes) held

-- a front of a text
pub record Front (front whole : Text) : Type 0 where
  pub rest : Text
  pub is : front ++ rest ≡ whole

-- some front of these bytes was appended, and no more
pub record AppendsFront (before after : Option Text) (whole : Text) : Type 0 where
  pub front : Text
  pub is_front : Front front whole
  pub held : after ≡ appended before front

-- how the read of a name ends whose content is told or not; `bytes` is what the call leaves in the caller's bytes
abbrev pub ReadEnds : Option Text → ℕ → ℕ → ℕ → Text → {U : Type 0} → Result U FileEnd → Type 0
ReadEnds told limit before after bytes (Ok u) =
    (after ≡ before) × (length bytes ≤ limit) × IfSome told (λ t. bytes ≡ t)
ReadEnds told limit before after bytes (Err Failed) = Rose before after × (bytes ≡ [])
ReadEnds told limit before after bytes (Err TooLong) =
    (after ≡ before) × (bytes ≡ []) × IfSome told (λ t. limit < length t)
ReadEnds told limit before after bytes (Err Memory) = (after ≡ before) × (bytes ≡ [])

-- how a put ends
abbrev pub PutEnds : Option Text → Option Text → ℕ → ℕ → Text → {U : Type 0} → Result U SinkFault → Type 0
PutEnds held held' before after bytes (Ok u) = (after ≡ before) × (held' ≡ appended held bytes)
PutEnds held held' before after bytes (Err e) = Rose before after × AppendsFront held held' bytes

-- the count is 0 as long as fewer bytes are held than there is room for
abbrev pub HasRoom : Option ℕ → Option Text → ℕ → Type 0
HasRoom room held faults = IfSome room (λ r. IfSome held (λ b. length b < r → faults ≡ 0))
