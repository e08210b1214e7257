-- What one line says.
use Rattle.std.specs.Prelude.{ℕ, Bool, true, [], ◌∷◌, ◌==◌, Option, None, Some, Ok, Err, if◌then◌else◌, codes}
use Rattle.std.specs.Str.{bytes_eq}
use Rattle.pv_base.specs.Outside.{Text}
use Rattle.profile_lines.specs.declared.profile.ProfileCause.TheVariants.{Word}
use Rattle.profile_lines.specs.declared.profile.ProfileName.{ProfileName}
use Rattle.profile_lines.specs.declared.profile.SiteName.{SiteName}
use Rattle.profile_lines.specs.declared.profile.ObjectName.{ObjectName}
use Rattle.profile_lines.specs.declared.profile.PhiWord.{PhiWord}
use Rattle.profile_lines.specs.declared.profile.PhiWord.TheVariants.{Step, Same, Reduce}
use Rattle.profile_lines.specs.declared.lines.Line.{Line}
use Rattle.profile_lines.specs.declared.lines.Line.TheVariants.{Loop, Period, Block, Phi, Use, Local, Flow, Value, End}
use Rattle.profile_lines.specs.Cuts.{Reading, map_reading, parted, cut}
use Rattle.profile_lines.specs.Numbers.{number_of, period_of, signed_of, value_of}
use Rattle.profile_lines.specs.Names.{global_name, local_name, site_of, object_of, slot_of}

-- an empty line, or one that begins with `#`
abbrev pub is_passed_over : Text → Bool
is_passed_over [] = true
is_passed_over (b ∷ bs) = b == 35

-- the first line of a text of each version
abbrev pub first_head : Text
first_head = codes "privateer-profile 1"

abbrev pub second_head : Text
second_head = codes "privateer-profile 2"

-- the version that a first line names
abbrev pub version_of : Text → Option ℕ
version_of text = if bytes_eq text first_head then Some 1 else (if bytes_eq text second_head then Some 2 else None)

-- Fields are separated by one blank, and no field holds one. So what follows the last blank that a form has is the
-- last field, and a further blank is a fault of its shape.
abbrev pub fields : {A B : Type 0} → (Text → Reading A) → (Text → Reading B) → Text → Reading (A × B)
fields first second text = parted first second (cut 32 text)

abbrev pub step_parts : Option (Text × Text) → Reading PhiWord
step_parts None = Err Word
step_parts (Some parts) =
    if bytes_eq parts.0 (codes "step") then map_reading (λ n. Step n) (signed_of parts.1) else Err Word

-- `step S`, `same`, `reduce`
abbrev pub guess_of : Text → Reading PhiWord
guess_of text =
    if bytes_eq text (codes "same")
    then Ok Same
    else (if bytes_eq text (codes "reduce") then Ok Reduce else step_parts (cut 32 text))

abbrev pub loop_from : ProfileName × ProfileName → Line
loop_from p = Loop p.0 p.1

abbrev pub phi_from : ProfileName × PhiWord → Line
phi_from p = Phi (record { register = p.0; guess = p.1 })

abbrev pub use_from : (SiteName × ℕ) × ObjectName → Line
use_from p = Use (record { at = p.0.0; slot = p.0.1; object = p.1 })

abbrev pub flow_from : ObjectName × (ℕ × ℕ) → Line
flow_from p = Flow (record { object = p.0; offset = p.1.0; length = p.1.1 })

abbrev pub value_from : ProfileName × (ℕ × Text) → Line
value_from p = Value (record { global = p.0; offset = p.1.0; bytes = p.1.1 })

-- the fields of each kind of line
abbrev pub loop_line : Text → Reading Line
loop_line text = map_reading loop_from (fields global_name local_name text)

abbrev pub period_line : Text → Reading Line
period_line text = map_reading (λ n. Period n) (period_of text)

abbrev pub block_line : Text → Reading Line
block_line text = map_reading (λ n. Block n) (local_name text)

abbrev pub phi_line : Text → Reading Line
phi_line text = map_reading phi_from (fields local_name guess_of text)

abbrev pub use_line : Text → Reading Line
use_line text = map_reading use_from (fields slot_of object_of text)

abbrev pub local_line : Text → Reading Line
local_line text = map_reading (λ s. Local s) (site_of text)

abbrev pub flow_line : Text → Reading Line
flow_line text = map_reading flow_from (fields object_of (fields number_of number_of) text)

abbrev pub value_line : Text → Reading Line
value_line text = map_reading value_from (fields global_name (fields number_of value_of) text)

-- a word and its fields in a text of this version; version 1 has no word `period`
abbrev pub worded : ℕ → Text → Text → Reading Line
worded version word text =
    if bytes_eq word (codes "loop") then loop_line text else (
    if bytes_eq word (codes "period") then (if version == 2 then period_line text else Err Word) else (
    if bytes_eq word (codes "block") then block_line text else (
    if bytes_eq word (codes "phi") then phi_line text else (
    if bytes_eq word (codes "use") then use_line text else (
    if bytes_eq word (codes "local") then local_line text else (
    if bytes_eq word (codes "flow") then flow_line text else (
    if bytes_eq word (codes "value") then value_line text else Err Word)))))))

abbrev pub said_by : ℕ → Text → Option (Text × Text) → Reading Line
said_by version text None = if bytes_eq text (codes "end") then Ok End else Err Word
said_by version text (Some parts) = worded version parts.0 parts.1

-- what a line after the first one says in a text of this version, where it is not too long
abbrev pub line_of : ℕ → Text → Reading Line
line_of version text = said_by version text (cut 32 text)
