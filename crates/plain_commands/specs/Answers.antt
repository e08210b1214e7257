-- What a call answers.
use Rattle.std.specs.Prelude.{◌≡◌, ◌<◌, ◌≤◌, ◌⊎◌, ◌++◌, ℕ, [], length, Option, IfSome, Result, Ok, Err, codes, nat_lt, if◌then◌else◌}
use Rattle.pv_base.specs.Outside.{Text, Rose}
use Rattle.plain_commands.specs.Status as exit
use Rattle.plain_commands.specs.declared.answer.Answer.{Answer}

-- the answer with this status, which puts this out and reports this
abbrev pub gives : ℕ → Text → Text → Answer
gives status out report = record { status = status; out = out; report = report }

-- a refusal: its line is reported, and nothing is put out
abbrev pub refuses : ℕ → Text → Answer
refuses status line = gives status [] line

abbrev pub too_long_line : Text → Text
too_long_line name = codes "too long " ++ name ++ codes "\n"

abbrev pub fault_line : Text → Text
fault_line name = codes "fault reading " ++ name ++ codes "\n"

-- what is answered of the text of a file: that it is longer than its limit, or what follows
abbrev pub with_file : ℕ → Text → Text → Answer → Answer
with_file limit text name next = if nat_lt limit (length text) then refuses exit.too_long (too_long_line name) else next

-- a status of neither a fault nor want of memory
abbrev pub IsAnswer : ℕ → Type 0
IsAnswer status = (status < exit.read_fault) ⊎ (status ≡ exit.too_long)

-- a status that leaves what the output holds as it was
abbrev pub IsQuiet : ℕ → Type 0
IsQuiet status = (status ≡ exit.refused) ⊎ (status ≡ exit.usage) ⊎ (status ≡ exit.read_fault) ⊎ (status ≡ exit.too_long)

-- the answer to a read that failed, of a name that may be read there
pub record IsReadFault (May : Text → Type 0) (before after : ℕ) (a : Answer) : Type 0 where
  pub name : Text
  pub may : May name
  pub is : a ≡ refuses exit.read_fault (fault_line name)
  pub rose : Rose before after

-- what is wanted, with no read that failed, or the answer to the one that did
abbrev pub IsGiven : Answer → (Text → Type 0) → ℕ → ℕ → Answer → Type 0
IsGiven wanted May before after a = ((after ≡ before) × (a ≡ wanted)) ⊎ IsReadFault May before after a

-- how the read of a file ends: with its text, or with the answer in its place
abbrev pub ReadsFile : Option Text → ℕ → Text → ℕ → ℕ → Result Text Answer → Type 0
ReadsFile told limit name before after (Ok text) =
    (after ≡ before) × (length text ≤ limit) × IfSome told (λ t. text ≡ t)
ReadsFile told limit name before after (Err a) = IsReadFault (λ n. n ≡ name) before after a
    ⊎ ((after ≡ before) × (a ≡ refuses exit.too_long (too_long_line name)) × IfSome told (λ t. limit < length t))
