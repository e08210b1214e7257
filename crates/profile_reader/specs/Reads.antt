-- How a reading ends.
use Rattle.std.specs.Prelude.{◌≡◌, ℕ, ◌≤◌, Option, None, Some, Result, Ok, Err}
use Rattle.profile_lines.specs.declared.profile.Profile.{Profile}
use Rattle.profile_reader.specs.declared.read.ProfileError.{ProfileError}
use Rattle.profile_reader.specs.declared.read.ProfileEnd.{ProfileEnd}
use Rattle.profile_reader.specs.declared.read.ProfileEnd.TheVariants.{Bad, Memory}
use Rattle.profile_reader.specs.Grammar.{Saying, profile_says}

-- a loop's period is 1 to 65,533 turns, and a text of version 1 gives none
abbrev pub PeriodFits : ℕ → Option ℕ → Type 0
PeriodFits version None = Unit {0}
PeriodFits version (Some turns) = (version ≡ 2) × (1 ≤ turns) × (turns ≤ 65533)

-- the profile that says this, or the first fault; memory may be refused
abbrev pub Reads : Result Saying ProfileError → Result Profile ProfileEnd → Type 0
Reads said (Ok profile) = said ≡ Ok (profile_says profile)
Reads said (Err (Bad error)) = said ≡ Err error
Reads said (Err Memory) = Unit {0}
