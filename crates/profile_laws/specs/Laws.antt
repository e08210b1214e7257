-- Laws of the grammar of profiles.
use Rattle.std.specs.Prelude.{◌≡◌, ℕ, ◌+◌, true, false, List, [], ◌∷◌, ◌++◌, length, None, Ok, Err, ◌⊎◌}
use Rattle.pv_base.specs.Outside.{Text}
use Rattle.profile_lines.specs.declared.profile.Profile.{Profile}
use Rattle.profile_lines.specs.declared.profile.ProfileCause.{ProfileCause}
use Rattle.profile_lines.specs.declared.profile.ProfileCause.TheVariants.{Head}
use Rattle.profile_lines.specs.declared.profile.PhiWord.TheVariants.{Same}
use Rattle.profile_lines.specs.declared.lines.Line.{Line}
use Rattle.profile_lines.specs.declared.lines.Line.TheVariants.{Loop, Period, Block, Phi, Use, Local, Flow, Value, End}
use Rattle.profile_reader.specs.declared.read.ProfileError.{ProfileError}
use Rattle.profile_reader.specs.Texts.{lines_of}
use Rattle.profile_reader.specs.Grammar.{profile_says}
use Rattle.profile_reader.specs.Reading.{Said, says_again, step, is_last, said_of}

-- no two profiles have the same version and the same lines
abbrev pub OneProfile : Type 0
OneProfile = (p q : Profile) → profile_says p ≡ profile_says q → p ≡ q

-- what is asked of a line that may repeat another: all of it, but of a phi its register alone
abbrev pub asked : Line → Line
asked (Phi line) = Phi (record { register = line.register; guess = Same })
asked (Loop function header) = Loop function header
asked (Period turns) = Period turns
asked (Block name) = Block name
asked (Use line) = Use line
asked (Local site) = Local site
asked (Flow line) = Flow line
asked (Value line) = Value line
asked End = End

-- two lines have one list of numbers exactly where they say the same
abbrev pub KeysTell : Type 0
KeysTell = (a b : Line) → (says_again a b ≡ true → asked a ≡ asked b) × (asked a ≡ asked b → says_again a b ≡ true)

-- none of these lines is wrong after what was said before it, none is the last, and this is said after them
abbrev pub Right : Said → List Text → Said → Type 0
Right said [] after = said ≡ after
Right said (text ∷ texts) after = (now : Said) × (step said false text ≡ Ok now) × Right now texts after

-- the first fault among lines of which the first has this number: a line that is wrong by what the lines before it say,
-- none of which is wrong
pub record FirstAmong (said : Said) (first : ℕ) (texts : List Text) (error : ProfileError) : Type 0 where
  pub front : List Text
  pub bad : Text
  pub rest : List Text
  pub before : Said
  pub cause : ProfileCause
  pub texts_are : texts ≡ front ++ bad ∷ rest
  pub right : Right said front before
  pub wrong : step before (is_last rest) bad ≡ Err cause
  pub error_is : error ≡ record { line = length front + first; cause = cause }

abbrev pub FirstFault : Text → ProfileError → Type 0
FirstFault text error = FirstAmong None 1 (lines_of text) error

-- a refusal names the first fault; where each line is passed over it names the first line
abbrev pub FaultsAreFirst : Type 0
FaultsAreFirst =
    (text : Text) (error : ProfileError) → said_of text ≡ Err error
    → FirstFault text error ⊎ (error ≡ record { line = 1; cause = Head })

abbrev pub FirstFaultsAreFound : Type 0
FirstFaultsAreFound = (text : Text) (error : ProfileError) → FirstFault text error → said_of text ≡ Err error
