-- The grammar of profiles, a line at a time: what a text has to say so that it is the text of a profile.
use Rattle.std.specs.Prelude.{◌≡◌, ℕ, ◌≤◌, true, false, List, [], ◌∷◌, ◌++◌, length, Ok, ◌⊎◌}
use Rattle.std.specs.Bool.{MatchBool}
use Rattle.pv_base.specs.Outside.{Text}
use Rattle.profile_lines.specs.declared.profile.Profile.{Profile}
use Rattle.profile_lines.specs.declared.lines.Line.{Line}
use Rattle.profile_lines.specs.Keys.{rank}
use Rattle.profile_lines.specs.Lines.{is_passed_over, first_head, second_head, line_of}
use Rattle.profile_reader.specs.Texts.{lines_of}
use Rattle.profile_reader.specs.Grammar.{profile_lines, profile_says}
use Rattle.profile_reader.specs.Reading.{last_rank, follows, repeats, said_of}

-- what the lines after the first one say in a text of this version, in their order; an empty line and a comment say
-- nothing
abbrev pub Spoken : ℕ → List Text → List Line → Type 0
Spoken version [] lines = lines ≡ []
Spoken version (text ∷ texts) lines =
    MatchBool (is_passed_over text) (Spoken version texts lines)
    ((line : Line) × (later : List Line) × (lines ≡ line ∷ later) × (length text ≤ 4096) × (line_of version text ≡ Ok line) × Spoken version texts later)

-- a line that names the first version or the second
abbrev pub Heads : ℕ → Text → Type 0
Heads version text = ((version ≡ 1) × (text ≡ first_head)) ⊎ ((version ≡ 2) × (text ≡ second_head))

-- the first line that says something is the head
abbrev pub Headed : ℕ → List Text → List Line → Type 0
Headed version [] lines = ⊥
Headed version (text ∷ texts) lines =
    MatchBool (is_passed_over text) (Headed version texts lines) (Heads version text × Spoken version texts lines)

-- after these lines come those: each may stand after the one before it and repeats none before it, and the last is an end
abbrev pub InTurn : List Line → List Line → Type 0
InTurn before [] = last_rank before ≡ 8
InTurn before (line ∷ later) =
    (follows (last_rank before) (rank line) ≡ true) × (repeats before line ≡ false) × InTurn (before ++ line ∷ []) later

-- the text of a profile: it has the profile's version, and its lines say the profile's lines, which stand in turn
pub record IsTextOf (text : Text) (profile : Profile) : Type 0 where
  pub headed : Headed profile.version (lines_of text) (profile_lines profile)
  pub in_turn : InTurn [] (profile_lines profile)

-- a reading accepts a text as that of a profile exactly where the grammar does
abbrev pub AcceptsTheGrammar : Type 0
AcceptsTheGrammar =
    (text : Text) (profile : Profile)
    → (said_of text ≡ Ok (profile_says profile) → IsTextOf text profile) × (IsTextOf text profile → said_of text ≡ Ok (profile_says profile))
