-- What a profile says: its version, and the lines after the first one: a loop's line, its period, its lines by kind, and
-- its end.
use Rattle.std.specs.Prelude.{ℕ, List, [], ◌∷◌, ◌++◌, map, Option, None, Some}
use Rattle.std.specs.List.{flat_map}
use Rattle.profile_lines.specs.declared.profile.Profile.{Profile}
use Rattle.profile_lines.specs.declared.profile.ProfileLoop.{ProfileLoop}
use Rattle.profile_lines.specs.declared.lines.Line.{Line}
use Rattle.profile_lines.specs.declared.lines.Line.TheVariants.{Loop, Period, Block, Phi, Use, Local, Flow, Value, End}

-- the line of a loop's period, where it has one
abbrev pub period_lines : Option ℕ → List Line
period_lines None = []
period_lines (Some turns) = Period turns ∷ []

-- the lines of a loop before its end
abbrev pub open_lines : ProfileLoop → List Line
open_lines l =
    (Loop l.function l.header ∷ []) ++ period_lines l.period
    ++ map (λ x. Block x) l.blocks ++ map (λ x. Phi x) l.phis ++ map (λ x. Use x) l.uses ++ map (λ x. Local x) l.locals
    ++ map (λ x. Flow x) l.flows ++ map (λ x. Value x) l.values

abbrev pub loop_lines : ProfileLoop → List Line
loop_lines l = open_lines l ++ End ∷ []

abbrev pub profile_lines : Profile → List Line
profile_lines p = flat_map loop_lines p.loops

-- the version that a text's first line names, and what the lines after it say
pub record Saying : Type 0 where
  pub version : ℕ
  pub lines : List Line

abbrev pub saying : ℕ → List Line → Saying
saying version lines = record { version = version; lines = lines }

-- what the text of a profile says
abbrev pub profile_says : Profile → Saying
profile_says p = saying p.version (profile_lines p)
