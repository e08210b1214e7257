-- What a line says, as a list of numbers: two lines have the same list exactly where they say the same, but that a phi
-- counts by its register alone.
use Rattle.std.specs.Prelude.{ℕ, List, [], ◌∷◌, ◌++◌, length}
use Rattle.profile_lines.specs.declared.profile.ProfileName.{ProfileName}
use Rattle.profile_lines.specs.declared.profile.ProfileName.TheVariants.{Named, Numbered}
use Rattle.profile_lines.specs.declared.profile.SiteName.{SiteName}
use Rattle.profile_lines.specs.declared.profile.ObjectName.{ObjectName}
use Rattle.profile_lines.specs.declared.profile.ObjectName.TheVariants.{Global, At}
use Rattle.profile_lines.specs.declared.lines.Line.{Line}
use Rattle.profile_lines.specs.declared.lines.Line.TheVariants.{Loop, Period, Block, Phi, Use, Local, Flow, Value, End}

abbrev pub name_key : ProfileName → List ℕ
name_key (Named bytes) = 1 ∷ length bytes ∷ bytes
name_key (Numbered n) = 0 ∷ n ∷ []

abbrev pub site_key : SiteName → List ℕ
site_key s = name_key s.function ++ s.place ∷ []

abbrev pub object_key : ObjectName → List ℕ
object_key (Global name) = 0 ∷ name_key name
object_key (At site) = 1 ∷ site_key site

-- the place of a line's word in the order of a loop's lines
abbrev pub rank : Line → ℕ
rank (Loop function header) = 0
rank (Period turns) = 1
rank (Block name) = 2
rank (Phi line) = 3
rank (Use line) = 4
rank (Local site) = 5
rank (Flow line) = 6
rank (Value line) = 7
rank End = 8

abbrev pub fields_key : Line → List ℕ
fields_key (Loop function header) = name_key function ++ name_key header
fields_key (Period turns) = turns ∷ []
fields_key (Block name) = name_key name
fields_key (Phi line) = name_key line.register
fields_key (Use line) = (site_key line.at ++ line.slot ∷ []) ++ object_key line.object
fields_key (Local site) = site_key site
fields_key (Flow line) = (object_key line.object ++ line.offset ∷ []) ++ line.length ∷ []
fields_key (Value line) = (name_key line.global ++ line.offset ∷ []) ++ line.bytes
fields_key End = []

abbrev pub key_of : Line → List ℕ
key_of line = rank line ∷ fields_key line
