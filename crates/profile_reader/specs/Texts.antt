-- The lines of a text: the bytes up to each newline. A last newline begins no line.
use Rattle.std.specs.Prelude.{ℕ, List, [], ◌∷◌, ◌==◌, if◌then◌else◌}
use Rattle.pv_base.specs.Outside.{Text}

-- a byte at the front of the first line
abbrev pub before_lines : ℕ → List Text → List Text
before_lines b [] = (b ∷ []) ∷ []
before_lines b (line ∷ lines) = (b ∷ line) ∷ lines

abbrev pub lines_of : Text → List Text
lines_of [] = []
lines_of (b ∷ bs) = if b == 10 then [] ∷ lines_of bs else before_lines b (lines_of bs)
