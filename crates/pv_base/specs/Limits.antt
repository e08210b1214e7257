-- The limits that several parts of the program speak of.
use Rattle.std.specs.Prelude.{ℕ}

-- no more bytes of objects are live at once, so the globals of a module have no more together
abbrev pub live_limit : ℕ
live_limit = 4194304

-- the most bytes of a module, a profile or an input
abbrev pub file_limit : ℕ
file_limit = 4194304
