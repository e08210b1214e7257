-- The statuses of the process, each by its name.
use Rattle.std.specs.Prelude.{ℕ}

-- the run ended, or the module was accepted
abbrev pub ended : ℕ
ended = 0

-- the run trapped
abbrev pub trapped : ℕ
trapped = 1

-- the budget of the run was spent
abbrev pub spent : ℕ
spent = 2

-- the module was refused
abbrev pub refused : ℕ
refused = 3

-- the words of the command line were refused, or asked for help
abbrev pub usage : ℕ
usage = 4

-- a read failed
abbrev pub read_fault : ℕ
read_fault = 5

-- a write failed
abbrev pub write_fault : ℕ
write_fault = 6

-- memory was refused
abbrev pub memory : ℕ
memory = 7

-- a file has more bytes than its limit
abbrev pub too_long : ℕ
too_long = 8
