-- The numbers of a generated program, and texts for numbers in order.
use Rattle.std.specs.Prelude.{ℕ, zero, suc, ◌+◌, ◌*◌, ◌/◌, ◌%◌, ◌^◌, ◌++◌, ℤ, pos, ◌-ℤ◌, nat_lt, List, [], if◌then◌else◌}

-- the number that is drawn after another one, by a linear congruence modulo 2^64
unfoldable pub next : ℕ → ℕ
next x = (x * 6364136223846793005 + 1442695040888963407) % 2 ^ 64

-- the k-th number that is drawn after a first one, which is drawn 0
unfoldable pub drawn : ℕ → ℕ → ℕ
drawn number zero = number
drawn number (suc k) = next (drawn number k)

-- the high 24 bits of the odd ones are factors, and those of the even ones addends
abbrev pub factor : ℕ → ℕ → ℕ
factor number j = drawn number (2 * j + 1) / 2 ^ 40

abbrev pub addend : ℕ → ℕ → ℕ
addend number j = drawn number (2 * j + 2) / 2 ^ 40

-- the signed number that 32 bits stand for
abbrev pub as_signed : ℕ → ℤ
as_signed bits = if nat_lt bits (2 ^ 31) then pos bits else (pos bits -ℤ pos (2 ^ 32))

-- the texts of the numbers from 0 to n - 1, one after another
unfoldable pub each : (ℕ → List ℕ) → ℕ → List ℕ
each text zero = []
each text (suc n) = each text n ++ text n
