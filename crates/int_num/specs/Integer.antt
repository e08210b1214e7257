-- An integer of a width, as its bits, and as the signed number that the bits stand for in two's complement.
use Rattle.std.specs.Prelude.{◌≡◌, ℕ, ◌*◌, ◌%◌, ◌^◌, ◌<◌, ◌≤◌, ℤ, pos, ◌-ℤ◌, nat_lt, if◌then◌else◌}

pub record Integer : Type 0 where
  pub width : ℕ
  pub bits : ℕ

-- a width is 1 to 64
pub record IsWidth (n : ℕ) : Type 0 where
  pub positive : 0 < n
  pub most : n ≤ 64

-- the bits are those of the width
pub record IsInteger (n : Integer) : Type 0 where
  pub width : IsWidth n.width
  pub bits : n.bits < 2 ^ n.width

-- an integer of this width
pub record HasWidth (w : ℕ) (n : Integer) : Type 0 where
  pub integer : IsInteger n
  pub width : n.width ≡ w

-- the number of these bits in two's complement: from half of 2^width on it is the bits less 2^width
abbrev pub signed_of : ℕ → ℕ → ℤ
signed_of width bits = if nat_lt (2 * bits) (2 ^ width) then pos bits else (pos bits -ℤ pos (2 ^ width))

abbrev pub signed : Integer → ℤ
signed n = signed_of n.width n.bits

-- the low eight bits
abbrev pub low_byte : Integer → ℕ
low_byte n = n.bits % 256
