-- Names by number, where a number that the table lacks stands for the name 0.
use Rattle.std.specs.Prelude.{◌≡◌, ℕ, nat_eq, nat_lt, length, if◌then◌else◌}
use Rattle.ir_tree.specs.Table.{Table, same_name}
use Rattle.ir_tree.specs.Naming.{name_at}

-- the number under which a name is kept
abbrev pub key_of : Table → ℕ → ℕ → ℕ
key_of t z k = if nat_lt k (length t.names) then k else z

-- two numbers are of one name exactly where they have one key
pub record IsZero (t : Table) (z : ℕ) : Type 0 where
  pub same : (i j : ℕ) → same_name (name_at t i) (name_at t j) ≡ nat_eq (key_of t z i) (key_of t z j)
