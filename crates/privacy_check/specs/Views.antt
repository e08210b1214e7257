-- What contracts see of a shadow.
use Rattle.std.specs.Prelude.{◌≡◌, ℕ, ◌==◌, List, map}
use Rattle.std.specs.Map.{lookup}
use Rattle.privacy_check.specs.Shadows.{Shadows}

-- pairs of an object's name and its codes
abbrev pub Table : Type 0
Table = List (ℕ × List ℕ)

abbrev pub table_of : {V : Type 0} → (V → List ℕ) → List (ℕ × V) → Table
table_of codes entries = map (λ e. (e.0, codes e.1)) entries

-- the codes by name
abbrev pub codes_of : Table → Shadows
codes_of table = λ name. lookup (λ n. n == name) table

-- the table has these codes, name by name
abbrev pub Has : Table → Shadows → Type 0
Has table shadows = (name : ℕ) → codes_of table name ≡ shadows name

-- the names of the objects
abbrev pub names_of : Table → List ℕ
names_of table = map (λ e. e.0) table
