-- Numbers for types and constants that are the same: two have one class exactly where they are the same.
use Rattle.std.specs.Prelude.{◌≡◌, ◌≤◌, ℕ, nat_eq, nat_lt, List, length, if◌then◌else◌, slice_index_or}
use Rattle.ir_tree.specs.Table.{Table}
use Rattle.ir_tree.specs.Trees.{TypeV, PtrV}
use Rattle.ir_tree.specs.Naming.{type_at}
use Rattle.ir_rules.specs.Same.{same_type}

-- the class of a number, 0 where it has none
abbrev pub class_at : List ℕ → ℕ → ℕ
class_at classes i = slice_index_or classes i 0

-- what a number stands for among the first types
abbrev pub type_below : Table → ℕ → ℕ → TypeV
type_below t k i = if nat_lt i k then type_at t i else PtrV

-- the classes of the first types
pub record ClassesBelow (t : Table) (classes : List ℕ) : Type 0 where
  pub same : (i j : ℕ) → nat_eq (class_at classes i) (class_at classes j) ≡ same_type (type_below t (length classes) i) (type_below t (length classes) j)
  pub most : (i : ℕ) → class_at classes i ≤ length classes

-- the classes of all types
pub record AreClasses (t : Table) (classes : List ℕ) : Type 0 where
  pub same : (i j : ℕ) → nat_eq (class_at classes i) (class_at classes j) ≡ same_type (type_at t i) (type_at t j)

-- a class for one more type
pub record IsNextClass (t : Table) (classes : List ℕ) (type : TypeV) (class : ℕ) : Type 0 where
  pub same : (i : ℕ) → nat_eq (class_at classes i) class ≡ same_type (type_below t (length classes) i) type
