-- Numbers for constants that are the same: two have one class exactly where they are the same.
use Rattle.std.specs.Prelude.{◌≡◌, ◌≤◌, ℕ, nat_eq, List, length}
use Rattle.ir_tree.specs.Table.{Table}
use Rattle.ir_tree.specs.Trees.{ConstantV}
use Rattle.ir_tree.specs.Naming.{constant_at}
use Rattle.ir_rules.specs.Same.{same_constant}
use Rattle.ir_rules.specs.Classes.{class_at}
use Rattle.ir_rules.specs.Heads.{constant_below}

-- the classes of the first constants
pub record KindsBelow (t : Table) (kinds : List ℕ) : Type 0 where
  pub same : (i j : ℕ) → nat_eq (class_at kinds i) (class_at kinds j) ≡ same_constant (constant_below t (length kinds) i) (constant_below t (length kinds) j)
  pub most : (i : ℕ) → class_at kinds i ≤ length kinds

-- the classes of all constants
pub record AreKinds (t : Table) (kinds : List ℕ) : Type 0 where
  pub same : (i j : ℕ) → nat_eq (class_at kinds i) (class_at kinds j) ≡ same_constant (constant_at t i) (constant_at t j)

-- a class for one more constant
pub record IsNextKind (t : Table) (kinds : List ℕ) (value : ConstantV) (kind : ℕ) : Type 0 where
  pub same : (i : ℕ) → nat_eq (class_at kinds i) kind ≡ same_constant (constant_below t (length kinds) i) value
