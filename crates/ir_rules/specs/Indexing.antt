-- Where the indices of `getelementptr` lead, after the LLVM Language Reference, "getelementptr Instruction".
use Rattle.std.specs.Prelude.{ℕ, zero, suc, Bool, true, false, List, [], ◌∷◌, Option, Some, None, fold}
use Rattle.pv_base.specs.declared.name.Name.{Name}
use Rattle.ir_tree.specs.declared.items.NamedType.{NamedType}
use Rattle.ir_tree.specs.Trees.{TypeV, ArrayV, TypesV, NoneV, MoreV}
use Rattle.ir_tree.specs.Layouts.{fields_of}
use Rattle.ir_rules.specs.declared.given.Walk.{Walk}
use Rattle.ir_rules.specs.declared.given.Walk.TheVariants.{Through, Differs, Outside}

abbrev pub WalkV : Type 0
WalkV = Walk TypeV

abbrev pub field_at : TypesV → ℕ → WalkV
field_at NoneV n = Outside
field_at (MoreV type rest) zero = Through type
field_at (MoreV type rest) (suc n) = field_at rest n

-- a struct takes constants alone
abbrev pub field_step : Option (Bool × TypesV) → Option ℕ → WalkV
field_step None i = Differs
field_step (Some fields) None = Differs
field_step (Some fields) (Some n) = field_at fields.1 n

-- one index into a type; one that is no constant integer is None
unfoldable pub step_into : List (NamedType Name TypeV) → TypeV → Option ℕ → WalkV
step_into types (ArrayV n type) i = Through type
step_into types type i = field_step (fields_of types type) i

abbrev pub advance : List (NamedType Name TypeV) → WalkV → Option ℕ → WalkV
advance types (Through type) i = step_into types type i
advance types Differs i = Differs
advance types Outside i = Outside

-- the first index counts elements of the type itself, so there is at least one
abbrev pub path : List (NamedType Name TypeV) → TypeV → List (Option ℕ) → WalkV
path types type [] = Differs
path types type (first ∷ rest) = fold (advance types) (Through type) rest

abbrev pub agrees : WalkV → Bool
agrees Differs = false
agrees w = true

abbrev pub is_inside : WalkV → Bool
is_inside Outside = false
is_inside w = true
