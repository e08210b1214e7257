-- What is found once by name: the functions and globals of a module, and what a function defines.
use Rattle.std.specs.Prelude.{◌≡◌, ℕ, map}
use Rattle.ir_tree.specs.declared.items.Function.{Function}
use Rattle.ir_tree.specs.Table.{Table}
use Rattle.ir_tree.specs.Modules.{Items}
use Rattle.ir_rules.specs.Defining.{defined}
use Rattle.ir_checker.specs.Keys.{key_of, IsZero}
use Rattle.ir_checker.specs.declared.index.Index.{Index}
use Rattle.ir_checker.specs.declared.scope.Scope.{Scope}

-- the keys of the functions and globals of a module
pub record IsIndex (m : Items) (x : Index) : Type 0 where
  pub zero : IsZero m.names x.zero
  pub functions : x.functions ≡ map (λ f. key_of m.names x.zero f.name) m.functions
  pub globals : x.globals ≡ map (λ g. key_of m.names x.zero g.name) m.globals

-- what a function defines, and the keys of that and of its labels
pub record IsScope (t : Table) (z : ℕ) (f : Function ℕ ℕ ℕ) (s : Scope) : Type 0 where
  pub all : s.all ≡ defined f
  pub names : s.names ≡ map (λ d. key_of t z d.name) (defined f)
  pub labels : s.labels ≡ map (λ b. key_of t z b.label) f.blocks
