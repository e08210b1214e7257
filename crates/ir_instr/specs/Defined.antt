-- What a function has defined so far, by number.
use Rattle.std.specs.Prelude.{◌≡◌, ℕ, ◌<◌, ◌++◌, length, nat_eq, Bool, false, if◌then◌else◌, List, [], ◌∷◌, IfSome, option_and_then, All}
use Rattle.std.specs.List.{list_any}
use Rattle.pv_base.specs.declared.name.Name.{Name}
use Rattle.ir_tree.specs.Table.{Table}
use Rattle.ir_text.specs.declared.named.NamedBody.{NamedBody}
use Rattle.ir_text.specs.Named.{body_in}

-- whether the number is one of these
abbrev pub number_among : ℕ → List ℕ → Bool
number_among k ks = list_any (nat_eq k) ks

-- the numbers with this one, which stands last where it is new
abbrev pub with_number : List ℕ → ℕ → List ℕ
with_number ks k = if number_among k ks then ks else ks ++ k ∷ []

-- each is the number of a name
abbrev pub AreNames : Table → List ℕ → Type 0
AreNames table ks = All (λ k. k < length table.names) ks

-- each body of a named type has a number of the table
abbrev pub AreTypes : Table → List (Name × NamedBody) → Type 0
AreTypes table bodies = (name : Name) → IfSome (option_and_then (λ b. b.of) (body_in bodies name)) (λ k. k < length table.types)

-- a name of the table that is none of these
pub record IsNew (table : Table) (ks : List ℕ) (k : ℕ) : Type 0 where
  pub within : k < length table.names
  pub is_new : number_among k ks ≡ false
