-- Types from outside of a module, and those of a function.
use Rattle.std.proofs.Common.{◌≡◌, ℕ, zero, suc, List, [], ◌∷◌, map, slice_get, refl, ap}
use Rattle.std.specs.Prelude.{option_map}
use Rattle.ir_tree.specs.declared.items.Param.{Param}
use Rattle.ir_tree.specs.declared.items.Function.{Function}
use Rattle.ir_tree.specs.Table.{Table}
use Rattle.ir_tree.specs.Trees.{TypeV, IntV, PtrV, VoidV, ArrayV, StructV, NamedV}
use Rattle.ir_tree.specs.Naming.{type_at}
use Rattle.ir_tree.specs.Shown.{shown_param, shown_function}
use Rattle.ir_rules.specs.Same.{same_type}
use Rattle.ir_rules.specs.Reading.{is_void}
use Rattle.ir_rules.specs.Calls.{param_types}

pub void_left : (a : TypeV) → same_type VoidV a ≡ is_void a
unfolding same_type
void_left (IntV v) = refl
void_left PtrV = refl
void_left VoidV = refl
void_left (ArrayV n t) = refl
void_left (StructV p fs) = refl
void_left (NamedV x) = refl

pub params_shown : (t : Table) (f : Function ℕ ℕ ℕ) → param_types (shown_function t f) ≡ map (λ p. type_at t p.of) f.params
params_shown t f = go f.params
  where
    go : (ps : List (Param ℕ ℕ)) → map (λ p. p.of) (map (shown_param t) ps) ≡ map (λ p. type_at t p.of) ps
    go [] = refl
    go (p ∷ ps) = ap (λ l. type_at t p.of ∷ l) (go ps)

pub get_map : {X Y : Type 0} (f : X → Y) (xs : List X) (n : ℕ) → slice_get (map f xs) n ≡ option_map f (slice_get xs n)
get_map f [] n = refl
get_map f (x ∷ xs) zero = refl
get_map f (x ∷ xs) (suc n) = get_map f xs n
