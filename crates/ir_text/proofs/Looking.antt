-- Named types by their names.
use Rattle.std.proofs.Common.{◌≡◌, Bool, cond, List, [], ◌∷◌, Option, Some, None, refl, ap, ◌∙◌}
use Rattle.std.specs.Prelude.{is_some, option_map}
use Rattle.std.specs.Map.{lookup}

pub lookup_same : {K X : Type 0} (test other : K → Bool) (es : List (K × X)) → ((k : K) → test k ≡ other k) → lookup test es ≡ lookup other es
lookup_same test other [] same = refl
lookup_same {K} {X} test other (e ∷ es) same = ap (λ (b : Bool). cond b (Some e.1) (lookup test es)) (same e.0) ∙ ap (λ (o : Option X). cond (other e.0) (Some e.1) o) (lookup_same test other es same)

pub mapped_is : {A B : Type 0} (f : A → B) (o : Option A) → is_some (option_map f o) ≡ is_some o
mapped_is f None = refl
mapped_is f (Some a) = refl
