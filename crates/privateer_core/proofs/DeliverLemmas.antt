-- What delivering an answer does.
use Rattle.std.proofs.Common.{◌≡◌, List, [], ◌∷◌, ◌++◌, Option, Some, None, refl, ◌∙◌, ap, subst, append-nil}
use Rattle.pv_base.specs.Outside.{Text, AppendsFront, appended}

appended_none : (held : Option Text) → appended held [] ≡ held
appended_none None = refl
appended_none (Some b) = ap Some (append-nil b)

empty_front : (front rest : Text) → front ++ rest ≡ [] → front ≡ []
empty_front [] rest e = refl
empty_front (x ∷ xs) rest e = (cc)

-- a front of nothing leaves what is held
same_after : (held held' : Option Text) → AppendsFront held held' [] → held' ≡ held
same_after held held' h = h.held ∙ ap (appended held) (empty_front h.front h.is_front.rest h.is_front.is) ∙ appended_none held

pub same_after_none : (held held' : Option Text) (bytes : Text) → bytes ≡ [] → AppendsFront held held' bytes → held' ≡ held
same_after_none held held' bytes e h = same_after held held' (subst (λ (b : Text). AppendsFront held held' b) e h)
