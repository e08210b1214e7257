-- Words in a table.
use Rattle.std.proofs.Common.{◌≡◌, ℕ, Bool, List, [], ◌∷◌, map, Bor, refl, ap}
use Rattle.std.specs.Prelude.{◌||◌}
use Rattle.std.specs.List.{list_any}
use Rattle.ir_text.specs.Tokens.{same, among}

pub any_among : (words : List (Bor (List ℕ))) (text : List ℕ) → list_any (λ w. same text w.now) words ≡ among (map (λ w. w.now) words) text
unfolding among
any_among [] text = refl
any_among (w ∷ words) text = let rest : list_any (λ w. same text w.now) words ≡ list_any (same text) (map (λ w. w.now) words) = unfold among in any_among words text in ap (λ (b : Bool). same text w.now || b) rest
