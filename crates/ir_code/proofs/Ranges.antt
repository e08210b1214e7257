-- Lists by number, as they grow.
use Rattle.std.proofs.Common.{◌≡◌, ℕ, ◌+◌, List, [], ◌∷◌, ◌++◌, map, sym, ◌∙◌, arith}
use Rattle.std.specs.List.{range_with_len}
use Rattle.std.proofs.lemmas.List.FromFn.{map-range_with_len_more}

pub one_more : {A : Type 0} (f : ℕ → A) (n : ℕ) (done done' : List A) (x : A) → done' ≡ done ++ x ∷ [] → x ≡ f n → done ≡ map f (range_with_len 0 n) → done' ≡ map f (range_with_len 0 (n + 1))
one_more f n done done' x more is so = more ∙ (λ j. so j ++ is j ∷ []) ∙ sym (map-range_with_len_more f 0 n n (omega arith))
