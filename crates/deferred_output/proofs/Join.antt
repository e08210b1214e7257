-- Parts that a list refers to: their bytes, and their order.
use Rattle.std.proofs.Common.{◌≡◌, ℕ, ◌+◌, ◌<◌, List, [], ◌∷◌, ◌++◌, length, take, get_or, map, sym, subst, ap, ◌∙◌, arith}
use Rattle.std.proofs.lemmas.List.{map_more, flat_map_more, get_or-map, length-map}
use Rattle.std.proofs.lemmas.List.Sorted.{IsPermutation-map}
use Rattle.std.specs.List.Sorted.{IsPermutation, IsNonDecreasingBy, IsNonDecreasing}
use denote.Ref.{Bor}
use Rattle.deferred_output.specs.declared.output.TurnOutput.{TurnOutput}
use Rattle.deferred_output.specs.Order.{joined, turns, IsInTurnOrder}

-- one part more
pub joined_more : (parts : List (Bor TurnOutput)) (i : ℕ) (d : Bor TurnOutput) → i < length parts → joined (map (λ p. p.now) (take i parts)) ++ (get_or parts i d).now.bytes ≡ joined (map (λ p. p.now) (take (i + 1) parts))
joined_more parts i d h = flat_map_more (λ p. p.bytes) [] (map (λ p. p.now) (take i parts)) (get_or parts i d).now ∙ ap joined (sym (map_more (λ p. p.now) parts i d h))

-- the turn of a part that is referred to
turn_at : (order : List (Bor TurnOutput)) (i d : ℕ) (e : Bor TurnOutput) → i < length order → get_or (turns (map (λ p. p.now) order)) i d ≡ (get_or order i e).now.turn
turn_at order i d e h =
    let within : i < length (map (λ (p : Bor TurnOutput). p.now) order) = simp length-map h in
    get_or-map (λ (p : TurnOutput). p.turn) (map (λ (p : Bor TurnOutput). p.now) order) i e.now d within ∙ ap (λ (p : TurnOutput). p.turn) (get_or-map (λ (p : Bor TurnOutput). p.now) order i e e.now h)

-- parts whose turns do not fall have a list of turns that does not fall
turns_rise : (order : List (Bor TurnOutput)) → IsNonDecreasingBy (λ p. p.now.turn) order → IsNonDecreasing (turns (map (λ p. p.now) order))
turns_rise [] up i j d h k = absurd (omega arith)
turns_rise (p ∷ ps) up i j d h k =
    let within : j < length (p ∷ ps) = simp length-map at k in
    let before : i < length (p ∷ ps) = omega arith in
    rw (turn_at (p ∷ ps) i d p before, turn_at (p ∷ ps) j d p within) (up i j p h within)

-- references in order of their turns give the parts in that order
pub order_of_references : (parts : List TurnOutput) (refs order : List (Bor TurnOutput)) (bytes : List ℕ) → map (λ p. p.now) refs ≡ parts → IsPermutation refs order → IsNonDecreasingBy (λ p. p.now.turn) order → bytes ≡ joined (map (λ p. p.now) order) → IsInTurnOrder parts bytes
order_of_references parts refs order bytes shown moved up is =
    let same : IsPermutation parts (map (λ p. p.now) order) = subst (λ (ps : List TurnOutput). IsPermutation ps (map (λ p. p.now) order)) shown (IsPermutation-map (λ p. p.now) refs order moved) in
    record {
      order = map (λ p. p.now) order;
      same = same;
      rises = turns_rise order up;
      is = is;
    }
