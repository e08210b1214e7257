use Rattle.std.proofs.Common.{[], ◌∷◌, eqb, arith}
use Rattle.std.proofs.lemmas.Map.Keys.{IsDistinct-from_apart}
use Rattle.leaf_rows.proofs.shadows.one_object.Goals as goal

pub new-requires : goal.new-requires
new-requires c = rw c.in_ok-sizes.ensures (IsDistinct-from_apart eqb (0 ∷ []) (λ i j d h k. absurd (omega arith)))
