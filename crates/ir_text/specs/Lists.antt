-- Items separated by commas.
use Rattle.std.specs.Prelude.{ℕ, List, [], ◌∷◌, Ok}
use Rattle.std.proofs.Common.{◌⊎◌}
use Rattle.ir_text.specs.Tokens.{is_mark}
use Rattle.ir_text.specs.Reading.{Reader, ◌>>=◌}
use Rattle.ir_text.specs.Spelled.{Spelling, InTurn, one_token, nothing}
use Rattle.ir_text.specs.Choice.{choose}
use Rattle.ir_text.specs.Leaves.{mark, mark_at}
use Rattle.ir_text.specs.Repeated.{Both, repeated, each}

-- an item behind a comma
abbrev pub after_comma : {A : Type 0} → Reader A → Reader A
after_comma item ts = mark_at 44 ts >>= λ comma. item comma.1

-- one or more items
abbrev pub listed_at : {A : Type 0} → Reader A → Reader (List A)
listed_at item ts = do
  first ← item ts
  others ← repeated (is_mark 44) (after_comma item) first.1
  Ok (first.0 ∷ others.0, others.1)

-- a mark, for a value
abbrev pub mark_for : {A : Type 0} → ℕ → A → Reader A
mark_for b a ts = mark_at b ts >>= λ x. Ok (a, x.1)

-- one or more items, up to a closing mark
abbrev pub filled_at : {A : Type 0} → ℕ → Reader A → Reader (List A)
filled_at close item ts = listed_at item ts >>= λ all. mark_for close all.0 all.1

-- items up to a closing mark, which may come at once
unfoldable pub list_at : {A : Type 0} → ℕ → Reader A → Reader (List A)
list_at close item = choose (is_mark close) (mark_for close []) (filled_at close item)

-- ---- how they are spelled

abbrev pub with_comma : {A : Type 0} → Spelling A → Spelling A
with_comma item = InTurn (one_token (mark 44)) (λ _. item)

abbrev pub a_listed : {A : Type 0} → Spelling A → Spelling (List A)
a_listed item = InTurn item (λ first. InTurn (each (with_comma item)) (λ others. nothing (first ∷ others)))

abbrev pub a_mark_for : {A : Type 0} → ℕ → A → Spelling A
a_mark_for b a = InTurn (one_token (mark b)) (λ _. nothing a)

abbrev pub a_filled : {A : Type 0} → ℕ → Spelling A → Spelling (List A)
a_filled close item = InTurn (a_listed item) (λ all. a_mark_for close all)

abbrev pub a_list : {A : Type 0} → ℕ → Spelling A → Spelling (List A)
a_list close item all ws = a_filled close item all ws ⊎ a_mark_for close [] all ws

-- ---- the same, by the list's items

abbrev pub behind_item : {A : Type 0} → ℕ → Spelling A → Spelling (List A)
behind_item close item [] ws = one_token (mark close) tt ws
behind_item close item (a ∷ all) ws = Both (one_token (mark 44) tt) (Both (item a) (behind_item close item all)) ws

-- nothing or items with commas between them, and the closing mark
abbrev pub closed_list : {A : Type 0} → ℕ → Spelling A → Spelling (List A)
closed_list close item [] ws = one_token (mark close) tt ws
closed_list close item (a ∷ all) ws = Both (item a) (behind_item close item all) ws
