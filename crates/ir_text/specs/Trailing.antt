-- Items behind commas, and then what is passed over.
use Rattle.std.specs.Prelude.{Bool, true, false, List, [], ◌∷◌, Option, Some, None, Ok}
use Rattle.ir_text.specs.Tokens.{TokenV, is_mark}
use Rattle.ir_text.specs.Reading.{Reader, ◌>>=◌}
use Rattle.ir_text.specs.Choice.{choose}
use Rattle.ir_text.specs.Spelled.{Spelling, InTurn, nothing}
use Rattle.ir_text.specs.Leaves.{mark_at}
use Rattle.ir_text.specs.Repeated.{repeated_under, each}
use Rattle.ir_text.specs.Lists.{with_comma}
use Rattle.ir_text.specs.Tails.{tail_at, some_tails}

-- one of what is passed over, in the place of an item
abbrev pub passed_tail : {A : Type 0} → Reader (Option A)
passed_tail ts = tail_at ts >>= λ x. Ok (None, x.1)

-- an item, where the next token begins one and none was passed over before, or one of what is passed over
abbrev pub trailing_item : {A : Type 0} → (TokenV → Bool) → Reader A → Bool → Reader (Option A)
trailing_item begins item true ts = choose begins (λ us. item us >>= λ x. Ok (Some x.0, x.1)) passed_tail ts
trailing_item begins item false ts = passed_tail ts

-- whether items may still stand
abbrev pub still : {A : Type 0} → Bool → Option A → Bool
still more (Some a) = more
still more None = false

abbrev pub kept : {A : Type 0} → List (Option A) → List A
kept [] = []
kept (None ∷ all) = kept all
kept (Some a ∷ all) = a ∷ kept all

-- the same behind a comma
abbrev pub comma_item : {A : Type 0} → (TokenV → Bool) → Reader A → Bool → Reader (Option A)
comma_item begins item more ts = mark_at 44 ts >>= λ comma. trailing_item begins item more comma.1

-- the items behind commas, and what is passed over behind them
abbrev pub trailing_at : {A : Type 0} → (TokenV → Bool) → Reader A → Reader (List A)
trailing_at begins item ts = repeated_under (is_mark 44) (comma_item begins item) still true ts >>= λ all. Ok (kept all.0, all.1)

abbrev pub a_trailing : {A : Type 0} → Spelling A → Spelling (List A)
a_trailing item = InTurn (each (with_comma item)) (λ items. InTurn some_tails (λ _. nothing items))
