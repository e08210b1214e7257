-- Lines that are passed over, token by token.
use Rattle.std.proofs.Common.{◌≡◌, ℕ, Bool, true, false, cond, List, [], ◌∷◌, ◌++◌, refl, append_assoc, All}
use Rattle.std.proofs.lemmas.List.{append-nil}
use Rattle.std.proofs.lemmas.List.Elements.{All-push}
use Rattle.ir_lex.specs.declared.token.Token.{Token}
use Rattle.ir_grammar.specs.Texts.{is_over, kept_from}

kept_by : (text : List ℕ) (line : ℕ) (over : Bool) (t : Token) (rest kept : List Token) → cond over kept (kept ++ t ∷ []) ++ kept_from text line over rest ≡ kept ++ cond over (kept_from text line true rest) (t ∷ kept_from text line false rest)
kept_by text line true t rest kept = refl
kept_by text line false t rest kept = append_assoc kept (t ∷ []) (kept_from text line false rest)

pub kept_step : (text : List ℕ) (line : ℕ) (passed over : Bool) (t : Token) (ts rest kept new : List Token) → ts ≡ t ∷ rest → over ≡ is_over text line passed ts → new ≡ cond over kept (kept ++ t ∷ [])
    → new ++ kept_from text t.line over rest ≡ kept ++ kept_from text line passed ts
unfolding kept_from
kept_step text line passed over t ts rest kept new is test e =
    let at : over ≡ is_over text line passed (t ∷ rest) = rw is at test in
    rw (e, is, ← at) (kept_by text t.line over t rest kept)

pub kept_end : (text : List ℕ) (line : ℕ) (passed : Bool) (ts kept : List Token) → ts ≡ [] → kept ++ kept_from text line passed ts ≡ kept
unfolding kept_from
kept_end text line passed ts kept is = rw is (append-nil kept)

kept_in : {A : Type 0} (P : A → Type 0) (over : Bool) (kept : List A) (t : A) → All P kept → P t → All P (cond over kept (kept ++ t ∷ []))
kept_in P true kept t all one = all
kept_in P false kept t all one = All-push P kept t all one

pub kept_all : {A : Type 0} (P : A → Type 0) (over : Bool) (kept new : List A) (t : A) → new ≡ cond over kept (kept ++ t ∷ []) → All P kept → P t → All P new
kept_all P over kept new t e all one = rw e (kept_in P over kept t all one)
