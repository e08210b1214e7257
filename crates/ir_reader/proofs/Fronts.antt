-- The first item of a list, and those behind it, as a loop over a slice takes them.
use Rattle.std.proofs.Common.{◌≡◌, ℕ, ◌≤◌, ◌<◌, ◌-◌, List, [], ◌∷◌, length, take, drop, get_or, refl, sym, ap, arith, All}
use Rattle.std.proofs.lemmas.List.{take_rest}
use Rattle.std.proofs.lemmas.List.Elements.{All-take, All-drop, All-get_or}
use Rattle.ir_lex.specs.declared.token.Token.{Token}
use Rattle.ir_lex.specs.declared.token.TokenKind.TheVariants as kind
use Rattle.ir_text.specs.Tokens.{token_of, tokens_of}

abbrev pub behind_first : {A : Type 0} → List A → List A
behind_first xs = take (length xs - 1) (drop 1 xs)

pub front_is : {A : Type 0} (xs : List A) (d : A) → 1 ≤ length xs → xs ≡ get_or xs 0 d ∷ behind_first xs
front_is [] d some = absurd (omega arith)
front_is {A} (x ∷ xs) d some = ap (λ (ys : List A). x ∷ ys) (sym (take_rest (x ∷ xs) 1))

pub tokens_front : (text : List ℕ) (ts : List Token) (d : Token) → 1 ≤ length ts → tokens_of text ts ≡ token_of text (get_or ts 0 d) ∷ tokens_of text (behind_first ts)
tokens_front text ts d some = ap (tokens_of text) (front_is ts d some)

pub behind_in : {A : Type 0} (P : A → Type 0) (xs : List A) → All P xs → All P (behind_first xs)
behind_in P xs all = All-take P (length xs - 1) (drop 1 xs) (All-drop P 1 xs all)

pub first_in : {A : Type 0} (P : A → Type 0) (xs : List A) (d : A) → 1 ≤ length xs → All P xs → P (get_or xs 0 d)
first_in P xs d some all = All-get_or P xs 0 d (let lt : 1 ≤ length xs = some in omega arith) all

pub none_left : {A : Type 0} (xs : List A) → length xs < 1 → xs ≡ []
none_left [] few = refl
none_left (x ∷ xs) few = absurd (omega arith)

-- what is read of no place of a list
abbrev pub no_token : Token
no_token = record { kind = kind.GlobalName; from = 0; to = 0; line = 0 }
