-- The tokens of pieces, by their places in the text.
use Rattle.std.proofs.Common.{◌≡◌, ℕ, ◌+◌, ◌-◌, List, [], ◌∷◌, ◌++◌, length, Option, Some, None, refl, sym, ap, ◌∙◌, arith, append_assoc, length-append}
use Rattle.std.specs.Prelude.{slice_range}
use Rattle.std.proofs.lemmas.List.{take_at, drop_at}
use Rattle.ir_lex.specs.declared.token.Token.{Token}
use Rattle.ir_lex.specs.declared.token.TokenKind.{TokenKind}
use Rattle.ir_lex.specs.declared.token.Lexed.{Lexed}
use Rattle.ir_lex.specs.declared.token.Form.TheVariants as form
use Rattle.ir_lex.specs.Lexing.{with_token, lexed_from}
use Rattle.ir_lex.proofs.Steps.{gap_front, token_front}
use Rattle.ir_text.specs.Tokens.{TokenV, tokens_of}
use Rattle.ir_printer.specs.Pieces.{Piece, spelled, bytes_of}
use Rattle.print_tokens.specs.Tokens.{kind_of, line_behind, tokens_from}
use Rattle.print_tokens.specs.Tokens.{with_token as before_tokens}
use Rattle.print_tokens.proofs.Fronts.{Front}

abbrev pub with_span : Option TokenKind → ℕ → ℕ → ℕ → List Token → List Token
with_span None at to line ts = ts
with_span (Some k) at to line ts = record { kind = k; from = at; to = to; line = line } ∷ ts

-- the tokens of pieces that stand from a place and a line on
abbrev pub spans : ℕ → ℕ → List Piece → List Token
spans at line [] = []
spans at line (p ∷ ps) = with_span (kind_of p) at (at + length (spelled p)) line (spans (at + length (spelled p)) (line_behind line p) ps)

-- what is read of the text before an end without a fault
abbrev pub faultless : List Token → Lexed
faultless ts = record { tokens = ts; fault = None }

-- ---- a piece at the front

pub token_ahead : (k : TokenKind) (t rest : List ℕ) (at line : ℕ) (ts : List Token) → Front (form.Token k) t rest → lexed_from rest 0 (at + length t) line ≡ faultless ts
    → lexed_from (t ++ rest) 0 at line ≡ faultless (with_span (Some k) at (at + length t) line ts)
token_ahead k [] rest at line ts front go = absurd (let h = front.some in omega arith)
token_ahead k (b ∷ bs) rest at line ts front go =
    let n = length (b ∷ bs) in
    let t : Token = record { kind = k; from = at; to = at + n; line = line } in
    token_front b n at line (bs ++ rest) k front.is (omega arith) ∙ ap (λ (x : List ℕ). with_token t (lexed_from x 0 (at + n) line)) (drop_at (b ∷ bs) rest n refl) ∙ ap (with_token t) go

pub blank_ahead : (rest : List ℕ) (at line : ℕ) (ts : List Token) → Front form.Gap (32 ∷ []) rest → lexed_from rest 0 (at + 1) line ≡ faultless ts → lexed_from (32 ∷ rest) 0 at line ≡ faultless ts
blank_ahead rest at line ts front go = gap_front 32 1 at line rest front.is (omega arith) ∙ go

pub line_ahead : (rest : List ℕ) (at line : ℕ) (ts : List Token) → Front form.Gap (10 ∷ []) rest → lexed_from rest 0 (at + 1) (line + 1) ≡ faultless ts → lexed_from (10 ∷ rest) 0 at line ≡ faultless ts
line_ahead rest at line ts front go = gap_front 10 1 at line rest front.is (omega arith) ∙ go

-- ---- the bytes at a place

-- a part of a text, by where it stands
part : (before word rest : List ℕ) (i j : ℕ) → i ≡ length before → j ≡ i + length word → slice_range (before ++ (word ++ rest)) i j ≡ word
part before word rest i j at to =
    let n : j - i ≡ length word = omega arith in
    rw (n, drop_at before (word ++ rest) i (sym at)) (take_at word rest (length word) refl)

span_one : (o : Option TokenKind) (text t : List ℕ) (at to line : ℕ) (ts : List Token) (us : List TokenV) → slice_range text at to ≡ t → tokens_of text ts ≡ us
    → tokens_of text (with_span o at to line ts) ≡ before_tokens o t line us
span_one None text t at to line ts us is go = go
span_one (Some k) text t at to line ts us is go = rw (is, go) refl

-- the spans have the bytes of the pieces
pub spans_spell : (ps : List Piece) (text before : List ℕ) (at line : ℕ) → text ≡ before ++ bytes_of ps → at ≡ length before → tokens_of text (spans at line ps) ≡ tokens_from line ps
spans_spell [] text before at line whole place = refl
spans_spell (p ∷ ps) text before at line whole place =
    let t = spelled p in
    let slice : slice_range text at (at + length t) ≡ t = ap (λ (x : List ℕ). slice_range x at (at + length t)) whole ∙ part before t (bytes_of ps) at (at + length t) place refl in
    let go = spans_spell ps text (before ++ t) (at + length t) (line_behind line p) (whole ∙ sym (append_assoc before t (bytes_of ps))) (omega (arith, length-append before t)) in
    span_one (kind_of p) text t at (at + length t) line (spans (at + length t) (line_behind line p) ps) (tokens_from (line_behind line p) ps) slice go
