-- The tokens of a text are within the limits, and there are no more than bytes.
use Rattle.std.proofs.Common.{◌≡◌, ℕ, zero, suc, ◌+◌, ◌-◌, ◌<◌, ◌≤◌, Bool, true, false, cond, List, [], ◌∷◌, ◌++◌, length, take, slice_range, None, refl, sym, ap, subst, ◌∙◌, arith, take_at, drop_at, append_assoc, length-append}
use Rattle.std.specs.Prelude.{All}
use Rattle.std.proofs.lemmas.List.{length-map}
use Rattle.std.proofs.lemmas.List.Elements.{All-nil, All-cons, All-head, All-tail, All-map, All-weaker, All-take, All-drop}
use Rattle.std.proofs.lemmas.Slice.{between_is}
use Rattle.ir_lex.specs.declared.token.Form.{Form}
use Rattle.ir_lex.specs.declared.token.Form.TheVariants as form
use Rattle.ir_lex.specs.declared.token.Piece.{Piece}
use Rattle.ir_lex.specs.declared.token.Piece.TheVariants as piece
use Rattle.ir_lex.specs.declared.token.Token.{Token}
use Rattle.ir_lex.specs.Cut.{Part, joined, AreLongest, newlines, token_at, tokens_at}
use Rattle.ir_lex.specs.Lexing.{lexed, lexed_from, piece_of, piece_then, line_after}
use Rattle.ir_lex.specs.Spelling.{limit_of}
use Rattle.ir_lex.proofs.Wholes.{cut_whole}
use Rattle.ir_text.specs.Tokens.{token_of}
use Rattle.ir_grammar.specs.Texts.{is_over, kept_from, without_records, read_tokens}
use Rattle.print_tokens.specs.Standing.{AreBytes}
use Rattle.print_values.specs.Printed.{IsSound, AreSound}

-- what is kept of them
module _ (text : List ℕ) where
  all_one : (P : Token → Type 0) (t : Token) (b : Bool) (xs ys : List Token) → P t → All P xs → All P ys → All P (cond b xs (t ∷ ys))
  all_one P t true xs ys p h k = h
  all_one P t false xs ys p h k = All-cons P t ys p k

  kept_all : (P : Token → Type 0) (line : ℕ) (passed : Bool) (ts : List Token) → All P ts → All P (kept_from text line passed ts)
  unfolding kept_from
  kept_all P line passed [] h = h
  kept_all P line passed (t ∷ rest) h =
      all_one P t (is_over text line passed (t ∷ rest)) (kept_from text t.line true rest) (kept_from text t.line false rest) (All-head P t rest h)
      (kept_all P t.line true rest (All-tail P t rest h)) (kept_all P t.line false rest (All-tail P t rest h))

  few_one : (t : Token) (b : Bool) (xs ys : List Token) (n : ℕ) → length xs ≤ n → length ys ≤ n → length (cond b xs (t ∷ ys)) ≤ suc n
  few_one t true xs ys n h k = omega arith
  few_one t false xs ys n h k = omega arith

  kept_few : (line : ℕ) (passed : Bool) (ts : List Token) → length (kept_from text line passed ts) ≤ length ts
  unfolding kept_from
  kept_few line passed [] = omega arith
  kept_few line passed (t ∷ rest) =
      few_one t (is_over text line passed (t ∷ rest)) (kept_from text t.line true rest) (kept_from text t.line false rest) (length rest) (kept_few t.line true rest) (kept_few t.line false rest)

-- ---- no more tokens than bytes

fewer_by : (p : Piece) (b : ℕ) (rest : List ℕ) (at line : ℕ) → ((n after : ℕ) → length (lexed_from rest n (at + 1) after).tokens ≤ length rest)
    → length (piece_then p b at line (λ n after. lexed_from rest n (at + 1) after)).tokens ≤ suc (length rest)
fewer_by (piece.Found form.Gap n) b rest at line few = let h = few (n - 1) (line_after line b) in omega arith
fewer_by (piece.Found (form.Token k) n) b rest at line few = let h = few (n - 1) line in omega arith
fewer_by (piece.Bad why) b rest at line few = omega arith

fewer : (bs : List ℕ) (passing at line : ℕ) → length (lexed_from bs passing at line).tokens ≤ length bs
unfolding lexed_from
fewer [] passing at line = omega arith
fewer (b ∷ rest) (suc n) at line = let few = fewer rest n (at + 1) line in omega arith
fewer (b ∷ rest) zero at line = fewer_by (piece_of (b ∷ rest)) b rest at line (λ n after. fewer rest n (at + 1) after)

-- ---- within the limits

abbrev InLimits : List ℕ → Token → Type 0
InLimits text t = limit_of (form.Token t.kind) (slice_range text t.from t.to) ≡ None

part : (before word rest : List ℕ) (i j : ℕ) → i ≡ length before → j ≡ i + length word → slice_range (before ++ (word ++ rest)) i j ≡ word
part before word rest i j at to =
    let n : j - i ≡ length word = omega arith in
    rw (n, drop_at before (word ++ rest) i (sym at)) (take_at word rest (length word) refl)

part_in : (f : Form) (bytes text before more : List ℕ) (at line : ℕ) (ts : List Token) → text ≡ before ++ (bytes ++ more) → at ≡ length before → limit_of f bytes ≡ None
    → All (InLimits text) ts → All (InLimits text) (token_at f at (at + length bytes) line ts)
part_in form.Gap bytes text before more at line ts e a limits h = h
part_in (form.Token k) bytes text before more at line ts e a limits h =
    let slice : slice_range text at (at + length bytes) ≡ bytes = ap (λ (x : List ℕ). slice_range x at (at + length bytes)) e ∙ part before bytes more at (at + length bytes) a refl in
    All-cons (InLimits text) (record { kind = k; from = at; to = at + length bytes; line = line }) ts (ap (limit_of (form.Token k)) slice ∙ limits) h

parts_in : (ps : List Part) (rest text before : List ℕ) (at line : ℕ) → text ≡ before ++ joined ps rest → at ≡ length before → AreLongest ps rest → All (InLimits text) (tokens_at at line ps)
parts_in [] rest text before at line e a h = All-nil (InLimits text)
parts_in (p ∷ ps) rest text before at line e a h =
    let behind : text ≡ (before ++ p.bytes) ++ joined ps rest = e ∙ sym (append_assoc before p.bytes (joined ps rest)) in
    part_in p.form p.bytes text before (joined ps rest) at line (tokens_at (at + length p.bytes) (line + newlines p.bytes) ps) e a h.0.limits
    (parts_in ps rest text (before ++ p.bytes) (at + length p.bytes) (line + newlines p.bytes) behind (omega (arith, a, length-append before p.bytes)) h.1)

pub tokens_in : (text : List ℕ) → All (InLimits text) (lexed text).tokens
tokens_in text =
    let c = (cut_whole text).1 in
    subst (All (InLimits text)) c.among (parts_in c.parts (cut_whole text).0 text [] 0 1 (sym c.whole) refl c.longest)

-- ---- both

sliced : (text : List ℕ) (from to : ℕ) → AreBytes text → AreBytes (slice_range text from to)
sliced text from to h = subst AreBytes (sym (between_is text from to)) (All-drop (λ b. b < 256) from (take to text) (All-take (λ b. b < 256) to text h))

pub sound_tokens : (text : List ℕ) → AreBytes text → AreSound (read_tokens text)
unfolding read_tokens
sound_tokens text bytes = All-map IsSound (token_of text) (without_records text (lexed text).tokens)
    (kept_all text (λ t. IsSound (token_of text t)) 0 false (lexed text).tokens
    (All-weaker (InLimits text) (λ t. IsSound (token_of text t)) (λ t is. record { limits = is; bytes = sliced text t.from t.to bytes }) (lexed text).tokens (tokens_in text)))

pub few_tokens : (text : List ℕ) → length (read_tokens text) ≤ length text
unfolding read_tokens lexed
few_tokens text =
    let many : length (read_tokens text) ≡ length (without_records text (lexed text).tokens) = length-map (without_records text (lexed text).tokens) (token_of text) in
    let kept = kept_few text 0 false (lexed text).tokens in
    let few = fewer text 0 0 1 in
    omega arith
