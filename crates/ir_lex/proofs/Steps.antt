-- The tokens of a text, a piece at a time.
use Rattle.std.proofs.Common.{◌≡◌, ℕ, zero, suc, ◌+◌, ◌-◌, ◌<◌, ◌≤◌, Bool, true, false, cond, List, [], ◌∷◌, ◌++◌, length, drop, get_or, None, refl, sym, ap, ◌∙◌, append_assoc, arith}
use Rattle.std.specs.List.{prefix_len}
use Rattle.std.proofs.Math.Seq.{drop-cons}
use Rattle.std.proofs.lemmas.Bool.Decides.{nat_tests}
use Rattle.std.proofs.Math.ListN.{drop_of_length-le}
use Rattle.std.proofs.lemmas.List.{append-nil, drop-drop}
use Rattle.ir_lex.specs.declared.token.Token.{Token}
use Rattle.ir_lex.specs.declared.token.TokenKind.{TokenKind}
use Rattle.ir_lex.specs.declared.token.Cause.{Cause}
use Rattle.ir_lex.specs.declared.token.Lexed.{Lexed}
use Rattle.ir_lex.specs.declared.token.Form.TheVariants as form
use Rattle.ir_lex.specs.declared.token.Piece.TheVariants as piece
use Rattle.ir_lex.specs.Lexing.{with_token, faulty, line_after, piece_of, lexed_from, lexed}

-- tokens in front of others
abbrev pub onto : List Token → Lexed → Lexed
onto front x = record { tokens = front ++ x.tokens; fault = x.fault }

pub pass : (text : List ℕ) (n at line : ℕ) → lexed_from text n at line ≡ lexed_from (drop n text) 0 (at + n) line
unfolding lexed_from
pass [] zero at line = refl
pass [] (suc n) at line = refl
pass (b ∷ rest) zero at line = let e : at + 0 ≡ at = omega arith in rw e refl
pass (b ∷ rest) (suc n) at line =
    let e : at + 1 + n ≡ at + suc n = omega arith in
    rw (← e) (pass rest n (at + 1) line)

pub gap_front : (b n at line : ℕ) (rest : List ℕ) → piece_of (b ∷ rest) ≡ piece.Found form.Gap n → 0 < n → lexed_from (b ∷ rest) 0 at line ≡ lexed_from (drop n (b ∷ rest)) 0 (at + n) (line_after line b)
unfolding lexed_from
gap_front b zero at line rest is pos = absurd (omega arith)
gap_front b (suc n) at line rest is pos =
    let e : at + 1 + n ≡ at + suc n = omega arith in
    let f : suc n - 1 ≡ n = omega arith in
    rw (is, f, ← e) (pass rest n (at + 1) (line_after line b))

pub token_front : (b n at line : ℕ) (rest : List ℕ) (kind : TokenKind) → piece_of (b ∷ rest) ≡ piece.Found (form.Token kind) n → 0 < n
    → lexed_from (b ∷ rest) 0 at line ≡ with_token (record { kind = kind; from = at; to = at + n; line = line }) (lexed_from (drop n (b ∷ rest)) 0 (at + n) line)
unfolding lexed_from
token_front b zero at line rest kind is pos = absurd (omega arith)
token_front b (suc n) at line rest kind is pos =
    let e : at + 1 + n ≡ at + suc n = omega arith in
    let f : suc n - 1 ≡ n = omega arith in
    rw (is, f, ← e) (ap (with_token (record { kind = kind; from = at; to = at + 1 + n; line = line })) (pass rest n (at + 1) line))

pub bad_front : (b at line : ℕ) (rest : List ℕ) (cause : Cause) → piece_of (b ∷ rest) ≡ piece.Bad cause → lexed_from (b ∷ rest) 0 at line ≡ faulty [] line cause
unfolding lexed_from
bad_front b at line rest cause is = rw is refl

later : (text : List ℕ) (at n : ℕ) → drop n (drop at text) ≡ drop (at + n) text
later text at n = drop-drop n at text

-- what a loop keeps
pub gap_step : (text : List ℕ) (front : List Token) (at n line : ℕ) (all : Lexed) → at < length text → piece_of (drop at text) ≡ piece.Found form.Gap n → 0 < n
    → onto front (lexed_from (drop at text) 0 at line) ≡ all → onto front (lexed_from (drop (at + n) text) 0 (at + n) (line_after line (get_or text at 0))) ≡ all
gap_step text front at n line all lt is pos so_far =
    let d : drop at text ≡ get_or text at 0 ∷ drop (suc at) text = drop-cons text at 0 lt in
    let one = gap_front (get_or text at 0) n at line (drop (suc at) text) (ap piece_of (sym d) ∙ is) pos in
    let two : lexed_from (drop at text) 0 at line ≡ lexed_from (drop (at + n) text) 0 (at + n) (line_after line (get_or text at 0)) =
    ap (λ (t : List ℕ). lexed_from t 0 at line) d ∙ one ∙ ap (λ (t : List ℕ). lexed_from t 0 (at + n) (line_after line (get_or text at 0))) (ap (drop n) (sym d) ∙ later text at n) in
    ap (onto front) (sym two) ∙ so_far

pub token_step : (text : List ℕ) (front : List Token) (at n line : ℕ) (kind : TokenKind) (all : Lexed) → at < length text → piece_of (drop at text) ≡ piece.Found (form.Token kind) n → 0 < n
    → onto front (lexed_from (drop at text) 0 at line) ≡ all
    → onto (front ++ record { kind = kind; from = at; to = at + n; line = line } ∷ []) (lexed_from (drop (at + n) text) 0 (at + n) line) ≡ all
token_step text front at n line kind all lt is pos so_far =
    let d : drop at text ≡ get_or text at 0 ∷ drop (suc at) text = drop-cons text at 0 lt in
    let t : Token = record { kind = kind; from = at; to = at + n; line = line } in
    let one = token_front (get_or text at 0) n at line (drop (suc at) text) kind (ap piece_of (sym d) ∙ is) pos in
    let two : lexed_from (drop at text) 0 at line ≡ with_token t (lexed_from (drop (at + n) text) 0 (at + n) line) =
    ap (λ (x : List ℕ). lexed_from x 0 at line) d ∙ one ∙ ap (λ (x : List ℕ). with_token t (lexed_from x 0 (at + n) line)) (ap (drop n) (sym d) ∙ later text at n) in
    ap (λ (x : List Token). record { tokens = x; fault = (lexed_from (drop (at + n) text) 0 (at + n) line).fault }) (append_assoc front (t ∷ []) _) ∙ ap (onto front) (sym two) ∙ so_far

pub bad_step : (text : List ℕ) (front : List Token) (at line : ℕ) (cause : Cause) (all : Lexed) → at < length text → piece_of (drop at text) ≡ piece.Bad cause
    → onto front (lexed_from (drop at text) 0 at line) ≡ all → faulty front line cause ≡ all
bad_step text front at line cause all lt is so_far =
    let d : drop at text ≡ get_or text at 0 ∷ drop (suc at) text = drop-cons text at 0 lt in
    let one = bad_front (get_or text at 0) at line (drop (suc at) text) cause (ap piece_of (sym d) ∙ is) in
    let two : lexed_from (drop at text) 0 at line ≡ faulty [] line cause = ap (λ (x : List ℕ). lexed_from x 0 at line) d ∙ one in
    ap (λ (x : List Token). faulty x line cause) (sym (append-nil front)) ∙ ap (onto front) (sym two) ∙ so_far

pub end_step : (text : List ℕ) (front : List Token) (at line : ℕ) (all : Lexed) → length text ≤ at → onto front (lexed_from (drop at text) 0 at line) ≡ all → record { tokens = front; fault = None } ≡ all
unfolding lexed_from
end_step text front at line all le so_far =
    let d : drop at text ≡ [] = drop_of_length-le text le in
    let two : lexed_from (drop at text) 0 at line ≡ record { tokens = []; fault = None } = ap (λ (x : List ℕ). lexed_from x 0 at line) d in
    ap (λ (x : List Token). record { tokens = x; fault = None }) (sym (append-nil front)) ∙ ap (onto front) (sym two) ∙ so_far

pub line_after-le : (line b : ℕ) → line_after line b ≤ line + 1
line_after-le line b = grind (arith, nat_tests)

pub starts : (text : List ℕ) → onto [] (lexed_from text 0 0 1) ≡ lexed text
unfolding lexed
starts text = refl

later_cond : (t : Bool) (n k m : ℕ) → suc n ≤ cond t (1 + k) 0 → (n ≤ k → n + m ≡ k) → suc n + m ≡ cond t (1 + k) 0
later_cond true n k m le go = let e = go (omega arith) in omega arith
later_cond false n k m le go = absurd (omega arith)

prefix_later : (p : ℕ → Bool) (xs : List ℕ) (n : ℕ) → n ≤ prefix_len p xs → n + prefix_len p (drop n xs) ≡ prefix_len p xs
prefix_later p xs zero le = omega arith
prefix_later p [] (suc n) le = absurd (omega arith)
prefix_later p (x ∷ xs) (suc n) le = later_cond (p x) n (prefix_len p xs) (prefix_len p (drop n xs)) le (λ h. prefix_later p xs n h)

-- the end of a run is known until it is passed
pub run_stays : (p : ℕ → Bool) (text : List ℕ) (at n known : ℕ) → known ≡ at + prefix_len p (drop at text) → at + n < known → known ≡ at + n + prefix_len p (drop (at + n) text)
run_stays p text at n known is lt =
    let e : n + prefix_len p (drop n (drop at text)) ≡ prefix_len p (drop at text) = prefix_later p (drop at text) n (omega arith) in
    let f : n + prefix_len p (drop (at + n) text) ≡ prefix_len p (drop at text) = rw later at e in
    omega arith
