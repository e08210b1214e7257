-- A text has no more tokens than bytes.
use Rattle.std.proofs.Common.{◌≤◌, ℕ, zero, suc, ◌+◌, ◌-◌, length, Bool, true, false, cond, List, [], ◌∷◌, arith}
use Rattle.std.proofs.lemmas.List.{length-map}
use Rattle.ir_lex.specs.declared.token.Form.TheVariants as form
use Rattle.ir_lex.specs.declared.token.Lexed.{Lexed}
use Rattle.ir_lex.specs.declared.token.Piece.{Piece}
use Rattle.ir_lex.specs.declared.token.Piece.TheVariants as piece
use Rattle.ir_lex.specs.declared.token.Token.{Token}
use Rattle.ir_lex.specs.Lexing.{line_after, piece_of, piece_then, lexed_from, lexed}
use Rattle.ir_text.specs.Tokens.{token_of}
use Rattle.ir_grammar.specs.Texts.{is_over, kept_from, without_records, read_tokens}

piece_few : (p : Piece) (b at line m : ℕ) (go_on : ℕ → ℕ → Lexed) → ((n after : ℕ) → length (go_on n after).tokens ≤ m) → length (piece_then p b at line go_on).tokens ≤ suc m
piece_few (piece.Found form.Gap n) b at line m go_on few = let less = few (n - 1) (line_after line b) in omega arith
piece_few (piece.Found (form.Token k) n) b at line m go_on few = let less = few (n - 1) line in omega arith
piece_few (piece.Bad why) b at line m go_on few = omega arith

tokens_few : (bytes : List ℕ) (passing at line : ℕ) → length (lexed_from bytes passing at line).tokens ≤ length bytes
unfolding lexed_from
tokens_few [] passing at line = omega arith
tokens_few (b ∷ rest) (suc n) at line = let less = tokens_few rest n (at + 1) line in omega arith
tokens_few (b ∷ rest) zero at line = piece_few (piece_of (b ∷ rest)) b at line (length rest) (λ n after. lexed_from rest n (at + 1) after) (λ n after. tokens_few rest n (at + 1) after)

kept_by : (b : Bool) (t : Token) (n : ℕ) (over kept : List Token) → length over ≤ n → length kept ≤ n → length (cond b over (t ∷ kept)) ≤ suc n
kept_by true t n over kept h g = omega arith
kept_by false t n over kept h g = omega arith

kept_few : (text : List ℕ) (line : ℕ) (passed : Bool) (tokens : List Token) → length (kept_from text line passed tokens) ≤ length tokens
unfolding kept_from
kept_few text line passed [] = omega arith
kept_few text line passed (t ∷ rest) =
    kept_by (is_over text line passed (t ∷ rest)) t (length rest) (kept_from text t.line true rest) (kept_from text t.line false rest) (kept_few text t.line true rest) (kept_few text t.line false rest)

pub read_few : (text : List ℕ) → length (read_tokens text) ≤ length text
unfolding read_tokens lexed
read_few text =
    let all = lexed_from text 0 0 1 in
    let one = tokens_few text 0 0 1 in
    let two = kept_few text 0 false all.tokens in
    omega (arith, length-map (without_records text all.tokens) (token_of text))
