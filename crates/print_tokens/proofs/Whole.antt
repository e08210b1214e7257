-- The tokens of a text made of pieces.
use Rattle.std.proofs.Common.{◌≡◌, ℕ, ◌+◌, Bool, true, false, cond, List, [], ◌∷◌, length, refl, ap, ◌∙◌, arith}
use Rattle.std.specs.Prelude.{All, ◌==◌, ◌||◌, not}
use Rattle.std.proofs.lemmas.Bool.{and_parts}
use Rattle.std.proofs.lemmas.Bool.Decides.{nat_tests}
use Rattle.std.proofs.lemmas.List.Elements.{All-head, All-tail}
use Rattle.ir_lex.specs.declared.token.Token.{Token}
use Rattle.ir_lex.specs.declared.token.TokenKind.TheVariants as kind
use Rattle.ir_lex.specs.declared.token.Lexed.{Lexed}
use Rattle.ir_lex.specs.Lexing.{lexed_from, lexed}
use Rattle.ir_text.specs.Tokens.{TokenV, token_of, tokens_of, is_mark}
use Rattle.ir_grammar.specs.Texts.{begins_record, is_over, kept_from, read_tokens}
use Rattle.ir_printer.specs.Pieces.{Piece, Blank, LineEnd, Word, Mark, Dots, Global, Local, Label, Number, Quote, spelled, bytes_of}
use Rattle.print_tokens.specs.Tokens.{tokens_from}
use Rattle.print_tokens.specs.Standing.{PieceFits, is_plain_mark, needs_end, begins_end, apart}
use Rattle.print_tokens.specs.Laws.{PiecesAreRead}
use Rattle.print_tokens.proofs.Ends.{Ends, ends_behind}
use Rattle.print_tokens.proofs.Fronts.{front_blank, front_line_end, front_word, front_mark, front_dots, front_global, front_local, front_name_label, front_integer, front_quote}
use Rattle.print_tokens.proofs.Spans.{spans, faultless, token_ahead, blank_ahead, line_ahead, spans_spell}

-- ---- every piece is a token of its own

-- behind a token that needs an end, the text goes on with one
behind : (p : Piece) (ps : List Piece) → All PieceFits ps → apart (p ∷ ps) ≡ true → needs_end p ≡ true → Ends (bytes_of ps)
behind p ps fits is needs =
    let h = and_parts (not (needs_end p) || begins_end ps) (apart ps) is in
    let e : begins_end ps ≡ true = rw needs at h.0 in
    ends_behind ps (λ q qs same. All-head PieceFits q qs (rw same at fits)) e

apart_rest : (p : Piece) (ps : List Piece) → apart (p ∷ ps) ≡ true → apart ps ≡ true
apart_rest p ps is = (and_parts (not (needs_end p) || begins_end ps) (apart ps) is).1

abbrev Lexes : List Piece → Type 0
Lexes ps = (at line : ℕ) → lexed_from (bytes_of ps) 0 at line ≡ faultless (spans at line ps)

one_piece : (p : Piece) (ps : List Piece) → PieceFits p → (needs_end p ≡ true → Ends (bytes_of ps)) → Lexes ps → Lexes (p ∷ ps)
one_piece Blank ps fit ends go at line = blank_ahead (bytes_of ps) at line (spans (at + 1) line ps) (front_blank (bytes_of ps)) (go (at + 1) line)
one_piece LineEnd ps fit ends go at line = line_ahead (bytes_of ps) at line (spans (at + 1) (line + 1) ps) (front_line_end (bytes_of ps)) (go (at + 1) (line + 1))
one_piece (Word bs) ps fit ends go at line = token_ahead kind.Word bs (bytes_of ps) at line (spans (at + length bs) line ps) (front_word bs (bytes_of ps) fit (ends refl)) (go (at + length bs) line)
one_piece (Mark b) ps fit ends go at line = token_ahead kind.Punct (spelled (Mark b)) (bytes_of ps) at line (spans (at + length (spelled (Mark b))) line ps) (front_mark b (bytes_of ps) fit) (go (at + length (spelled (Mark b))) line)
one_piece Dots ps fit ends go at line = token_ahead kind.Punct (spelled Dots) (bytes_of ps) at line (spans (at + length (spelled Dots)) line ps) (front_dots (bytes_of ps) (ends refl)) (go (at + length (spelled Dots)) line)
one_piece (Global n) ps fit ends go at line = token_ahead kind.GlobalName (spelled (Global n)) (bytes_of ps) at line (spans (at + length (spelled (Global n))) line ps) (front_global n (bytes_of ps) fit (ends refl)) (go (at + length (spelled (Global n))) line)
one_piece (Local n) ps fit ends go at line = token_ahead kind.LocalName (spelled (Local n)) (bytes_of ps) at line (spans (at + length (spelled (Local n))) line ps) (front_local n (bytes_of ps) fit (ends refl)) (go (at + length (spelled (Local n))) line)
one_piece (Label n) ps fit ends go at line = token_ahead kind.Label (spelled (Label n)) (bytes_of ps) at line (spans (at + length (spelled (Label n))) line ps) (front_name_label n (bytes_of ps) fit) (go (at + length (spelled (Label n))) line)
one_piece (Number z) ps fit ends go at line = token_ahead kind.Integer (spelled (Number z)) (bytes_of ps) at line (spans (at + length (spelled (Number z))) line ps) (front_integer z (bytes_of ps) fit (ends refl)) (go (at + length (spelled (Number z))) line)
one_piece (Quote bs) ps fit ends go at line = token_ahead kind.Text (spelled (Quote bs)) (bytes_of ps) at line (spans (at + length (spelled (Quote bs))) line ps) (front_quote bs (bytes_of ps) fit (ends refl)) (go (at + length (spelled (Quote bs))) line)

no_piece : Lexes []
unfolding lexed_from
no_piece at line = refl

lexed_pieces : (ps : List Piece) → All PieceFits ps → apart ps ≡ true → Lexes ps
lexed_pieces [] fits is = no_piece
lexed_pieces (p ∷ ps) fits is =
    let rest = All-tail PieceFits p ps fits in
    one_piece p ps (All-head PieceFits p ps fits) (behind p ps rest is) (lexed_pieces ps rest (apart_rest p ps is))

lexed_whole : (ps : List Piece) → All PieceFits ps → apart ps ≡ true → lexed (bytes_of ps) ≡ faultless (spans 0 1 ps)
unfolding lexed
lexed_whole ps fits is = lexed_pieces ps fits is 0 1

-- ---- no line is passed over

-- no token is the mark that begins a record
abbrev NoRecord : List TokenV → Type 0
NoRecord [] = Unit {0}
NoRecord (t ∷ ts) = (is_mark 35 t ≡ false) × NoRecord ts

plain_no_record : (b : ℕ) (line : ℕ) → is_plain_mark b ≡ true → is_mark 35 (record { kind = kind.Punct; text = b ∷ []; line = line }) ≡ false
unfolding is_plain_mark
plain_no_record b line is = grind (arith, nat_tests)

record_ahead : (p : Piece) (ps : List Piece) → PieceFits p → ((line : ℕ) → NoRecord (tokens_from line ps)) → (line : ℕ) → NoRecord (tokens_from line (p ∷ ps))
record_ahead Blank ps fit go line = go line
record_ahead LineEnd ps fit go line = go (line + 1)
record_ahead (Word bs) ps fit go line = (refl, go line)
record_ahead (Mark b) ps fit go line = (plain_no_record b line fit, go line)
record_ahead Dots ps fit go line = (refl, go line)
record_ahead (Global n) ps fit go line = (refl, go line)
record_ahead (Local n) ps fit go line = (refl, go line)
record_ahead (Label n) ps fit go line = (refl, go line)
record_ahead (Number z) ps fit go line = (refl, go line)
record_ahead (Quote bs) ps fit go line = (refl, go line)

no_record : (ps : List Piece) (line : ℕ) → All PieceFits ps → NoRecord (tokens_from line ps)
no_record [] line fits = tt
no_record (p ∷ ps) line fits = record_ahead p ps (All-head PieceFits p ps fits) (λ line. no_record ps line (All-tail PieceFits p ps fits)) line

begins_none : (text : List ℕ) (t : Token) (ts : List Token) → is_mark 35 (token_of text t) ≡ false → begins_record text (t ∷ ts) ≡ false
begins_none text t [] is = refl
begins_none text t (u ∷ ts) is = rw is refl

same_cond : (here : Bool) → cond here false false ≡ false
same_cond true = refl
same_cond false = refl

over_none : (text : List ℕ) (line : ℕ) (t : Token) (ts : List Token) → is_mark 35 (token_of text t) ≡ false → is_over text line false (t ∷ ts) ≡ false
over_none text line t ts is = rw (begins_none text t ts is) (same_cond (t.line == line))

kept_all : (text : List ℕ) (line : ℕ) (ts : List Token) → NoRecord (tokens_of text ts) → kept_from text line false ts ≡ ts
unfolding kept_from
kept_all text line [] none = refl
kept_all text line (t ∷ ts) none = rw (over_none text line t ts none.0) (ap (λ (x : List Token). t ∷ x) (kept_all text t.line ts none.1))

-- ---- the whole text

read_whole : (ps : List Piece) → All PieceFits ps → apart ps ≡ true → read_tokens (bytes_of ps) ≡ tokens_from 1 ps
unfolding read_tokens
read_whole ps fits is =
    let text = bytes_of ps in
    let tokens : (lexed text).tokens ≡ spans 0 1 ps = ap (λ (x : Lexed). x.tokens) (lexed_whole ps fits is) in
    let spell = spans_spell ps text [] 0 1 refl refl in
    let kept : kept_from text 0 false (spans 0 1 ps) ≡ spans 0 1 ps = kept_all text 0 (spans 0 1 ps) (rw spell (no_record ps 1 fits)) in
    ap (λ (x : List Token). tokens_of text (kept_from text 0 false x)) tokens ∙ ap (tokens_of text) kept ∙ spell

-- pieces that fit and stand apart are the tokens of their text
pub pieces_read : PiecesAreRead
pieces_read ps fits is = record {
  lexical = ap (λ (x : Lexed). x.fault) (lexed_whole ps fits is);
  tokens = read_whole ps fits is;
}
