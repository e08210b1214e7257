-- How pieces that stand behind one another are tokens, spell and stand together.
use Rattle.std.proofs.Common.{◌≡◌, ℕ, Bool, true, false, List, [], ◌∷◌, ◌++◌, Option, Some, None, Ok, refl, sym, ap, subst, ◌∙◌, append_assoc}
use Rattle.std.specs.Prelude.{not, ◌||◌}
use Rattle.std.specs.List.{list_all}
use Rattle.std.proofs.lemmas.Bool.{and_parts, and_from, or_left, or_right}
use Rattle.std.proofs.lemmas.List.{append-nil}
use Rattle.std.proofs.lemmas.List.Elements.{All-nil, All-cons, All-head, All-tail, All-append}
use Rattle.ir_lex.specs.declared.token.TokenKind.{TokenKind}
use Rattle.ir_text.specs.Tokens.{TokenV}
use Rattle.ir_text.specs.Reading.{Meaning}
use Rattle.ir_text.specs.Spelled.{Spelling, InTurn, one_token}
use Rattle.ir_text.specs.Repeated.{Both}
use Rattle.ir_printer.specs.Pieces.{Piece, Blank, Mark, comma, led, separated, within, spelled}
use Rattle.print_tokens.specs.Tokens.{kind_of, with_token, tokens_on}
use Rattle.print_tokens.specs.Standing.{PieceFits, needs_end, begins_end, apart, is_line_end, is_type_word, Inline}
use Rattle.print_values.specs.Printed.{IsSound, AreSound, Printed}

-- ---- tokens

pub token_before : (k : Option TokenKind) (text : List ℕ) (line : ℕ) (ts us : List TokenV) → with_token k text line (ts ++ us) ≡ with_token k text line ts ++ us
token_before None text line ts us = refl
token_before (Some k) text line ts us = refl

-- the tokens of pieces, and then those of the pieces behind them
pub tokens_append : (line : ℕ) (ps qs : List Piece) → tokens_on line (ps ++ qs) ≡ tokens_on line ps ++ tokens_on line qs
tokens_append line [] qs = refl
tokens_append line (p ∷ ps) qs = ap (with_token (kind_of p) (spelled p) line) (tokens_append line ps qs) ∙ token_before (kind_of p) (spelled p) line (tokens_on line ps) (tokens_on line qs)

-- ---- sound tokens

pub sound_front : (xs ys : List TokenV) → AreSound (xs ++ ys) → AreSound xs
sound_front [] ys s = All-nil IsSound
sound_front (x ∷ xs) ys s = All-cons IsSound x xs (All-head IsSound x (xs ++ ys) s) (sound_front xs ys (All-tail IsSound x (xs ++ ys) s))

pub sound_rest : (xs ys : List TokenV) → AreSound (xs ++ ys) → AreSound ys
sound_rest [] ys s = s
sound_rest (x ∷ xs) ys s = sound_rest xs ys (All-tail IsSound x (xs ++ ys) s)

pub sound_same : (ws us : List TokenV) → ws ≡ us → AreSound ws → AreSound us
sound_same ws us e s = subst AreSound e s

-- the first of some tokens, and the others
pub both_front : {first others : List TokenV → Type 0} {ws : List TokenV} → AreSound ws → (b : Both first others ws) → AreSound b.front
both_front s b = sound_front b.front b.rest (subst AreSound b.parts s)

pub both_rest : {first others : List TokenV → Type 0} {ws : List TokenV} → AreSound ws → (b : Both first others ws) → AreSound b.rest
both_rest s b = sound_rest b.front b.rest (subst AreSound b.parts s)

pub turn_front : {A B : Type 0} {first : Spelling A} {others : A → Spelling B} {x : B} {ws : List TokenV} → AreSound ws → (b : InTurn first others x ws) → AreSound b.front
turn_front s b = sound_front b.front b.rest (subst AreSound b.parts s)

pub turn_rest : {A B : Type 0} {first : Spelling A} {others : A → Spelling B} {x : B} {ws : List TokenV} → AreSound ws → (b : InTurn first others x ws) → AreSound b.rest
turn_rest s b = sound_rest b.front b.rest (subst AreSound b.parts s)

-- the one token
pub one_sound : {A : Type 0} {means : Meaning A} {a : A} {ws : List TokenV} → AreSound ws → (o : one_token means a ws) → IsSound o.token
one_sound s o = All-head IsSound o.token [] (subst AreSound o.parts s)

-- ---- printed pieces

-- what is spelled by the tokens of the first pieces and those of the pieces behind them
pub spelled_append : {first others : List TokenV → Type 0} (ps qs : List Piece) → ((line : ℕ) → first (tokens_on line ps)) → ((line : ℕ) → others (tokens_on line qs)) → (line : ℕ) → Both first others (tokens_on line (ps ++ qs))
spelled_append ps qs f g line = record { front = tokens_on line ps; rest = tokens_on line qs; parts = tokens_append line ps qs; first_spells = f line; rest_spells = g line }

pub printed_both : {first others : List TokenV → Type 0} (ps qs : List Piece) → Printed first ps → Printed others qs → Printed (Both first others) (ps ++ qs)
printed_both ps qs a b = record { spelled = spelled_append ps qs a.spelled b.spelled; fits = All-append PieceFits ps qs a.fits b.fits }

pub printed_turn : {A B : Type 0} {first : Spelling A} {others : A → Spelling B} {x : B} (a : A) (ps qs : List Piece) → Printed (first a) ps → Printed (others a x) qs → Printed (InTurn first others x) (ps ++ qs)
printed_turn a ps qs f g = record {
  spelled = λ line. record { value = a; front = tokens_on line ps; rest = tokens_on line qs; parts = tokens_append line ps qs; first_spells = f.spelled line; rest_spells = g.spelled line };
  fits = All-append PieceFits ps qs f.fits g.fits;
}

-- the same of pieces with nothing behind them
pub printed_last : {A B : Type 0} {first : Spelling A} {others : A → Spelling B} {x : B} (a : A) (ps : List Piece) → Printed (first a) ps → others a x [] → Printed (InTurn first others x) ps
printed_last a ps f g = record {
  spelled = λ line. record { value = a; front = tokens_on line ps; rest = []; parts = sym (append-nil (tokens_on line ps)); first_spells = f.spelled line; rest_spells = g };
  fits = f.fits;
}

-- no pieces
pub printed_none : {s : List TokenV → Type 0} → s [] → Printed s []
printed_none e = record { spelled = λ line. e; fits = All-nil PieceFits }

-- no pieces before others
pub printed_skip : {first others : List TokenV → Type 0} (qs : List Piece) → first [] → Printed others qs → Printed (Both first others) qs
printed_skip qs e b = printed_both [] qs (printed_none e) b

-- a blank before them is no token
pub printed_blank : {s : List TokenV → Type 0} (ps : List Piece) → Printed s ps → Printed s (Blank ∷ ps)
printed_blank ps a = record { spelled = a.spelled; fits = All-cons PieceFits Blank ps tt a.fits }

-- the same tokens spell something else too
pub printed_as : {s q : List TokenV → Type 0} (ps : List Piece) → ((ws : List TokenV) → s ws → q ws) → Printed s ps → Printed q ps
printed_as ps to a = record { spelled = λ line. to (tokens_on line ps) (a.spelled line); fits = a.fits }

-- one piece that is a token
pub printed_one : {A : Type 0} {means : Meaning A} {a : A} (p : Piece) (k : TokenKind) → kind_of p ≡ Some k → PieceFits p → ((line : ℕ) → means (record { kind = k; text = spelled p; line = line }) ≡ Ok a) → Printed (one_token means a) (p ∷ [])
printed_one p k e fits is = record {
  spelled = λ line. record { token = record { kind = k; text = spelled p; line = line }; parts = ap (λ (o : Option TokenKind). with_token o (spelled p) line []) e; is = is line };
  fits = All-cons PieceFits p [] fits (All-nil PieceFits);
}

-- ---- pieces inside a line

-- what ends a token, before what ends one
pub ends_append : (qs rs : List Piece) → begins_end qs ≡ true → begins_end rs ≡ true → begins_end (qs ++ rs) ≡ true
ends_append [] rs e f = f
ends_append (q ∷ qs) rs e f = e

pub inline_none : Inline []
inline_none = record { one_line = refl; untyped = refl; stands = λ qs e f. f }

-- a piece that needs no end, before others
pub inline_closed : (p : Piece) (qs : List Piece) → is_line_end p ≡ false → is_type_word p ≡ false → needs_end p ≡ false → Inline qs → Inline (p ∷ qs)
inline_closed p qs line word closed i = record {
  one_line = and_from (not (is_line_end p)) _ (ap not line) i.one_line;
  untyped = and_from (not (is_type_word p)) _ (ap not word) i.untyped;
  stands = λ rs e f. and_from (not (needs_end p) || begins_end (qs ++ rs)) (apart (qs ++ rs)) (or_left (not (needs_end p)) _ (ap not closed)) (i.stands rs e f);
}

-- a piece before others that begin with what ends a token
pub inline_open : (p : Piece) (qs : List Piece) → is_line_end p ≡ false → is_type_word p ≡ false → begins_end qs ≡ true → Inline qs → Inline (p ∷ qs)
inline_open p qs line word ends i = record {
  one_line = and_from (not (is_line_end p)) _ (ap not line) i.one_line;
  untyped = and_from (not (is_type_word p)) _ (ap not word) i.untyped;
  stands = λ rs e f. and_from (not (needs_end p) || begins_end (qs ++ rs)) (apart (qs ++ rs)) (or_right (not (needs_end p)) _ (ends_append qs rs ends e)) (i.stands rs e f);
}

-- one piece
pub inline_one : (p : Piece) → is_line_end p ≡ false → is_type_word p ≡ false → Inline (p ∷ [])
inline_one p line word = inline_open p [] line word refl inline_none

all_append : (test : Piece → Bool) (ps qs : List Piece) → list_all test ps ≡ true → list_all test qs ≡ true → list_all test (ps ++ qs) ≡ true
all_append test [] qs a b = b
all_append test (p ∷ ps) qs a b = let h = and_parts (test p) (list_all test ps) a in and_from (test p) (list_all test (ps ++ qs)) h.0 (all_append test ps qs h.1 b)

-- pieces before others that begin with what ends a token
pub inline_append : (ps qs : List Piece) → begins_end qs ≡ true → Inline ps → Inline qs → Inline (ps ++ qs)
inline_append ps qs ends i j = record {
  one_line = all_append (λ p. not (is_line_end p)) ps qs i.one_line j.one_line;
  untyped = all_append (λ p. not (is_type_word p)) ps qs i.untyped j.untyped;
  stands = λ rs e f. subst (λ (us : List Piece). apart us ≡ true) (sym (append_assoc ps qs rs)) (i.stands (qs ++ rs) (ends_append qs rs ends e) (j.stands rs e f));
}

-- a blank before them
pub inline_blank : (qs : List Piece) → Inline qs → Inline (Blank ∷ qs)
inline_blank qs i = inline_closed Blank qs refl refl refl i

-- pieces, a blank and others
pub inline_apart : (ps qs : List Piece) → Inline ps → Inline qs → Inline (ps ++ Blank ∷ qs)
inline_apart ps qs i j = inline_append ps (Blank ∷ qs) refl i (inline_blank qs j)

-- a comma and a blank before them
pub inline_comma : (qs : List Piece) → Inline qs → Inline (comma ++ qs)
inline_comma qs i = inline_closed (Mark 44) (Blank ∷ qs) refl refl refl (inline_blank qs i)

-- each of some pieces stands inside a line
abbrev pub AllInline : List (List Piece) → Type 0
AllInline [] = Unit {0}
AllInline (ps ∷ all) = Inline ps × AllInline all

pub led_ends : (all : List (List Piece)) → begins_end (led all) ≡ true
led_ends [] = refl
led_ends (ps ∷ all) = refl

pub inline_led : (all : List (List Piece)) → AllInline all → Inline (led all)
inline_led [] i = inline_none
inline_led (ps ∷ all) i = inline_comma (ps ++ led all) (inline_append ps (led all) (led_ends all) i.0 (inline_led all i.1))

pub inline_separated : (all : List (List Piece)) → AllInline all → Inline (separated all)
inline_separated [] i = inline_none
inline_separated (ps ∷ all) i = inline_append ps (led all) (led_ends all) i.0 (inline_led all i.1)

pub within_ends : (behind : Bool) (all : List (List Piece)) → begins_end (within behind all) ≡ true
within_ends false [] = refl
within_ends true [] = refl
within_ends false (ps ∷ all) = refl
within_ends true (ps ∷ all) = refl

pub inline_within : (behind : Bool) (all : List (List Piece)) → AllInline all → Inline (within behind all)
inline_within false [] i = inline_none
inline_within true [] i = inline_blank [] inline_none
inline_within false (ps ∷ all) i = inline_blank (ps ++ within true all) (inline_append ps (within true all) (within_ends true all) i.0 (inline_within true all i.1))
inline_within true (ps ∷ all) i = inline_comma (ps ++ within true all) (inline_append ps (within true all) (within_ends true all) i.0 (inline_within true all i.1))
