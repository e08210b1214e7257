-- The tokens of printed lines, and how those of parts are put together.
use Rattle.std.proofs.Common.{◌≡◌, ℕ, true, List, [], ◌∷◌, ◌++◌, Option, Some, None, refl, sym, ap, subst, ◌∙◌}
use Rattle.std.specs.Prelude.{not, map}
use Rattle.std.specs.List.{list_all}
use Rattle.std.proofs.lemmas.Bool.{and_parts}
use Rattle.std.proofs.lemmas.List.{append-nil}
use Rattle.std.proofs.lemmas.List.Elements.{All-nil, All-cons, All-append, All-head, All-tail}
use Rattle.ir_lex.specs.declared.token.TokenKind.{TokenKind}
use Rattle.ir_text.specs.Tokens.{TokenV}
use Rattle.ir_text.specs.Repeated.{each_under}
use Rattle.ir_text.specs.Spelled.{Spelling}
use Rattle.ir_text.specs.TypeSpelled.{◌▸◌}
use Rattle.ir_printer.specs.Pieces.{Piece, Blank, LineEnd, Word, Mark, Dots, Global, Local, Label, Number, Quote, spelled, joined}
use Rattle.print_tokens.specs.Tokens.{kind_of, with_token, tokens_on, line_behind, tokens_from}
use Rattle.print_tokens.specs.Standing.{PieceFits, is_line_end}
use Rattle.print_values.specs.Printed.{IsSound, AreSound, Printed}
use Rattle.print_functions.specs.Lines.{PrintedLines}

-- ---- tokens of pieces behind others

with_append : (k : Option TokenKind) (text : List ℕ) (line : ℕ) (ts us : List TokenV) → with_token k text line (ts ++ us) ≡ with_token k text line ts ++ us
with_append None text line ts us = refl
with_append (Some k) text line ts us = refl

-- the line behind pieces
line_after : ℕ → List Piece → ℕ
line_after line [] = line
line_after line (p ∷ ps) = line_after (line_behind line p) ps

from_append : (line : ℕ) (ps qs : List Piece) → tokens_from line (ps ++ qs) ≡ tokens_from line ps ++ tokens_from (line_after line ps) qs
unfolding line_after
from_append line [] qs = refl
from_append line (p ∷ ps) qs =
    ap (with_token (kind_of p) (spelled p) line) (from_append (line_behind line p) ps qs)
    ∙ with_append (kind_of p) (spelled p) line (tokens_from (line_behind line p) ps) (tokens_from (line_after (line_behind line p) ps) qs)

same_line : (line : ℕ) (p : Piece) → not (is_line_end p) ≡ true → line_behind line p ≡ line
same_line line Blank e = refl
same_line line LineEnd e = absurd cc
same_line line (Word bs) e = refl
same_line line (Mark b) e = refl
same_line line Dots e = refl
same_line line (Global n) e = refl
same_line line (Local n) e = refl
same_line line (Label n) e = refl
same_line line (Number z) e = refl
same_line line (Quote bs) e = refl

-- pieces of one line
from_one_line : (line : ℕ) (ps : List Piece) → list_all (λ p. not (is_line_end p)) ps ≡ true → tokens_from line ps ≡ tokens_on line ps
from_one_line line [] e = refl
from_one_line line (p ∷ ps) e =
    let parts = and_parts (not (is_line_end p)) (list_all (λ q. not (is_line_end q)) ps) e in
    ap (λ (n : ℕ). with_token (kind_of p) (spelled p) line (tokens_from n ps)) (same_line line p parts.0)
    ∙ ap (with_token (kind_of p) (spelled p) line) (from_one_line line ps parts.1)

-- ---- printed parts

module _ {spells : List TokenV → Type 0} {ps : List Piece} where
  -- what stands inside a line
  pub inside : list_all (λ p. not (is_line_end p)) ps ≡ true → Printed spells ps → PrintedLines spells ps
  inside one_line s = record { spelled = λ line. subst spells (sym (from_one_line line ps one_line)) (s.spelled line); fits = s.fits }

  pub behind_blank : PrintedLines spells ps → PrintedLines spells (Blank ∷ ps)
  behind_blank s = record { spelled = s.spelled; fits = All-cons PieceFits Blank ps tt s.fits }

  pub behind_end : PrintedLines spells ps → PrintedLines spells (LineEnd ∷ ps)
  behind_end s = record { spelled = λ line. s.spelled (line_behind line LineEnd); fits = All-cons PieceFits LineEnd ps tt s.fits }

  pub before_end : PrintedLines spells ps → PrintedLines spells (ps ++ LineEnd ∷ [])
  before_end s = record {
    spelled = λ line. subst spells (sym (from_append line ps (LineEnd ∷ []) ∙ append-nil (tokens_from line ps))) (s.spelled line);
    fits = All-append PieceFits ps (LineEnd ∷ []) s.fits (All-cons PieceFits LineEnd [] tt (All-nil PieceFits));
  }

  -- the same pieces
  pub as_pieces : (qs : List Piece) → ps ≡ qs → PrintedLines spells ps → PrintedLines spells qs
  as_pieces qs e s = subst (PrintedLines spells) e s

  -- what the same tokens spell besides
  pub as_spelled : {others : List TokenV → Type 0} → ((ws : List TokenV) → spells ws → others ws) → PrintedLines spells ps → PrintedLines others ps
  as_spelled to s = record { spelled = λ line. to (tokens_from line ps) (s.spelled line); fits = s.fits }

pub nothing_printed : {spells : List TokenV → Type 0} → spells [] → PrintedLines spells []
nothing_printed s = record { spelled = λ line. s; fits = All-nil PieceFits }

-- some pieces, and then others
pub in_turn : {first others : List TokenV → Type 0} (ps qs : List Piece) → PrintedLines first ps → PrintedLines others qs → PrintedLines (first ▸ others) (ps ++ qs)
in_turn ps qs s t = record {
  spelled = λ line. record {
    front = tokens_from line ps;
    rest = tokens_from (line_after line ps) qs;
    parts = from_append line ps qs;
    first_spells = s.spelled line;
    rest_spells = t.spelled (line_after line ps);
  };
  fits = All-append PieceFits ps qs s.fits t.fits;
}

-- ---- sound tokens

front_of : (front rest : List TokenV) → AreSound (front ++ rest) → AreSound front
front_of [] rest all = All-nil IsSound
front_of (t ∷ front) rest all = All-cons IsSound t front (All-head IsSound t (front ++ rest) all) (front_of front rest (All-tail IsSound t (front ++ rest) all))

rest_of : (front rest : List TokenV) → AreSound (front ++ rest) → AreSound rest
rest_of [] rest all = all
rest_of (t ∷ front) rest all = rest_of front rest (All-tail IsSound t (front ++ rest) all)

pub sound_front : (front rest ws : List TokenV) → ws ≡ front ++ rest → AreSound ws → AreSound front
sound_front front rest ws e all = front_of front rest (subst AreSound e all)

pub sound_rest : (front rest ws : List TokenV) → ws ≡ front ++ rest → AreSound ws → AreSound rest
sound_rest front rest ws e all = rest_of front rest (subst AreSound e all)

pub sound_one : (t : TokenV) (ws : List TokenV) → ws ≡ t ∷ [] → AreSound ws → IsSound t
sound_one t ws e all = All-head IsSound t [] (subst AreSound e all)

-- ---- lists

module _ {S A : Type 0} (item : S → Spelling A) (next : S → A → S) (pieces : A → List Piece) where
  pub each_printed : ((s : S) (a : A) (ws : List TokenV) → AreSound ws → item s a ws → PrintedLines (item s a) (pieces a))
      → (s : S) (all : List A) (ws : List TokenV) → AreSound ws → each_under item next s all ws → PrintedLines (each_under item next s all) (joined (map pieces all))
  each_printed back s [] ws sound e = nothing_printed {spells = each_under item next s []} refl
  each_printed back s (a ∷ all) ws sound e =
      in_turn (pieces a) (joined (map pieces all))
      (back s a e.front (sound_front e.front e.rest ws e.parts sound) e.first_spells)
      (each_printed back (next s a) all e.rest (sound_rest e.front e.rest ws e.parts sound) e.rest_spells)
