-- Printing part by part: where tokens spell a part, the tokens of its pieces spell it too.
use Rattle.std.proofs.Common.{List, [], ◌∷◌, ◌++◌, refl, sym, ap, subst, ◌∙◌, append_assoc, append-nil}
use Rattle.std.proofs.lemmas.List.Elements.{All-nil, All-cons, All-append}
use Rattle.ir_text.specs.Tokens.{TokenV}
use Rattle.ir_text.specs.Repeated.{Both}
use Rattle.ir_text.specs.Tails.{some_tails}
use Rattle.ir_printer.specs.Pieces.{Piece, Blank}
use Rattle.print_tokens.specs.Tokens.{tokens_on}
use Rattle.print_tokens.specs.Standing.{PieceFits}
use Rattle.print_values.specs.Printed.{AreSound, Printed}
use Rattle.print_values.proofs.Composing.{tokens_append, both_front, both_rest, printed_both, printed_as, printed_blank, printed_none}

abbrev pub Tokens : Type 1
Tokens = List TokenV → Type 0

-- where tokens spell it, the tokens of the pieces do
pub record Prints (spells : List TokenV → Type 0) (ps : List Piece) : Type 0 where
  pub back : (ws : List TokenV) → AreSound ws → spells ws → Printed spells ps

-- some tokens, and then others
pub also : {a b : Tokens} {ps qs : List Piece} → Prints a ps → Prints b qs → Prints (Both a b) (ps ++ qs)
also {ps = ps} {qs = qs} f g = record {
  back = λ ws sound s.
      printed_both ps qs (f.back s.front (both_front sound s) s.first_spells) (g.back s.rest (both_rest sound s) s.rest_spells);
}

-- ---- the same by another spelling

pub respell : {a b : Tokens} {ps : List Piece} → ((ws : List TokenV) → a ws → b ws) → ((ws : List TokenV) → b ws → a ws) → Prints a ps → Prints b ps
respell {ps = ps} to from f = record { back = λ ws sound s. printed_as ps to (f.back ws sound (from ws s)) }

apart : (a b z : Tokens) (ws : List TokenV) → Both (Both a b) z ws → Both a (Both b z) ws
apart a b z ws s =
    let f = s.first_spells in
    record {
      front = f.front;
      rest = f.rest ++ s.rest;
      parts = s.parts ∙ ap (λ (u : List TokenV). u ++ s.rest) f.parts ∙ append_assoc f.front f.rest s.rest;
      first_spells = f.first_spells;
      rest_spells = record { front = f.rest; rest = s.rest; parts = refl; first_spells = f.rest_spells; rest_spells = s.rest_spells };
    }

together : (a b z : Tokens) (ws : List TokenV) → Both a (Both b z) ws → Both (Both a b) z ws
together a b z ws s =
    let r = s.rest_spells in
    record {
      front = s.front ++ r.front;
      rest = r.rest;
      parts = s.parts ∙ ap (λ (u : List TokenV). s.front ++ u) r.parts ∙ sym (append_assoc s.front r.front r.rest);
      first_spells = record { front = s.front; rest = r.front; parts = refl; first_spells = s.first_spells; rest_spells = r.first_spells };
      rest_spells = r.rest_spells;
    }

-- two before others
pub grouped : {a b z : Tokens} {ps : List Piece} → Prints (Both (Both a b) z) ps → Prints (Both a (Both b z)) ps
grouped {a = a} {b = b} {z = z} f = respell (apart a b z) (together a b z) f

under : (a b c : Tokens) → ((ws : List TokenV) → b ws → c ws) → (ws : List TokenV) → Both a b ws → Both a c ws
under a b c to ws s = record { front = s.front; rest = s.rest; parts = s.parts; first_spells = s.first_spells; rest_spells = to s.rest s.rest_spells }

-- the same behind another
pub behind : {a b c z : Tokens} {ps : List Piece} → Prints (Both a (Both (Both b c) z)) ps → Prints (Both a (Both b (Both c z))) ps
behind {a = a} {b = b} {c = c} {z = z} f = respell (under a (Both (Both b c) z) (Both b (Both c z)) (apart b c z)) (under a (Both b (Both c z)) (Both (Both b c) z) (together b c z)) f

-- three before others
pub grouped3 : {a b c z : Tokens} {ps : List Piece} → Prints (Both (Both a (Both b c)) z) ps → Prints (Both a (Both b (Both c z))) ps
grouped3 f = behind (grouped f)

apart3 : (a b c z : Tokens) (ws : List TokenV) → Both (Both a (Both b c)) z ws → Both a (Both b (Both c z)) ws
apart3 a b c z ws s = under a (Both (Both b c) z) (Both b (Both c z)) (apart b c z) ws (apart a (Both b c) z ws s)

together3 : (a b c z : Tokens) (ws : List TokenV) → Both a (Both b (Both c z)) ws → Both (Both a (Both b c)) z ws
together3 a b c z ws s = together a (Both b c) z ws (under a (Both b (Both c z)) (Both (Both b c) z) (together b c z) ws s)

pub behind3 : {a b c d z : Tokens} {ps : List Piece} → Prints (Both a (Both (Both b (Both c d)) z)) ps → Prints (Both a (Both b (Both c (Both d z)))) ps
behind3 {a = a} {b = b} {c = c} {d = d} {z = z} f = respell (under a (Both (Both b (Both c d)) z) (Both b (Both c (Both d z))) (apart3 b c d z)) (under a (Both b (Both c (Both d z))) (Both (Both b (Both c d)) z) (together3 b c d z)) f

-- four before others
pub grouped4 : {a b c d z : Tokens} {ps : List Piece} → Prints (Both (Both a (Both b (Both c d))) z) ps → Prints (Both a (Both b (Both c (Both d z)))) ps
grouped4 f = behind3 (grouped f)

-- two parts, and then others
pub also2 : {a b z : Tokens} {ps qs : List Piece} → Prints (Both a b) ps → Prints z qs → Prints (Both a (Both b z)) (ps ++ qs)
also2 f g = grouped (also f g)

-- ---- blanks, and parts of no tokens

pub blank : {a : Tokens} {ps : List Piece} → Prints a ps → Prints a (Blank ∷ ps)
blank {ps = ps} f = record { back = λ ws sound s. printed_blank ps (f.back ws sound s) }

-- a blank behind them
pub trailed : {a : Tokens} {ps : List Piece} → Prints a ps → Prints a (ps ++ Blank ∷ [])
trailed {a = a} {ps = ps} f = record {
  back = λ ws sound s.
      let p = f.back ws sound s in
      record {
        spelled = λ line. subst a (sym (tokens_append line ps (Blank ∷ []) ∙ append-nil (tokens_on line ps))) (p.spelled line);
        fits = All-append PieceFits ps (Blank ∷ []) p.fits (All-cons PieceFits Blank [] tt (All-nil PieceFits));
      };
}

pub nothing : {a : Tokens} → a [] → Prints a []
nothing is = record { back = λ ws sound s. printed_none is }

pub no_tails : some_tails tt []
no_tails = record { value = []; front = []; rest = []; parts = refl; first_spells = refl; rest_spells = (refl, refl) }

closed : (a b : Tokens) → b [] → (ws : List TokenV) → a ws → Both a b ws
closed a b last ws s = record { front = ws; rest = []; parts = sym (append-nil ws); first_spells = s; rest_spells = last }

-- behind what is printed stands nothing
pub closed_by : {a b : Tokens} {ps : List Piece} → b [] → Prints a ps → Prints (Both a b) ps
closed_by {a = a} {b = b} {ps = ps} last f = record { back = λ ws sound s. printed_as ps (closed a b last) (f.back s.front (both_front sound s) s.first_spells) }

-- behind an instruction nothing is printed
pub ended : {a : Tokens} {ps : List Piece} → Prints a ps → Prints (Both a (some_tails tt)) ps
ended f = closed_by no_tails f
