-- What a piece that was found is.
use Rattle.std.proofs.Common.{◌≡◌, ℕ, ◌+◌, ◌-◌, ◌<◌, ◌≤◌, Bool, true, false, cond, List, length, take, drop, Option, Some, None, refl, ap, arith}
use Rattle.std.specs.Prelude.{◌==◌}
use Rattle.std.proofs.lemmas.Bool.{eqb-false}
use Rattle.ir_lex.specs.declared.token.TokenKind.{TokenKind}
use Rattle.ir_lex.specs.declared.token.Cause.{Cause}
use Rattle.ir_lex.specs.declared.token.Form.{Form}
use Rattle.ir_lex.specs.declared.token.Form.TheVariants as form
use Rattle.ir_lex.specs.declared.token.Piece.TheVariants as piece
use Rattle.ir_lex.specs.Forms.{form_len}
use Rattle.ir_lex.specs.Spelling.{limit_of}
use Rattle.ir_lex.specs.Lexing.{fault_of, limited, piece_as, piece_of, TokenIn}

-- a found piece: which form was tried, how long it is, and that it passes no limit
pub record FoundAt (text : List ℕ) (f : Form) (n : ℕ) : Type 0 where
  pub len : form_len f text ≡ n
  pub some : form_len f text ≡ 0 → ⊥
  pub limits : limit_of f (take n text) ≡ None

from_limited : (o : Option Cause) (g f : Form) (m n : ℕ) → limited o g m ≡ piece.Found f n → (o ≡ None) × (g ≡ f) × (m ≡ n)
from_limited None g f m n is = (refl, cc, cc)
from_limited (Some why) g f m n is = absurd (cc)

from_cond : (t : Bool) (m : ℕ) (o : Option Cause) (bad : Cause) (g f : Form) (n : ℕ) → cond t (piece.Bad bad) (limited o g m) ≡ piece.Found f n → (t ≡ false) × (o ≡ None) × (g ≡ f) × (m ≡ n)
from_cond true m o bad g f n is = absurd (cc)
from_cond false m o bad g f n is = let h = from_limited o g f m n is in (refl, h.0, h.1, h.2)

pub found_as : (o : Option Form) (text : List ℕ) (f : Form) (n : ℕ) → piece_as o text ≡ piece.Found f n → (o ≡ Some f) × FoundAt text f n
found_as None text f n is = absurd (cc)
found_as (Some g) text f n is =
    let h = from_cond (form_len g text == 0) (form_len g text) (limit_of g (take (form_len g text) text)) (fault_of text) g f n is in
    let e : g ≡ f = h.2 in
    let m : form_len g text ≡ n = h.3 in (
      ap Some e,
      record {
        len = rw (← e) m;
        some = rw (← e) (eqb-false (form_len g text) 0 h.0);
        limits = rw (← e, ← m) h.1;
      },
    )

pub found : (text : List ℕ) (f : Form) (n : ℕ) → piece_of text ≡ piece.Found f n → FoundAt text f n
unfolding piece_of
found text f n is = (found_as _ text f n is).1

pub limits_held : (text : List ℕ) (at n line : ℕ) (k : TokenKind) → piece_of (drop at text) ≡ piece.Found (form.Token k) n → 0 < n → at + n ≤ length text
    → TokenIn text (record { kind = k; from = at; to = at + n; line = line })
limits_held text at n line k is some within =
    let h = found (drop at text) (form.Token k) n is in
    let e : (at + n) - at ≡ n = omega arith in
    record { begins = omega arith; ends = within; limits = rw e h.limits }
