-- Marks and words that stand in every function, and what is passed over, of which nothing is printed.
use Rattle.std.proofs.Common.{◌≡◌, ℕ, Bool, true, List, [], ◌∷◌, refl, sym, ap}
use Rattle.std.specs.Prelude.{codes}
use Rattle.std.proofs.lemmas.List.{append-nil}
use Rattle.ir_lex.specs.declared.token.TokenKind.TheVariants as kind
use Rattle.ir_lex.specs.declared.token.Cause.TheVariants as causes
use Rattle.ir_lex.specs.Classes.{is_letter, is_digit, is_word_start, is_word_byte}
use Rattle.ir_lex.specs.Cut.{IsRun}
use Rattle.ir_text.specs.Tokens.{TokenV, same}
use Rattle.ir_text.specs.Leaves.{tested, mark, word}
use Rattle.ir_text.specs.Passed.{skips}
use Rattle.ir_text.specs.Spelled.{Spelling}
use Rattle.ir_text.specs.TypeSpelled.{◌▸◌, a_mark, a_word}
use Rattle.ir_printer.specs.Pieces.{Mark, Word}
use Rattle.print_tokens.specs.Standing.{is_plain_mark}
use Rattle.print_functions.specs.Lines.{PrintedLines}
use Rattle.print_functions.proofs.Naming.{one_piece}

-- ---- nothing

pub none_passed : {A : Type 0} (item : Spelling A) → skips item tt []
none_passed item = record { value = []; front = []; rest = []; parts = refl; first_spells = refl; rest_spells = (refl, refl) }

-- nothing, and then others
pub none_then : {first others : List TokenV → Type 0} (ws : List TokenV) → first [] → others ws → (first ▸ others) ws
none_then ws s t = record { front = []; rest = ws; parts = refl; first_spells = s; rest_spells = t }

-- some, and nothing behind them
pub then_none : {first others : List TokenV → Type 0} (ws : List TokenV) → first ws → others [] → (first ▸ others) ws
then_none ws s t = record { front = ws; rest = []; parts = sym (append-nil ws); first_spells = s; rest_spells = t }

-- ---- marks

mark_printed : (b : ℕ) → is_plain_mark b ≡ true → same (b ∷ []) (b ∷ []) ≡ true → PrintedLines (a_mark b) (Mark b ∷ [])
mark_printed b plain is = one_piece (mark b) tt (Mark b) plain (λ line. record {
  token = record { kind = kind.Punct; text = b ∷ []; line = line };
  parts = refl;
  is = ap (λ (x : Bool). tested x causes.Operand) is;
})

pub comma_printed : PrintedLines (a_mark 44) (Mark 44 ∷ [])
unfolding is_plain_mark
comma_printed = mark_printed 44 refl refl

pub open_printed : PrintedLines (a_mark 40) (Mark 40 ∷ [])
unfolding is_plain_mark
open_printed = mark_printed 40 refl refl

pub close_printed : PrintedLines (a_mark 41) (Mark 41 ∷ [])
unfolding is_plain_mark
close_printed = mark_printed 41 refl refl

pub begin_printed : PrintedLines (a_mark 123) (Mark 123 ∷ [])
unfolding is_plain_mark
begin_printed = mark_printed 123 refl refl

pub end_printed : PrintedLines (a_mark 125) (Mark 125 ∷ [])
unfolding is_plain_mark
end_printed = mark_printed 125 refl refl

-- ---- words

word_printed : (w : List ℕ) → IsRun is_word_start is_word_byte w → same w w ≡ true → PrintedLines (a_word w) (Word w ∷ [])
word_printed w run is = one_piece (word w) tt (Word w) run (λ line. record {
  token = record { kind = kind.Word; text = w; line = line };
  parts = refl;
  is = ap (λ (x : Bool). tested x causes.Operand) is;
})

declare_run : IsRun is_word_start is_word_byte (codes "declare")
unfolding is_word_start is_word_byte is_letter is_digit
declare_run = record { head = 100; tail = codes "eclare"; is = refl; begins = refl; goes_on = (refl, (refl, (refl, (refl, (refl, (refl, tt)))))) }

define_run : IsRun is_word_start is_word_byte (codes "define")
unfolding is_word_start is_word_byte is_letter is_digit
define_run = record { head = 100; tail = codes "efine"; is = refl; begins = refl; goes_on = (refl, (refl, (refl, (refl, (refl, tt))))) }

pub declare_printed : PrintedLines (a_word (codes "declare")) (Word (codes "declare") ∷ [])
declare_printed = word_printed (codes "declare") declare_run refl

pub define_printed : PrintedLines (a_word (codes "define")) (Word (codes "define") ∷ [])
define_printed = word_printed (codes "define") define_run refl
