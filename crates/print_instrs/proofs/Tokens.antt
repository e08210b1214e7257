-- Printed words, marks and names.
use Rattle.std.proofs.Common.{◌≡◌, ℕ, Bool, true, false, List, [], ◌∷◌, Ok, refl, sym, ap, subst}
use Rattle.std.specs.Prelude.{◌&&◌, nat_le, All}
use Rattle.std.proofs.lemmas.Bool.{and_parts}
use Rattle.std.proofs.lemmas.List.Elements.{All-nil, All-cons}
use lib.Pointwise.{bytes_decides}
use Rattle.pv_base.specs.declared.name.Name.{Name}
use Rattle.ir_lex.specs.declared.token.TokenKind.{TokenKind}
use Rattle.ir_lex.specs.declared.token.TokenKind.TheVariants as kind
use Rattle.ir_lex.specs.Classes.{is_letter, is_word_start, is_word_byte}
use Rattle.ir_lex.specs.Cut.{Each, IsRun}
use Rattle.ir_lex.specs.Spelling.{IsNameKind}
use Rattle.ir_text.specs.Tokens.{TokenV}
use Rattle.ir_text.specs.Reading.{Meaning}
use Rattle.ir_text.specs.Leaves.{spelled_name, local_by, local}
use Rattle.ir_text.specs.Spelled.{one_token}
use Rattle.ir_text.specs.TypeSpelled.{a_mark, a_word}
use Rattle.ir_printer.specs.Pieces.{Piece, Word, Mark, Local}
use Rattle.print_tokens.specs.Standing.{is_plain_mark, NameFits, PieceFits}
use Rattle.print_values.specs.Laws.{NamesFit, NamesReadBack}
use Rattle.print_values.specs.Printed.{IsSound, Printed}
use Rattle.print_values.proofs.Composing.{one_sound}
use Rattle.print_values.proofs.Tokens.{printed_mark}
use Rattle.print_instrs.proofs.Printing.{Prints}

pub one_fits : (p : Piece) → PieceFits p → All PieceFits (p ∷ [])
one_fits p h = All-cons PieceFits p [] h (All-nil PieceFits)

-- ---- words of small letters

abbrev pub is_small : ℕ → Bool
is_small b = nat_le 97 b && nat_le b 122

abbrev pub all_small : List ℕ → Bool
all_small [] = true
all_small (b ∷ bs) = is_small b && all_small bs

abbrev pub is_small_word : List ℕ → Bool
is_small_word [] = false
is_small_word (b ∷ bs) = is_small b && all_small bs

small_starts : (b : ℕ) → is_small b ≡ true → is_word_start b ≡ true
unfolding is_letter is_word_start
small_starts b e = rw e refl

small_goes_on : (b : ℕ) → is_small b ≡ true → is_word_byte b ≡ true
unfolding is_word_byte
small_goes_on b e = rw (small_starts b e) refl

small_each : (bs : List ℕ) → all_small bs ≡ true → Each is_word_byte bs
small_each [] e = tt
small_each (b ∷ bs) e = let parts = and_parts (is_small b) (all_small bs) e in (small_goes_on b parts.0, small_each bs parts.1)

pub small_run : (w : List ℕ) → is_small_word w ≡ true → IsRun is_word_start is_word_byte w
small_run [] e = absurd cc
small_run (b ∷ bs) e = let parts = and_parts (is_small b) (all_small bs) e in record { head = b; tail = bs; is = refl; begins = small_starts b parts.0; goes_on = small_each bs parts.1 }

-- a word that stands for a value
pub word_for : {A : Type 0} (means : Meaning A) (a : A) (w : List ℕ) → is_small_word w ≡ true → ((line : ℕ) → means (record { kind = kind.Word; text = w; line = line }) ≡ Ok a) → Printed (one_token means a) (Word w ∷ [])
word_for means a w small is = record {
  spelled = λ line. record { token = record { kind = kind.Word; text = w; line = line }; parts = refl; is = is line };
  fits = one_fits (Word w) (small_run w small);
}

pub word_means : {A : Type 0} (means : Meaning A) (a : A) (w : List ℕ) → is_small_word w ≡ true → ((line : ℕ) → means (record { kind = kind.Word; text = w; line = line }) ≡ Ok a) → Prints (one_token means a) (Word w ∷ [])
word_means means a w small is = record { back = λ ws sound s. word_for means a w small is }

pub word : (w : List ℕ) → is_small_word w ≡ true → Prints (a_word w) (Word w ∷ [])
word w small = record {
  back = λ ws sound s. record {
    spelled = λ line. record { token = record { kind = kind.Word; text = w; line = line }; parts = refl; is = rw ((bytes_decides w w).1 refl) refl };
    fits = one_fits (Word w) (small_run w small);
  };
}

-- ---- marks

mark : (b : ℕ) → is_plain_mark b ≡ true → Prints (a_mark b) (Mark b ∷ [])
mark b plain = record { back = λ ws sound s. printed_mark b plain }

pub comma_mark : Prints (a_mark 44) (Mark 44 ∷ [])
unfolding is_plain_mark
comma_mark = mark 44 refl

pub equals_mark : Prints (a_mark 61) (Mark 61 ∷ [])
unfolding is_plain_mark
equals_mark = mark 61 refl

pub parenthesis_mark : Prints (a_mark 40) (Mark 40 ∷ [])
unfolding is_plain_mark
parenthesis_mark = mark 40 refl

pub closing_parenthesis : Prints (a_mark 41) (Mark 41 ∷ [])
unfolding is_plain_mark
closing_parenthesis = mark 41 refl

pub bracket_mark : Prints (a_mark 91) (Mark 91 ∷ [])
unfolding is_plain_mark
bracket_mark = mark 91 refl

pub closing_bracket : Prints (a_mark 93) (Mark 93 ∷ [])
unfolding is_plain_mark
closing_bracket = mark 93 refl

-- ---- names

-- a token that spells this local name
pub record IsLocal (name : Name) (t : TokenV) : Type 0 where
  pub kind_is : t.kind ≡ kind.LocalName
  pub spells : spelled_name t ≡ name

local_name_by : (k : TokenKind) (t : TokenV) (name : Name) → t.kind ≡ k → local_by k t ≡ Ok name → IsLocal name t
local_name_by kind.LocalName t name is e = let spells : spelled_name t ≡ name = cc in record { kind_is = is; spells = spells }
local_name_by kind.Word t name is e = absurd cc
local_name_by kind.Punct t name is e = absurd cc
local_name_by kind.GlobalName t name is e = absurd cc
local_name_by kind.Label t name is e = absurd cc
local_name_by kind.Integer t name is e = absurd cc
local_name_by kind.Text t name is e = absurd cc

local_name : (t : TokenV) (name : Name) → local t ≡ Ok name → IsLocal name t
local_name t name e = local_name_by t.kind t name refl e

module _ (names_fit : NamesFit) (names_back : NamesReadBack) where
  pub local_fits : (t : TokenV) (name : Name) → IsSound t → IsLocal name t → NameFits name
  local_fits t name sound is = subst NameFits is.spells (names_fit t sound (subst IsNameKind (sym is.kind_is) tt))

  pub global_fits : (t : TokenV) (name : Name) → IsSound t → t.kind ≡ kind.GlobalName → spelled_name t ≡ name → NameFits name
  global_fits t name sound is spells = subst NameFits spells (names_fit t sound (subst IsNameKind (sym is) tt))

  pub local_printed : (name : Name) → Prints (one_token local name) (Local name ∷ [])
  local_printed name = record {
    back = λ ws sound s.
        let fits = local_fits s.token name (one_sound sound s) (local_name s.token name s.is) in
        record {
          spelled = λ line. record { token = _; parts = refl; is = ap Ok ((names_back name fits).local line) };
          fits = one_fits (Local name) fits;
        };
  }
