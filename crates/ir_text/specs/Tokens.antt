-- Tokens with their texts, and the tests of one token.
use Rattle.std.specs.Prelude.{◌≡◌, ℕ, Bool, false, nat_eq, if◌then◌else◌, List, [], ◌∷◌, map, slice_range, codes}
use Rattle.std.specs.Cmp.Lexicographic.{pointwise}
use Rattle.std.specs.List.{list_any}
use Rattle.ir_lex.specs.declared.token.TokenKind.{TokenKind}
use Rattle.ir_lex.specs.declared.token.TokenKind.TheVariants as kind
use Rattle.ir_lex.specs.declared.token.Token.{Token}
use Rattle.ir_lex.specs.declared.token.Cause.{Cause}
use Rattle.ir_lex.specs.declared.token.Cause.TheVariants.{OutOfProfile}
use Rattle.ir_text.specs.declared.fault.Fault.TheVariants.{At}
use Rattle.ir_text.specs.declared.fault.ReadEnd.{ReadEnd}
use Rattle.ir_text.specs.declared.fault.ReadEnd.TheVariants as ends

-- a token: its kind, the bytes of the text that it is, and its line
pub record TokenV : Type 0 where
  pub kind : TokenKind
  pub text : List ℕ
  pub line : ℕ

abbrev pub token_of : List ℕ → Token → TokenV
token_of text t = record { kind = t.kind; text = slice_range text t.from t.to; line = t.line }

-- the tokens of a text
abbrev pub tokens_of : List ℕ → List Token → List TokenV
tokens_of text tokens = map (token_of text) tokens

-- the same bytes
abbrev pub same : List ℕ → List ℕ → Bool
same a b = pointwise nat_eq a b

abbrev pub punct_is : List ℕ → TokenKind → List ℕ → Bool
punct_is bytes kind.Punct text = same text bytes
punct_is bytes _ text = false

-- the mark of one byte
abbrev pub is_mark : ℕ → TokenV → Bool
is_mark b t = punct_is (b ∷ []) t.kind t.text

-- ...
abbrev pub is_points : TokenV → Bool
is_points t = punct_is (codes "...") t.kind t.text

abbrev pub word_is : List ℕ → TokenKind → List ℕ → Bool
word_is word kind.Word text = same text word
word_is word _ text = false

-- the word
abbrev pub is_word : List ℕ → TokenV → Bool
is_word word t = word_is word t.kind t.text

-- instructions, constants, attributes, markers and items outside the language that is read
abbrev pub refused_words : List (List ℕ)
refused_words =
    codes "ptrtoint" ∷ codes "inttoptr" ∷ codes "bitcast" ∷ codes "addrspacecast" ∷ codes "module" ∷ codes "indirectbr" ∷ codes "callbr" ∷ codes "invoke"
    ∷ codes "va_arg" ∷ codes "undef" ∷ codes "poison" ∷ codes "extractvalue" ∷ codes "insertvalue" ∷ codes "byval" ∷ codes "byref" ∷ codes "inalloca"
    ∷ codes "addrspace" ∷ codes "thread_local" ∷ codes "volatile" ∷ codes "atomic" ∷ codes "musttail" ∷ codes "personality" ∷ codes "asm" ∷ codes "metadata"
    ∷ codes "gc" ∷ codes "prefix" ∷ codes "prologue" ∷ codes "alias" ∷ codes "ifunc" ∷ []

-- whether the bytes are one of these
unfoldable pub among : List (List ℕ) → List ℕ → Bool
among words text = list_any (same text) words

abbrev pub word_refused : TokenKind → List ℕ → Bool
word_refused kind.Word text = among refused_words text
word_refused _ text = false

-- a word that is outside the language wherever it is met
unfoldable pub is_refused : TokenV → Bool
is_refused t = word_refused t.kind t.text

-- why a token is refused: no other cause is met at such a word
unfoldable pub blamed : TokenV → Cause → Cause
blamed t cause = if is_refused t then OutOfProfile t.text else cause

-- what code answers at a token that does not stand where it must
abbrev pub IsBlamed : TokenV → Cause → ReadEnd → Type 0
IsBlamed t cause ends.Memory = Unit {0}
IsBlamed t cause (ends.Bad fault) = fault ≡ At t.line (blamed t cause)
