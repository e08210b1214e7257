-- The first of some tokens.
use Rattle.std.proofs.Common.{◌≡◌, ℕ, Bool, true, false, cond, List, [], ◌∷◌, ◌++◌, Option, Some, None, Result, Ok, Err, refl, sym, ap, ◌∙◌, inl, inr}
use Rattle.std.specs.Prelude.{not, ◌||◌, is_some, codes, drop}
use Rattle.std.specs.List.{list_any}
use Rattle.std.proofs.lemmas.Bool.{cases_Bool, or_parts, or_from, or_left, or_right, not-true}
use lib.Pointwise.{bytes_decides}
use Rattle.ir_lex.specs.declared.token.TokenKind.{TokenKind}
use Rattle.ir_lex.specs.declared.token.TokenKind.TheVariants as kind
use Rattle.ir_lex.specs.declared.token.Cause.{Cause}
use Rattle.ir_lex.specs.declared.token.Cause.TheVariants as causes
use Rattle.ir_tree.specs.Trees.{TypeV, PtrV}
use Rattle.ir_text.specs.Tokens.{TokenV, same, among, is_mark, is_word, word_is, punct_is}
use Rattle.ir_text.specs.Reading.{Meaning, next_is}
use Rattle.ir_text.specs.Spelled.{one_token}
use Rattle.ir_text.specs.Leaves.{tested, mark, word}
use Rattle.ir_text.specs.Choice.{Opens}
use Rattle.ir_text.specs.Passed.{is_type_word, is_int_word}
use Rattle.ir_text.specs.Repeated.{Both}
use Rattle.ir_text.specs.Types.{register_type, register_by, result_type, result_by, word_type, int_type}
use Rattle.ir_instr.specs.Words.{is_among, word_among_by, meaning_of, found, worded_by, worded}
use Rattle.ir_instr.specs.Parts.{that_type, fixed_type, integer_only, integer_type}

module _ (test : TokenV → Bool) where
  pub opened : (ws rest : List TokenV) → Opens test ws → next_is test (ws ++ rest) ≡ true
  unfolding next_is
  opened ws rest o = ap (λ (u : List TokenV). next_is test (u ++ rest)) o.parts ∙ o.is

  pub unopened : (ws rest : List TokenV) → Opens (λ t. not (test t)) ws → next_is test (ws ++ rest) ≡ false
  unfolding next_is
  unopened ws rest o = ap (λ (u : List TokenV). next_is test (u ++ rest)) o.parts ∙ not-true (test o.token) o.is

  pub both_opens : (first others : List TokenV → Type 0) (ws : List TokenV) → ((us : List TokenV) → first us → Opens test us) → Both first others ws → Opens test ws
  both_opens first others ws opens b =
      let o = opens b.front b.first_spells in
      record { token = o.token; rest = o.rest ++ b.rest; parts = b.parts ∙ ap (λ (u : List TokenV). u ++ b.rest) o.parts; is = o.is }

  pub one_opens : {A : Type 0} (means : Meaning A) (a : A) (ws : List TokenV) → ((t : TokenV) → means t ≡ Ok a → test t ≡ true) → one_token means a ws → Opens test ws
  one_opens means a ws passes s = record { token = s.token; rest = []; parts = s.parts; is = passes s.token s.is }

pub opens_as : (p q : TokenV → Bool) (ws : List TokenV) → ((t : TokenV) → p t ≡ true → q t ≡ true) → Opens p ws → Opens q ws
opens_as p q ws to o = record { token = o.token; rest = o.rest; parts = o.parts; is = to o.token o.is }

-- ---- words by their bytes

abbrev pub word_by : (List ℕ → Bool) → TokenKind → List ℕ → Bool
word_by p kind.Word text = p text
word_by p _ text = false

-- a word whose bytes pass a test
abbrev pub word_of : (List ℕ → Bool) → TokenV → Bool
word_of p t = word_by p t.kind t.text

pub none_among : (p : List ℕ → Bool) (words : List (List ℕ)) (text : List ℕ) → list_any p words ≡ false → p text ≡ true → among words text ≡ false
unfolding among
none_among p [] text none is = refl
none_among p (w ∷ words) text none is =
    let parts = or_parts (p w) (list_any p words) none in
    or_from (same text w) (list_any (same text) words) (elim (cases_Bool (same text w)) [
      | inl e ↦ let here : text ≡ w = (bytes_decides text w).0 e in let clash : true ≡ false = sym is ∙ ap p here ∙ parts.0 in absurd cc
      | inr e ↦ e
    ]) (unfold among in none_among p words text parts.1 is)

not_among_by : (p : List ℕ → Bool) (words : List (List ℕ)) (k : TokenKind) (text : List ℕ) → list_any p words ≡ false → word_by p k text ≡ true → word_among_by words k text ≡ false
not_among_by p words kind.Word text none is = none_among p words text none is
not_among_by p words kind.Punct text none is = refl
not_among_by p words kind.GlobalName text none is = refl
not_among_by p words kind.LocalName text none is = refl
not_among_by p words kind.Label text none is = refl
not_among_by p words kind.Integer text none is = refl
not_among_by p words kind.Text text none is = refl

-- a word that passes is none of those of which none does
pub not_among : (p : List ℕ → Bool) (words : List (List ℕ)) → list_any p words ≡ false → (t : TokenV) → word_of p t ≡ true → not (is_among words t) ≡ true
not_among p words none t is = let no : is_among words t ≡ false = not_among_by p words t.kind t.text none is in rw no refl

not_word_by : (p : List ℕ → Bool) (w : List ℕ) (k : TokenKind) (text : List ℕ) → p w ≡ false → word_by p k text ≡ true → word_is w k text ≡ false
not_word_by p w kind.Word text none is =
    elim (cases_Bool (same text w)) [
      | inl e ↦ let here : text ≡ w = (bytes_decides text w).0 e in let clash : true ≡ false = sym is ∙ ap p here ∙ none in absurd cc
      | inr e ↦ e
    ]
not_word_by p w kind.Punct text none is = refl
not_word_by p w kind.GlobalName text none is = refl
not_word_by p w kind.LocalName text none is = refl
not_word_by p w kind.Label text none is = refl
not_word_by p w kind.Integer text none is = refl
not_word_by p w kind.Text text none is = refl

-- a word that passes where another does not
pub not_word : (p : List ℕ → Bool) (w : List ℕ) → p w ≡ false → (t : TokenV) → word_of p t ≡ true → not (is_word w t) ≡ true
not_word p w none t is = let e : is_word w t ≡ false = not_word_by p w t.kind t.text none is in rw e refl

word_no_mark : (p : List ℕ → Bool) (b : ℕ) (k : TokenKind) (text : List ℕ) → word_by p k text ≡ true → punct_is (b ∷ []) k text ≡ false
word_no_mark p b kind.Word text is = refl
word_no_mark p b kind.Punct text is = absurd cc
word_no_mark p b kind.GlobalName text is = absurd cc
word_no_mark p b kind.LocalName text is = absurd cc
word_no_mark p b kind.Label text is = absurd cc
word_no_mark p b kind.Integer text is = absurd cc
word_no_mark p b kind.Text text is = absurd cc

-- no word is a mark
pub not_mark : (p : List ℕ → Bool) (b : ℕ) (t : TokenV) → word_of p t ≡ true → not (is_mark b t) ≡ true
not_mark p b t is = let e : is_mark b t ≡ false = word_no_mark p b t.kind t.text is in rw e refl

tested_true : (b : Bool) (cause : Cause) (u : Unit {0}) → tested b cause ≡ Ok u → b ≡ true
tested_true true cause u e = refl
tested_true false cause u e = absurd cc

pub the_word : (w : List ℕ) (t : TokenV) (u : Unit {0}) → word w t ≡ Ok u → is_word w t ≡ true
the_word w t u e = tested_true (is_word w t) causes.Operand u e

pub the_mark : (b : ℕ) (t : TokenV) (u : Unit {0}) → mark b t ≡ Ok u → is_mark b t ≡ true
the_mark b t u e = tested_true (is_mark b t) causes.Operand u e

-- ---- the words of types

int_word : (text : List ℕ) (b : Bool) (of : TypeV) → is_int_word text ≡ b → cond b (int_type (drop 1 text)) (Err causes.BadType) ≡ Ok of → is_int_word text ≡ true
int_word text true of is e = is
int_word text false of is e = absurd cc

type_word_by : (text : List ℕ) (p : Bool) (of : TypeV) → same text (codes "ptr") ≡ p → cond p (Ok PtrV) (cond (is_int_word text) (int_type (drop 1 text)) (Err causes.BadType)) ≡ Ok of → is_type_word text ≡ true
type_word_by text true of is e = or_left _ (is_int_word text) (or_left (same text (codes "ptr")) (same text (codes "void")) is)
type_word_by text false of is e = or_right (same text (codes "ptr") || same text (codes "void")) (is_int_word text) (int_word text (is_int_word text) of refl e)

pub type_word : (text : List ℕ) (of : TypeV) → word_type text ≡ Ok of → is_type_word text ≡ true
unfolding word_type
type_word text of e = type_word_by text (same text (codes "ptr")) of refl e

register_by_word : (k : TokenKind) (t : TokenV) (of : TypeV) → register_by k t ≡ Ok of → word_by is_type_word k t.text ≡ true
register_by_word kind.Word t of e = type_word t.text of e
register_by_word kind.Punct t of e = absurd cc
register_by_word kind.GlobalName t of e = absurd cc
register_by_word kind.LocalName t of e = absurd cc
register_by_word kind.Label t of e = absurd cc
register_by_word kind.Integer t of e = absurd cc
register_by_word kind.Text t of e = absurd cc

pub register_word : (t : TokenV) (of : TypeV) → register_type t ≡ Ok of → word_of is_type_word t ≡ true
register_word t of e = register_by_word t.kind t of e

integer_of_any : (r : Result TypeV Cause) (of : TypeV) → integer_only r ≡ Ok of → (found : TypeV) × (r ≡ Ok found)
integer_of_any (Ok found) of e = (found, refl)
integer_of_any (Err cause) of e = absurd cc

pub integer_word : (t : TokenV) (of : TypeV) → integer_type t ≡ Ok of → word_of is_type_word t ≡ true
integer_word t of e = let f = integer_of_any (register_type t) of e in register_word t f.0 f.1

fixed_of_any : (of : TypeV) (r : Result TypeV Cause) → that_type of r ≡ Ok tt → (found : TypeV) × (r ≡ Ok found)
fixed_of_any of (Ok found) e = (found, refl)
fixed_of_any of (Err cause) e = absurd cc

pub fixed_word : (of : TypeV) (t : TokenV) → fixed_type of t ≡ Ok tt → word_of is_type_word t ≡ true
fixed_word of t e = let f = fixed_of_any of (register_type t) e in register_word t f.0 f.1

result_by_word : (k : TokenKind) (t : TokenV) (b : Bool) (of : TypeV) → same t.text (codes "void") ≡ b → result_by k t ≡ Ok of → word_by is_type_word k t.text ≡ true
result_by_word kind.Word t true of is e = or_left _ (is_int_word t.text) (or_right (same t.text (codes "ptr")) (same t.text (codes "void")) is)
result_by_word kind.Word t false of is e = let one : word_type t.text ≡ Ok of = rw is at e in type_word t.text of one
result_by_word kind.Punct t b of is e = absurd cc
result_by_word kind.GlobalName t b of is e = absurd cc
result_by_word kind.LocalName t b of is e = absurd cc
result_by_word kind.Label t b of is e = absurd cc
result_by_word kind.Integer t b of is e = absurd cc
result_by_word kind.Text t b of is e = absurd cc

pub result_word : (t : TokenV) (of : TypeV) → result_type t ≡ Ok of → word_of is_type_word t ≡ true
result_word t of e = result_by_word t.kind t (same t.text (codes "void")) of refl e

-- ---- the words of tables

worded_found : {A : Type 0} (o : Option A) (a : A) → found o causes.Operand ≡ Ok a → is_some o ≡ true
worded_found (Some b) a e = refl
worded_found None a e = absurd cc

worded_by_word : {A : Type 0} (table : List (List ℕ × A)) (k : TokenKind) (text : List ℕ) (a : A) → worded_by table k text ≡ Ok a → word_by (λ w. is_some (meaning_of table w)) k text ≡ true
worded_by_word table kind.Word text a e = worded_found (meaning_of table text) a e
worded_by_word table kind.Punct text a e = absurd cc
worded_by_word table kind.GlobalName text a e = absurd cc
worded_by_word table kind.LocalName text a e = absurd cc
worded_by_word table kind.Label text a e = absurd cc
worded_by_word table kind.Integer text a e = absurd cc
worded_by_word table kind.Text text a e = absurd cc

pub worded_word : {A : Type 0} (table : List (List ℕ × A)) (t : TokenV) (a : A) → worded table t ≡ Ok a → word_of (λ w. is_some (meaning_of table w)) t ≡ true
worded_word table t a e = worded_by_word table t.kind t.text a e
