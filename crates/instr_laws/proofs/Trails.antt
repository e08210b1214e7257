-- What is passed over behind an instruction, one at a time.
use Rattle.std.proofs.Common.{◌≡◌, ℕ, Bool, true, false, List, [], ◌∷◌, ◌++◌, refl, sym, ap, subst, ◌∙◌, append_assoc, ◌⊎◌, inl, inr}
use Rattle.std.specs.Prelude.{codes, not, ◌||◌}
use Rattle.std.proofs.lemmas.Bool.{or_left, or_right, or_cases}
use Rattle.std.proofs.lemmas.List.{append-nil}
use Rattle.ir_lex.specs.declared.token.TokenKind.{TokenKind}
use Rattle.ir_lex.specs.declared.token.TokenKind.TheVariants as kind
use Rattle.ir_text.specs.Tokens.{TokenV, is_mark, is_word, word_is, punct_is}
use Rattle.ir_text.specs.Choice.{Opens}
use Rattle.ir_text.specs.Leaves.{mark}
use Rattle.ir_text.specs.Lists.{with_comma}
use Rattle.ir_text.specs.Passed.{is_type_word, is_int_word, some_integer, some_string}
use Rattle.ir_text.specs.Repeated.{each}
use Rattle.ir_text.specs.Spelled.{one_token, nothing, by_test, when}
use Rattle.ir_text.specs.Tails.{a_tail, some_tails, behind_sign}
use Rattle.ir_text.specs.TypeSpelled.{◌▸◌, a_mark}
use Rattle.ir_text.proofs.Marks.{apart}
use Rattle.ir_instr.specs.Memory.{begins_tail}
use Rattle.instr_laws.proofs.Opening.{word_of, not_word, not_mark}

-- ---- none, or one before others

abbrev a_comma_tail : List TokenV → Type 0
a_comma_tail = with_comma a_tail tt

pub tails_none : some_tails tt []
tails_none = record { value = []; front = []; rest = []; parts = refl; first_spells = refl; rest_spells = (refl, refl) }

pub tails_of : (units : List (Unit {0})) (ws : List TokenV) → each (with_comma a_tail) units ws → some_tails tt ws
tails_of units ws s = record { value = units; front = ws; rest = []; parts = sym (append-nil ws); first_spells = s; rest_spells = (refl, refl) }

pub tails_parts : (ws : List TokenV) → some_tails tt ws → (units : List (Unit {0})) × each (with_comma a_tail) units ws
tails_parts ws s =
    let flat : ws ≡ s.front = s.parts ∙ ap (λ (u : List TokenV). s.front ++ u) s.rest_spells.1 ∙ append-nil s.front in
    (s.value, subst (λ (u : List TokenV). each (with_comma a_tail) s.value u) (sym flat) s.first_spells)

pub tails_more : (ws : List TokenV) → (a_mark 44 ▸ a_tail tt ▸ some_tails tt) ws → some_tails tt ws
tails_more ws s =
    let r = s.rest_spells in
    let more = tails_parts r.rest r.rest_spells in
    tails_of (tt ∷ more.0) ws (record {
      front = s.front ++ r.front;
      rest = r.rest;
      parts = s.parts ∙ ap (λ (u : List TokenV). s.front ++ u) r.parts ∙ sym (append_assoc s.front r.front r.rest);
      first_spells = record { value = tt; front = s.front; rest = r.front; parts = refl; first_spells = s.first_spells; rest_spells = r.first_spells };
      rest_spells = more.1;
    })

unit_mark : (u : Unit {0}) (ws : List TokenV) → one_token (mark 44) u ws → a_mark 44 ws
unit_mark u ws s = s

unit_tail : (u : Unit {0}) (ws : List TokenV) → a_tail u ws → a_tail tt ws
unit_tail u ws s = s

tails_by : (units : List (Unit {0})) (ws : List TokenV) → each (with_comma a_tail) units ws → (ws ≡ []) ⊎ (a_mark 44 ▸ a_tail tt ▸ some_tails tt) ws
tails_by [] ws s = inl s
tails_by (u ∷ units) ws s =
    let c = s.first_spells in
    inr (record {
      front = c.front;
      rest = c.rest ++ s.rest;
      parts = s.parts ∙ ap (λ (v : List TokenV). v ++ s.rest) c.parts ∙ append_assoc c.front c.rest s.rest;
      first_spells = unit_mark c.value c.front c.first_spells;
      rest_spells = record { front = c.rest; rest = s.rest; parts = refl; first_spells = unit_tail u c.rest c.rest_spells; rest_spells = tails_of units s.rest s.rest_spells };
    })

pub tails_cases : (ws : List TokenV) → some_tails tt ws → (ws ≡ []) ⊎ (a_mark 44 ▸ a_tail tt ▸ some_tails tt) ws
tails_cases ws s = let p = tails_parts ws s in tails_by p.0 ws p.1

-- ---- what begins one

led_begins : (a s c m : Bool) (u : Unit {0}) (ws : List TokenV) → by_test a (one_token some_integer) (by_test s (one_token some_string) (by_test c (nothing tt) (when m behind_sign))) u ws → (((a || s) || c) || m) ≡ true
led_begins true s c m u ws h = or_left ((true || s) || c) m (or_left (true || s) c (or_left true s refl))
led_begins false true c m u ws h = or_left ((false || true) || c) m (or_left (false || true) c (or_right false true refl))
led_begins false false true m u ws h = or_left ((false || false) || true) m (or_right (false || false) true refl)
led_begins false false false true u ws h = refl
led_begins false false false false u ws h = absurd h

pub tail_opens : (u : Unit {0}) (ws : List TokenV) → a_tail u ws → Opens begins_tail ws
tail_opens u ws s = record {
  token = s.token;
  rest = s.rest;
  parts = s.parts;
  is = led_begins (is_word (codes "align") s.token) (is_word (codes "section") s.token) (is_word (codes "comdat") s.token) (is_mark 33 s.token) u s.rest s.rest_spells;
}

not_begun : (a s c m : Bool) → not a ≡ true → not s ≡ true → not c ≡ true → not m ≡ true → not (((a || s) || c) || m) ≡ true
not_begun false false false false ea es ec em = refl
not_begun true s c m ea es ec em = absurd cc
not_begun false true c m ea es ec em = absurd cc
not_begun false false true m ea es ec em = absurd cc
not_begun false false false true ea es ec em = absurd cc

-- a type begins none
pub type_no_tail : (t : TokenV) → word_of is_type_word t ≡ true → not (begins_tail t) ≡ true
unfolding is_int_word
type_no_tail t is =
    not_begun (is_word (codes "align") t) (is_word (codes "section") t) (is_word (codes "comdat") t) (is_mark 33 t) (not_word is_type_word (codes "align") refl t is) (not_word is_type_word (codes "section") refl t is)
    (not_word is_type_word (codes "comdat") refl t is) (not_mark is_type_word 33 t is)

word_mark : (w : List ℕ) (b : ℕ) (k : TokenKind) (text : List ℕ) → word_is w k text ≡ true → punct_is (b ∷ []) k text ≡ false
word_mark w b kind.Word text e = refl
word_mark w b kind.Punct text e = absurd cc
word_mark w b kind.GlobalName text e = absurd cc
word_mark w b kind.LocalName text e = absurd cc
word_mark w b kind.Label text e = absurd cc
word_mark w b kind.Integer text e = absurd cc
word_mark w b kind.Text text e = absurd cc

-- no mark but ! begins one
pub tail_mark : (b : ℕ) (t : TokenV) → punct_is (b ∷ []) kind.Punct (33 ∷ []) ≡ false → begins_tail t ≡ true → is_mark b t ≡ false
tail_mark b t other is =
    elim (or_cases _ (is_mark 33 t) is) [
      | inl h ↦ elim (or_cases _ (is_word (codes "comdat") t) h) [
        | inl g ↦ elim (or_cases (is_word (codes "align") t) (is_word (codes "section") t) g) [
          | inl f ↦ word_mark (codes "align") b t.kind t.text f
          | inr f ↦ word_mark (codes "section") b t.kind t.text f
        ]
        | inr g ↦ word_mark (codes "comdat") b t.kind t.text g
      ]
      | inr h ↦ apart 33 b t other h
    ]
