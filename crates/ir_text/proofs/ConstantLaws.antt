-- The laws of constants.
use Rattle.std.proofs.Common.{◌≡◌, ℕ, zero, suc, ◌≤◌, length, arith, Bool, true, false, cond, List, [], ◌∷◌, ◌++◌, Option, Some, None, Result, Ok, Err, refl, sym, ap, subst, ◌∙◌, append_assoc, ◌⊎◌, inl, inr}
use Rattle.std.specs.Prelude.{not, codes}
use Rattle.std.proofs.lemmas.List.{append-nil}
use lib.Pointwise.{bytes_decides}
use Rattle.int_num.specs.Integer.{Integer}
use Rattle.ir_lex.specs.declared.token.TokenKind.{TokenKind}
use Rattle.ir_lex.specs.declared.token.TokenKind.TheVariants as kind
use Rattle.ir_lex.specs.declared.token.Cause.{Cause}
use Rattle.ir_lex.specs.declared.token.Cause.TheVariants as causes
use Rattle.ir_lex.specs.Spelling.{integer_of}
use Rattle.ir_tree.specs.Trees.{TypeV, ConstantV, IntegerC, NullC, ZeroC, TextC, ArrayC, StructC, NameC, AddressC, ElementsV, NoneC, MoreC}
use Rattle.ir_text.specs.declared.nested_constants.Bracket.{Bracket}
use Rattle.ir_text.specs.declared.nested_constants.Bracket.TheVariants as bracket
use Rattle.ir_text.specs.Tokens.{TokenV, same, is_mark, is_word, punct_is, word_is}
use Rattle.ir_text.specs.Reading.{Reader, ◌>>=◌, meant, next_is, token_by}
use Rattle.ir_text.specs.Spelled.{Spelling, InTurn, Led, one_token, nothing, by_test}
use Rattle.ir_text.specs.Lawful.{Behind, anything, Lawful, Refuses}
use Rattle.ir_text.specs.Choice.{Opens}
use Rattle.ir_text.specs.Leaves.{tested, mark, word, string, mark_at, string_at}
use Rattle.ir_text.specs.Repeated.{Both, repeated_under, each_under}
use Rattle.ir_text.specs.Passed.{skipped, skips}
use Rattle.ir_text.specs.Lists.{after_comma, with_comma, list_at, closed_list, behind_item}
use Rattle.ir_text.specs.Types.{Known, register_type, type_at}
use Rattle.ir_text.specs.MemoryTypes.{memory_type_at, a_memory_type}
use Rattle.ir_text.specs.Indices.{is_address_word, address_word, no_type, pointer_type, integer_type, word_of_32, field, Entry, Counted, Field, Never, entry_of, led_to}
use Rattle.ir_text.specs.TypeSpelled.{a_mark, a_word, a_type}
use Rattle.ir_text.specs.Constants.{width_of, integer_in, some_constant, word_constant, simple_by, simple_constant}
use Rattle.ir_text.specs.NestedConstants.{Typed, elements_of, closing_mark, bracket_end, element_at, bracket_rule, packed_rule, text_rule, address_start, counted_at, index_by, index_at, next_into, indices_end, base_end, address_rule, constant_rule, constant_to}
use Rattle.ir_text.specs.ConstantSpelled.{an_address_start, an_index, a_constant, some_elements, more_elements, first_index, more_indices}
use Rattle.ir_text.specs.Operands.{is_local, kind_is_local}
use Rattle.ir_text.proofs.Laws.{nothing_laws, in_turn_before}
use Rattle.ir_text.proofs.Choices.{in_turn, respell, led_more, one_each, token_laws, lower}
use Rattle.ir_text.proofs.ListLaws.{list_laws, closed_laws}
use Rattle.ir_text.proofs.ChoiceLaws.{token_opens, opens_more}
use Rattle.ir_text.proofs.RepeatedLaws.{repeated_laws}
use Rattle.ir_text.proofs.PassedLaws.{skipped_laws}
use Rattle.ir_text.proofs.TailLaws.{comma_opens}
use Rattle.ir_text.proofs.MemoryLaws.{memory_laws}
use Rattle.ir_text.proofs.Marks.{apart, marked, is_marked}
use Rattle.ir_text.proofs.TypeLaws.{type_opens_but}
use Rattle.ir_text.proofs.TypeFuel.{type_laws}

-- ---- constants of one token

abbrev IsSimple : ConstantV → Type 0
IsSimple (IntegerC n) = Unit {0}
IsSimple NullC = Unit {0}
IsSimple ZeroC = Unit {0}
IsSimple (NameC name) = Unit {0}
IsSimple _ = ⊥

abbrev OfSimple : Result ConstantV Cause → Type 0
OfSimple (Ok c) = IsSimple c
OfSimple (Err cause) = Unit {0}

cond_simple : (b : Bool) (r q : Result ConstantV Cause) → OfSimple r → OfSimple q → OfSimple (cond b r q)
cond_simple true r q one two = one
cond_simple false r q one two = two

some_simple : (o : Option Integer) → OfSimple (some_constant o)
some_simple None = tt
some_simple (Some n) = tt

word_simple : (text : List ℕ) → OfSimple (word_constant text)
unfolding word_constant
word_simple text =
    cond_simple (same text (codes "true")) _ _ tt (cond_simple (same text (codes "false")) _ _ tt (cond_simple (same text (codes "null")) (Ok NullC) _ tt (cond_simple (same text (codes "zeroinitializer")) (Ok ZeroC) (Err causes.Operand) tt tt)))

by_simple : (w : ℕ) (k : TokenKind) (t : TokenV) → OfSimple (simple_by w k t)
by_simple w kind.Integer t = some_simple (integer_in w (integer_of t.text))
by_simple w kind.Word t = word_simple t.text
by_simple w kind.GlobalName t = tt
by_simple w kind.Punct t = tt
by_simple w kind.LocalName t = tt
by_simple w kind.Label t = tt
by_simple w kind.Text t = tt

simple_is : (w : ℕ) (t : TokenV) (c : ConstantV) → simple_constant w t ≡ Ok c → IsSimple c
simple_is w t c e = subst OfSimple e (by_simple w t.kind t)

simple_spelled : (known : Known) (w : ℕ) (c : ConstantV) (ws : List TokenV) → IsSimple c → one_token (simple_constant w) c ws → a_constant known w c ws
simple_spelled known w (IntegerC n) ws i o = o
simple_spelled known w NullC ws i o = o
simple_spelled known w ZeroC ws i o = o
simple_spelled known w (NameC name) ws i o = o
simple_spelled known w (TextC bytes) ws i o = absurd i
simple_spelled known w (ArrayC es) ws i o = absurd i
simple_spelled known w (StructC packed es) ws i o = absurd i
simple_spelled known w (AddressC of base indices) ws i o = absurd i

simple_mark : (b w : ℕ) (k : TokenKind) (t : TokenV) (c : ConstantV) → simple_by w k t ≡ Ok c → punct_is (b ∷ []) k t.text ≡ false
simple_mark b w kind.Punct t c e = absurd cc
simple_mark b w kind.GlobalName t c e = refl
simple_mark b w kind.LocalName t c e = refl
simple_mark b w kind.Label t c e = refl
simple_mark b w kind.Integer t c e = refl
simple_mark b w kind.Word t c e = refl
simple_mark b w kind.Text t c e = refl

is_false : (b : Bool) → (b ≡ true → ⊥) → b ≡ false
is_false true h = absurd (h refl)
is_false false h = refl

-- a word that is no constant by itself
simple_word : (word : List ℕ) (w : ℕ) (k : TokenKind) (t : TokenV) (c : ConstantV) → word_constant word ≡ Err causes.Operand → simple_by w k t ≡ Ok c → word_is word k t.text ≡ false
simple_word word w kind.Word t c other e =
    is_false (same t.text word) (λ h.
    let is : t.text ≡ word = (bytes_decides t.text word).0 h in
    let one : word_constant t.text ≡ Err causes.Operand = ap word_constant is ∙ other in
    absurd cc)
simple_word word w kind.Punct t c other e = refl
simple_word word w kind.GlobalName t c other e = refl
simple_word word w kind.LocalName t c other e = refl
simple_word word w kind.Label t c other e = refl
simple_word word w kind.Integer t c other e = refl
simple_word word w kind.Text t c other e = refl

no_text : word_constant (codes "c") ≡ Err causes.Operand
unfolding word_constant
no_text = refl

no_address : word_constant (codes "getelementptr") ≡ Err causes.Operand
unfolding word_constant
no_address = refl

-- another word
word_apart : (word other : List ℕ) (k : TokenKind) (text : List ℕ) → word_is word k text ≡ true → word_is other kind.Word word ≡ false → word_is other k text ≡ false
word_apart word other kind.Word text e apart = let is : text ≡ word = (bytes_decides text word).0 e in rw is apart
word_apart word other kind.Punct text e apart = absurd cc
word_apart word other kind.GlobalName text e apart = absurd cc
word_apart word other kind.LocalName text e apart = absurd cc
word_apart word other kind.Label text e apart = absurd cc
word_apart word other kind.Integer text e apart = absurd cc
word_apart word other kind.Text text e apart = absurd cc

mark_word : (b : ℕ) (word : List ℕ) (k : TokenKind) (text : List ℕ) → punct_is (b ∷ []) k text ≡ true → word_is word k text ≡ false
mark_word b word kind.Punct text e = refl
mark_word b word kind.Word text e = absurd cc
mark_word b word kind.GlobalName text e = absurd cc
mark_word b word kind.LocalName text e = absurd cc
mark_word b word kind.Label text e = absurd cc
mark_word b word kind.Integer text e = absurd cc
mark_word b word kind.Text text e = absurd cc

mark_passes : (b : ℕ) (t : TokenV) → is_mark b t ≡ true → is_address_word t ≡ false
mark_passes b t e =
    let x : is_word (codes "inbounds") t ≡ false = mark_word b (codes "inbounds") t.kind t.text e in
    let y : is_word (codes "nuw") t ≡ false = mark_word b (codes "nuw") t.kind t.text e in
    let z : is_word (codes "nusw") t ≡ false = mark_word b (codes "nusw") t.kind t.text e in
    rw (x, y, z) refl

word_mark : (b : ℕ) (word : List ℕ) (k : TokenKind) (text : List ℕ) → word_is word k text ≡ true → punct_is (b ∷ []) k text ≡ false
word_mark b word kind.Word text e = refl
word_mark b word kind.Punct text e = absurd cc
word_mark b word kind.GlobalName text e = absurd cc
word_mark b word kind.LocalName text e = absurd cc
word_mark b word kind.Label text e = absurd cc
word_mark b word kind.Integer text e = absurd cc
word_mark b word kind.Text text e = absurd cc

-- ---- elements

unlisted : ElementsV → List Typed
unlisted NoneC = []
unlisted (MoreC of value rest) = (of, value) ∷ unlisted rest

relisted : (es : ElementsV) → elements_of (unlisted es) ≡ es
unfolding unlisted
relisted NoneC = refl
relisted (MoreC of value rest) = ap (MoreC of value) (relisted rest)

-- ---- what a first token leads to

module _ (known : Known) where
  abbrev pub an_element : Spelling Typed
  an_element e ws = Both (a_type known e.0) (a_constant known (width_of e.0) e.1) ws

  more_to : (close : ℕ) (all : List Typed) (ws : List TokenV) → behind_item close an_element all ws → more_elements known close (elements_of all) ws
  more_to close [] ws s = s
  more_to close (e ∷ all) ws s = record {
    front = s.front;
    rest = s.rest;
    parts = s.parts;
    first_spells = s.first_spells;
    rest_spells = record { front = s.rest_spells.front; rest = s.rest_spells.rest; parts = s.rest_spells.parts; first_spells = s.rest_spells.first_spells; rest_spells = more_to close all s.rest_spells.rest s.rest_spells.rest_spells };
  }

  elements_to : (close : ℕ) (all : List Typed) (ws : List TokenV) → closed_list close an_element all ws → some_elements known close (elements_of all) ws
  elements_to close [] ws s = s
  elements_to close (e ∷ all) ws s = record { front = s.front; rest = s.rest; parts = s.parts; first_spells = s.first_spells; rest_spells = more_to close all s.rest s.rest_spells }

  more_from : (close : ℕ) (es : ElementsV) (ws : List TokenV) → more_elements known close es ws → behind_item close an_element (unlisted es) ws
  unfolding unlisted
  more_from close NoneC ws s = s
  more_from close (MoreC of value es) ws s = record {
    front = s.front;
    rest = s.rest;
    parts = s.parts;
    first_spells = s.first_spells;
    rest_spells = record { front = s.rest_spells.front; rest = s.rest_spells.rest; parts = s.rest_spells.parts; first_spells = s.rest_spells.first_spells; rest_spells = more_from close es s.rest_spells.rest s.rest_spells.rest_spells };
  }

  elements_from : (close : ℕ) (es : ElementsV) (ws : List TokenV) → some_elements known close es ws → closed_list close an_element (unlisted es) ws
  unfolding unlisted
  elements_from close NoneC ws s = s
  elements_from close (MoreC of value es) ws s = record { front = s.front; rest = s.rest; parts = s.parts; first_spells = s.first_spells; rest_spells = more_from close es s.rest s.rest_spells }

  abbrev ended : Bracket → ElementsV → Spelling ConstantV
  ended bracket.Array es = nothing (ArrayC es)
  ended bracket.Struct es = nothing (StructC false es)
  ended bracket.Packed es = InTurn (one_token (mark 62)) (λ _. nothing (StructC true es))

  abbrev in_brackets : Bracket → Spelling ConstantV
  in_brackets kind = InTurn (closed_list (closing_mark kind) an_element) (λ all. ended kind (elements_of all))

  abbrev a_packed : Spelling ConstantV
  a_packed = InTurn (one_token (mark 123)) (λ _. in_brackets bracket.Packed)

  abbrev a_text : Spelling ConstantV
  a_text = InTurn (one_token string) (λ bytes. nothing (TextC bytes))

  abbrev pub index_spelled : Entry → Spelling Typed
  index_spelled entry e ws = an_index entry e.0 e.1 (a_constant known (width_of e.0) e.1) ws

  abbrev next_by : Option TypeV → Typed → Option TypeV
  next_by into e = led_to (entry_of known into) e.1

  abbrev some_indices : Option TypeV → Spelling (List Typed)
  some_indices = each_under (λ into. with_comma (index_spelled (entry_of known into))) next_by

  abbrev an_end : TypeV → ConstantV → List Typed → Option TypeV → Spelling ConstantV
  an_end of base front into = InTurn (some_indices into) (λ others. InTurn (one_token (mark 41)) (λ _. nothing (AddressC of base (elements_of (front ++ others)))))

  abbrev a_base_end : TypeV → ConstantV → Spelling ConstantV
  a_base_end of base = InTurn (one_token (mark 44)) (λ _. InTurn (index_spelled (Counted None)) (λ first. an_end of base (first ∷ []) (Some of)))

  abbrev an_address : Spelling ConstantV
  an_address = InTurn (an_address_start known) (λ of. InTurn (a_constant known 64) (λ base. a_base_end of base))

  abbrev a_simple : ℕ → TokenV → Spelling ConstantV
  a_simple w t a ws = (simple_constant w t ≡ Ok a) × (ws ≡ [])

  abbrev constant_led : ℕ → TokenV → Spelling ConstantV
  constant_led w t = by_test (is_mark 91 t) (in_brackets bracket.Array) (by_test (is_mark 123 t) (in_brackets bracket.Struct) (by_test (is_mark 60 t) a_packed (by_test (is_word (codes "c") t) a_text (by_test (is_word (codes "getelementptr") t) an_address (a_simple w t)))))

  last_nothing : {A : Type 0} (a b : A) (ws front rest : List TokenV) → ws ≡ front ++ rest → nothing a b rest → (a ≡ b) × (ws ≡ front)
  last_nothing a b ws front rest parts s = (s.0, parts ∙ ap (λ (u : List TokenV). front ++ u) s.1 ∙ append-nil front)

  unit_mark : (b : ℕ) (u : Unit {0}) (ws : List TokenV) → one_token (mark b) u ws → a_mark b ws
  unit_mark b u ws s = s

  worded : (w : List ℕ) (t : TokenV) → is_word w t ≡ true → a_word w (t ∷ [])
  worded w t e = record { token = t; parts = refl; is = rw e refl }

  array_to : (w : ℕ) (t : TokenV) (c : ConstantV) (ws : List TokenV) → is_mark 91 t ≡ true → in_brackets bracket.Array c ws → a_constant known w c (t ∷ ws)
  array_to w t c ws e s =
      let end = last_nothing (ArrayC (elements_of s.value)) c ws s.front s.rest s.parts s.rest_spells in
      subst (λ (x : ConstantV). a_constant known w x (t ∷ ws)) end.0 (record { front = t ∷ []; rest = ws; parts = refl; first_spells = marked 91 t e; rest_spells = subst (λ (u : List TokenV). some_elements known 93 (elements_of s.value) u) (sym end.1) (elements_to 93 s.value s.front s.first_spells) })

  struct_to : (w : ℕ) (t : TokenV) (c : ConstantV) (ws : List TokenV) → is_mark 123 t ≡ true → in_brackets bracket.Struct c ws → a_constant known w c (t ∷ ws)
  struct_to w t c ws e s =
      let end = last_nothing (StructC false (elements_of s.value)) c ws s.front s.rest s.parts s.rest_spells in
      subst (λ (x : ConstantV). a_constant known w x (t ∷ ws)) end.0 (record { front = t ∷ []; rest = ws; parts = refl; first_spells = marked 123 t e; rest_spells = subst (λ (u : List TokenV). some_elements known 125 (elements_of s.value) u) (sym end.1) (elements_to 125 s.value s.front s.first_spells) })

  packed_to : (w : ℕ) (t : TokenV) (c : ConstantV) (ws : List TokenV) → is_mark 60 t ≡ true → a_packed c ws → a_constant known w c (t ∷ ws)
  packed_to w t c ws e s =
      let fields = s.rest_spells in
      let close = fields.rest_spells in
      let end = last_nothing (StructC true (elements_of fields.value)) c fields.rest close.front close.rest close.parts close.rest_spells in
      let whole : ws ≡ s.front ++ (fields.front ++ close.front) = s.parts ∙ ap (λ (u : List TokenV). s.front ++ u) (fields.parts ∙ ap (λ (u : List TokenV). fields.front ++ u) end.1) in
      subst (λ (x : ConstantV). a_constant known w x (t ∷ ws)) end.0 (record {
        front = t ∷ [];
        rest = ws;
        parts = refl;
        first_spells = marked 60 t e;
        rest_spells = record {
          front = s.front;
          rest = fields.front ++ close.front;
          parts = whole;
          first_spells = unit_mark 123 s.value s.front s.first_spells;
          rest_spells = record { front = fields.front; rest = close.front; parts = refl; first_spells = elements_to 125 fields.value fields.front fields.first_spells; rest_spells = unit_mark 62 close.value close.front close.first_spells };
        };
      })

  text_to : (w : ℕ) (t : TokenV) (c : ConstantV) (ws : List TokenV) → is_word (codes "c") t ≡ true → a_text c ws → a_constant known w c (t ∷ ws)
  text_to w t c ws e s =
      let end = last_nothing (TextC s.value) c ws s.front s.rest s.parts s.rest_spells in
      subst (λ (x : ConstantV). a_constant known w x (t ∷ ws)) end.0 (record { front = t ∷ []; rest = ws; parts = refl; first_spells = worded (codes "c") t e; rest_spells = subst (one_token string s.value) (sym end.1) s.first_spells })

  indices_to : (into : Option TypeV) (others : List Typed) (us vs : List TokenV) → some_indices into others us → a_mark 41 vs → more_indices known into (elements_of others) (us ++ vs)
  indices_to into [] us vs s m = rw s m
  indices_to into (e ∷ others) us vs s m =
      let c = s.first_spells in
      record {
        front = c.front;
        rest = c.rest ++ (s.rest ++ vs);
        parts = ap (λ (u : List TokenV). u ++ vs) (s.parts ∙ ap (λ (u : List TokenV). u ++ s.rest) c.parts) ∙ append_assoc (c.front ++ c.rest) s.rest vs ∙ append_assoc c.front c.rest (s.rest ++ vs);
        first_spells = unit_mark 44 c.value c.front c.first_spells;
        rest_spells = record { front = c.rest; rest = s.rest ++ vs; parts = refl; first_spells = c.rest_spells; rest_spells = indices_to (next_by into e) others s.rest vs s.rest_spells m };
      }

  address_to : (w : ℕ) (t : TokenV) (c : ConstantV) (ws : List TokenV) → is_word (codes "getelementptr") t ≡ true → an_address c ws → a_constant known w c (t ∷ ws)
  address_to w t c ws x s =
      let b = s.rest_spells in
      let e = b.rest_spells in
      let f = e.rest_spells in
      let g = f.rest_spells in
      let h = g.rest_spells in
      let end = last_nothing (AddressC s.value b.value (elements_of (f.value ∷ g.value))) c g.rest h.front h.rest h.parts h.rest_spells in
      let others : more_indices known (Some s.value) (elements_of g.value) (g.front ++ h.front) = indices_to (Some s.value) g.value g.front h.front g.first_spells (unit_mark 41 h.value h.front h.first_spells) in
      let whole : f.rest ≡ g.front ++ h.front = g.parts ∙ ap (λ (u : List TokenV). g.front ++ u) end.1 in
      subst (λ (y : ConstantV). a_constant known w y (t ∷ ws)) end.0 (record {
        front = t ∷ [];
        rest = ws;
        parts = refl;
        first_spells = worded (codes "getelementptr") t x;
        rest_spells = record {
          front = s.front;
          rest = s.rest;
          parts = s.parts;
          first_spells = s.first_spells;
          rest_spells = record {
            front = b.front;
            rest = b.rest;
            parts = b.parts;
            first_spells = b.first_spells;
            rest_spells = record {
              front = e.front;
              rest = e.rest;
              parts = e.parts;
              first_spells = unit_mark 44 e.value e.front e.first_spells;
              rest_spells = record { front = f.front; rest = f.rest; parts = f.parts; first_spells = f.first_spells; rest_spells = subst (λ (u : List TokenV). more_indices known (Some s.value) (elements_of g.value) u) (sym whole) others };
            };
          };
        };
      })

  simple_to : (w : ℕ) (t : TokenV) (c : ConstantV) (ws : List TokenV) → a_simple w t c ws → a_constant known w c (t ∷ ws)
  simple_to w t c ws s = simple_spelled known w c (t ∷ ws) (simple_is w t c s.0) (subst (λ (u : List TokenV). one_token (simple_constant w) c (t ∷ u)) (sym s.1) (record { token = t; parts = refl; is = s.0 }))

  first_to : (w : ℕ) (t : TokenV) (a s p x y : Bool) → is_mark 91 t ≡ a → is_mark 123 t ≡ s → is_mark 60 t ≡ p → is_word (codes "c") t ≡ x → is_word (codes "getelementptr") t ≡ y → (c : ConstantV) (ws : List TokenV)
      → by_test a (in_brackets bracket.Array) (by_test s (in_brackets bracket.Struct) (by_test p a_packed (by_test x a_text (by_test y an_address (a_simple w t))))) c ws → a_constant known w c (t ∷ ws)
  first_to w t true s p x y e d f g i c ws h = array_to w t c ws e h
  first_to w t false true p x y e d f g i c ws h = struct_to w t c ws d h
  first_to w t false false true x y e d f g i c ws h = packed_to w t c ws f h
  first_to w t false false false true y e d f g i c ws h = text_to w t c ws g h
  first_to w t false false false false true e d f g i c ws h = address_to w t c ws i h
  first_to w t false false false false false e d f g i c ws h = simple_to w t c ws h

  to_spelled : (w : ℕ) (c : ConstantV) (ws : List TokenV) → Led (constant_led w) c ws → a_constant known w c ws
  to_spelled w c ws l = subst (λ (u : List TokenV). a_constant known w c u) (sym l.parts) (first_to w l.token (is_mark 91 l.token) (is_mark 123 l.token) (is_mark 60 l.token) (is_word (codes "c") l.token) (is_word (codes "getelementptr") l.token) refl refl refl refl refl c l.rest l.rest_spells)

  -- ---- and back

  open_array : (w : ℕ) (t : TokenV) (c : ConstantV) (ws : List TokenV) → is_mark 91 t ≡ true → in_brackets bracket.Array c ws → constant_led w t c ws
  open_array w t c ws e s = rw e s

  open_struct : (w : ℕ) (t : TokenV) (c : ConstantV) (ws : List TokenV) → is_mark 123 t ≡ true → in_brackets bracket.Struct c ws → constant_led w t c ws
  open_struct w t c ws e s = let a : is_mark 91 t ≡ false = apart 123 91 t refl e in rw (a, e) s

  open_packed : (w : ℕ) (t : TokenV) (c : ConstantV) (ws : List TokenV) → is_mark 60 t ≡ true → a_packed c ws → constant_led w t c ws
  open_packed w t c ws e s =
      let a : is_mark 91 t ≡ false = apart 60 91 t refl e in
      let b : is_mark 123 t ≡ false = apart 60 123 t refl e in
      rw (a, b, e) s

  open_text : (w : ℕ) (t : TokenV) (c : ConstantV) (ws : List TokenV) → is_word (codes "c") t ≡ true → a_text c ws → constant_led w t c ws
  open_text w t c ws e s =
      let a : is_mark 91 t ≡ false = word_mark 91 (codes "c") t.kind t.text e in
      let b : is_mark 123 t ≡ false = word_mark 123 (codes "c") t.kind t.text e in
      let p : is_mark 60 t ≡ false = word_mark 60 (codes "c") t.kind t.text e in
      rw (a, b, p, e) s

  open_address : (w : ℕ) (t : TokenV) (c : ConstantV) (ws : List TokenV) → is_word (codes "getelementptr") t ≡ true → an_address c ws → constant_led w t c ws
  open_address w t c ws e s =
      let a : is_mark 91 t ≡ false = word_mark 91 (codes "getelementptr") t.kind t.text e in
      let b : is_mark 123 t ≡ false = word_mark 123 (codes "getelementptr") t.kind t.text e in
      let p : is_mark 60 t ≡ false = word_mark 60 (codes "getelementptr") t.kind t.text e in
      let x : is_word (codes "c") t ≡ false = word_apart (codes "getelementptr") (codes "c") t.kind t.text e refl in
      rw (a, b, p, x, e) s

  open_simple : (w : ℕ) (t : TokenV) (c : ConstantV) → simple_constant w t ≡ Ok c → constant_led w t c []
  open_simple w t c e =
      let a : is_mark 91 t ≡ false = simple_mark 91 w t.kind t c e in
      let b : is_mark 123 t ≡ false = simple_mark 123 w t.kind t c e in
      let p : is_mark 60 t ≡ false = simple_mark 60 w t.kind t c e in
      let x : is_word (codes "c") t ≡ false = simple_word (codes "c") w t.kind t c no_text e in
      let y : is_word (codes "getelementptr") t ≡ false = simple_word (codes "getelementptr") w t.kind t c no_address e in
      rw (a, b, p, x, y) (e, refl)

  from_simple : (w : ℕ) (c : ConstantV) (ws : List TokenV) → one_token (simple_constant w) c ws → Led (constant_led w) c ws
  from_simple w c ws s = record { token = s.token; rest = []; parts = s.parts; rest_spells = open_simple w s.token c s.is }

  -- a token and what stands behind it
  after_one : {A : Type 0} (a : A) (means : TokenV → Result A Cause) (others : List TokenV → Type 0) (ws : List TokenV) (s : Both (one_token means a) others ws) → ws ≡ s.first_spells.token ∷ s.rest
  after_one a means others ws s = s.parts ∙ ap (λ (u : List TokenV). u ++ s.rest) s.first_spells.parts

  array_from : (es : ElementsV) (ws : List TokenV) → some_elements known 93 es ws → in_brackets bracket.Array (ArrayC es) ws
  array_from es ws s = record { value = unlisted es; front = ws; rest = []; parts = sym (append-nil ws); first_spells = elements_from 93 es ws s; rest_spells = (ap ArrayC (relisted es), refl) }

  struct_from : (es : ElementsV) (ws : List TokenV) → some_elements known 125 es ws → in_brackets bracket.Struct (StructC false es) ws
  struct_from es ws s = record { value = unlisted es; front = ws; rest = []; parts = sym (append-nil ws); first_spells = elements_from 125 es ws s; rest_spells = (ap (StructC false) (relisted es), refl) }

  packed_from : (es : ElementsV) (ws : List TokenV) → Both (a_mark 123) (Both (some_elements known 125 es) (a_mark 62)) ws → a_packed (StructC true es) ws
  packed_from es ws s =
      let f = s.rest_spells in
      record {
        value = tt;
        front = s.front;
        rest = s.rest;
        parts = s.parts;
        first_spells = s.first_spells;
        rest_spells = record {
          value = unlisted es;
          front = f.front;
          rest = f.rest;
          parts = f.parts;
          first_spells = elements_from 125 es f.front f.first_spells;
          rest_spells = record { value = tt; front = f.rest; rest = []; parts = sym (append-nil f.rest); first_spells = f.rest_spells; rest_spells = (ap (StructC true) (relisted es), refl) };
        };
      }

  text_from : (bytes : List ℕ) (ws : List TokenV) → one_token string bytes ws → a_text (TextC bytes) ws
  text_from bytes ws s = record { value = bytes; front = ws; rest = []; parts = sym (append-nil ws); first_spells = s; rest_spells = (refl, refl) }

  -- the indices behind the first, and the mark
  record SplitIndices (into : Option TypeV) (es : ElementsV) (ws : List TokenV) : Type 0 where
    front : List TokenV
    end : List TokenV
    parts : ws ≡ front ++ end
    items : some_indices into (unlisted es) front
    closes : a_mark 41 end

  indices_from : (into : Option TypeV) (es : ElementsV) (ws : List TokenV) → more_indices known into es ws → SplitIndices into es ws
  unfolding unlisted
  indices_from into NoneC ws s = record { front = []; end = ws; parts = refl; items = refl; closes = s }
  indices_from into (MoreC of value es) ws s =
      let i = s.rest_spells in
      let more = indices_from (led_to (entry_of known into) value) es i.rest i.rest_spells in
      record {
        front = (s.front ++ i.front) ++ more.front;
        end = more.end;
        parts = s.parts ∙ ap (λ (u : List TokenV). s.front ++ u) (i.parts ∙ ap (λ (u : List TokenV). i.front ++ u) more.parts) ∙ sym (append_assoc s.front i.front (more.front ++ more.end)) ∙ sym (append_assoc (s.front ++ i.front) more.front more.end);
        items = record { front = s.front ++ i.front; rest = more.front; parts = refl; first_spells = record { value = tt; front = s.front; rest = i.front; parts = refl; first_spells = s.first_spells; rest_spells = i.first_spells }; rest_spells = more.items };
        closes = more.closes;
      }

  address_from : (of : TypeV) (base : ConstantV) (es : ElementsV) (ws : List TokenV) → Both (an_address_start known of) (Both (a_constant known 64 base) (first_index known of es)) ws → an_address (AddressC of base es) ws
  address_from of base NoneC ws s = absurd s.rest_spells.rest_spells
  address_from of base (MoreC t c rest) ws s =
      let b = s.rest_spells in
      let i = b.rest_spells in
      let f = i.rest_spells in
      let m = indices_from (Some of) rest f.rest f.rest_spells in
      record {
        value = of;
        front = s.front;
        rest = s.rest;
        parts = s.parts;
        first_spells = s.first_spells;
        rest_spells = record {
          value = base;
          front = b.front;
          rest = b.rest;
          parts = b.parts;
          first_spells = b.first_spells;
          rest_spells = record {
            value = tt;
            front = i.front;
            rest = i.rest;
            parts = i.parts;
            first_spells = i.first_spells;
            rest_spells = record {
              value = (t, c);
              front = f.front;
              rest = f.rest;
              parts = f.parts;
              first_spells = f.first_spells;
              rest_spells = record {
                value = unlisted rest;
                front = m.front;
                rest = m.end;
                parts = m.parts;
                first_spells = m.items;
                rest_spells = record { value = tt; front = m.end; rest = []; parts = sym (append-nil m.end); first_spells = m.closes; rest_spells = (ap (λ (es : ElementsV). AddressC of base (MoreC t c es)) (relisted rest), refl) };
              };
            };
          };
        };
      }

  is_worded : (w : List ℕ) (ws : List TokenV) (s : a_word w ws) → is_word w s.token ≡ true
  is_worded w ws s = tested_is (is_word w s.token) s.is
    where
      tested_is : (b : Bool) → tested b causes.Operand ≡ Ok tt → b ≡ true
      tested_is true e = refl
      tested_is false e = absurd cc

  from_spelled : (w : ℕ) (c : ConstantV) (ws : List TokenV) → a_constant known w c ws → Led (constant_led w) c ws
  from_spelled w (IntegerC n) ws s = from_simple w (IntegerC n) ws s
  from_spelled w NullC ws s = from_simple w NullC ws s
  from_spelled w ZeroC ws s = from_simple w ZeroC ws s
  from_spelled w (NameC name) ws s = from_simple w (NameC name) ws s
  from_spelled w (AddressC of base indices) ws s = record { token = s.first_spells.token; rest = s.rest; parts = after_one tt (word (codes "getelementptr")) _ ws s; rest_spells = open_address w s.first_spells.token (AddressC of base indices) s.rest (is_worded (codes "getelementptr") s.front s.first_spells) (address_from of base indices s.rest s.rest_spells) }
  from_spelled w (TextC bytes) ws s = record { token = s.first_spells.token; rest = s.rest; parts = after_one tt (word (codes "c")) _ ws s; rest_spells = open_text w s.first_spells.token (TextC bytes) s.rest (is_worded (codes "c") s.front s.first_spells) (text_from bytes s.rest s.rest_spells) }
  from_spelled w (ArrayC es) ws s = record { token = s.first_spells.token; rest = s.rest; parts = after_one tt (mark 91) _ ws s; rest_spells = open_array w s.first_spells.token (ArrayC es) s.rest (is_marked 91 s.front s.first_spells) (array_from es s.rest s.rest_spells) }
  from_spelled w (StructC false es) ws s = record { token = s.first_spells.token; rest = s.rest; parts = after_one tt (mark 123) _ ws s; rest_spells = open_struct w s.first_spells.token (StructC false es) s.rest (is_marked 123 s.front s.first_spells) (struct_from es s.rest s.rest_spells) }
  from_spelled w (StructC true es) ws s = record { token = s.first_spells.token; rest = s.rest; parts = after_one tt (mark 60) _ ws s; rest_spells = open_packed w s.first_spells.token (StructC true es) s.rest (is_marked 60 s.front s.first_spells) (packed_from es s.rest s.rest_spells) }

  -- ---- the laws

  element_opens : (kind : Bracket) (e : Typed) (ws : List TokenV) → an_element e ws → Opens (λ t. not (is_mark (closing_mark kind) t)) ws
  element_opens kind e ws s =
      let o = opens kind s.front s.first_spells in
      record { token = o.token; rest = o.rest ++ s.rest; parts = s.parts ∙ ap (λ (u : List TokenV). u ++ s.rest) o.parts; is = o.is }
    where
      opens : (b : Bracket) (us : List TokenV) → a_type known e.0 us → Opens (λ t. not (is_mark (closing_mark b) t)) us
      opens bracket.Array us h = type_opens_but known 93 refl refl refl e.0 us h
      opens bracket.Struct us h = type_opens_but known 125 refl refl refl e.0 us h
      opens bracket.Packed us h = type_opens_but known 125 refl refl refl e.0 us h

  closing_apart : (kind : Bracket) (t : TokenV) → is_mark (closing_mark kind) t ≡ true → is_mark 44 t ≡ false
  closing_apart bracket.Array t e = apart 93 44 t refl e
  closing_apart bracket.Struct t e = apart 125 44 t refl e
  closing_apart bracket.Packed t e = apart 125 44 t refl e

  pair_to : (s : Spelling TypeV) (q : TypeV → Spelling ConstantV) (e : Typed) (ws : List TokenV) → InTurn s (λ of. InTurn (q of) (λ c. nothing (of, c))) e ws → Both (s e.0) (q e.0 e.1) ws
  pair_to s q e ws t =
      let v = t.rest_spells in
      let end = last_nothing (let p : Typed = (t.value, v.value) in p) e t.rest v.front v.rest v.parts v.rest_spells in
      subst (λ (x : Typed). Both (s x.0) (q x.0 x.1) ws) end.0 (record { front = t.front; rest = v.front; parts = t.parts ∙ ap (λ (u : List TokenV). t.front ++ u) end.1; first_spells = t.first_spells; rest_spells = v.first_spells })

  pair_from : (s : Spelling TypeV) (q : TypeV → Spelling ConstantV) (e : Typed) (ws : List TokenV) → Both (s e.0) (q e.0 e.1) ws → InTurn s (λ of. InTurn (q of) (λ c. nothing (of, c))) e ws
  pair_from s q e ws t = record { value = e.0; front = t.front; rest = t.rest; parts = t.parts; first_spells = t.first_spells; rest_spells = record { value = e.1; front = t.rest; rest = []; parts = sym (append-nil t.rest); first_spells = t.rest_spells; rest_spells = (refl, refl) } }

  -- a type, and a constant by it
  pair_laws : (n : ℕ) (r : Reader TypeV) (f : TypeV → Reader ConstantV) (s : Spelling TypeV) (q : TypeV → Spelling ConstantV) → Lawful n anything r s → ((of : TypeV) → Lawful n anything (f of) (q of))
      → Lawful n anything (λ ts. r ts >>= λ of. f of.0 of.1 >>= λ value. Ok ((of.0, value.0), value.1)) (λ (e : Typed) ws. Both (s e.0) (q e.0 e.1) ws)
  pair_laws n r f s q first others =
      respell n anything (λ ts. r ts >>= λ of. f of.0 of.1 >>= λ value. Ok ((of.0, value.0), value.1)) (InTurn s (λ of. InTurn (q of) (λ c. nothing (of, c)))) (λ (e : Typed) ws. Both (s e.0) (q e.0 e.1) ws) (pair_to s q) (pair_from s q)
      (in_turn n anything r (λ of ts. f of ts >>= λ value. Ok ((of, value.0), value.1)) s (λ of. InTurn (q of) (λ c. nothing (of, c))) first
      (λ of. in_turn n anything (f of) (λ c ts. Ok ((of, c), ts)) (q of) (λ c. nothing (of, c)) (others of) (λ c. nothing_laws n anything (of, c))))

  -- ---- where an address starts

  abbrev start_turns : Spelling TypeV
  start_turns = InTurn (skips (one_token address_word)) (λ _. InTurn (one_token (mark 40)) (λ _. InTurn (a_memory_type known) (λ of. InTurn (one_token (mark 44)) (λ _. InTurn (one_token pointer_type) (λ _. nothing of)))))

  start_to : (of : TypeV) (ws : List TokenV) → start_turns of ws → an_address_start known of ws
  start_to of ws s =
      let a = s.rest_spells in
      let m = a.rest_spells in
      let k = m.rest_spells in
      let p = k.rest_spells in
      let end = last_nothing m.value of k.rest p.front p.rest p.parts p.rest_spells in
      subst (λ (x : TypeV). an_address_start known x ws) end.0 (record {
        front = s.front;
        rest = s.rest;
        parts = s.parts;
        first_spells = s.first_spells;
        rest_spells = record {
          front = a.front;
          rest = a.rest;
          parts = a.parts;
          first_spells = unit_mark 40 a.value a.front a.first_spells;
          rest_spells = record {
            front = m.front;
            rest = m.rest;
            parts = m.parts;
            first_spells = m.first_spells;
            rest_spells = record { front = k.front; rest = k.rest; parts = k.parts; first_spells = unit_mark 44 k.value k.front k.first_spells; rest_spells = subst (λ (u : List TokenV). one_token pointer_type tt u) (sym end.1) p.first_spells };
          };
        };
      })

  start_from : (of : TypeV) (ws : List TokenV) → an_address_start known of ws → start_turns of ws
  start_from of ws s =
      let a = s.rest_spells in
      let m = a.rest_spells in
      let k = m.rest_spells in
      record {
        value = tt;
        front = s.front;
        rest = s.rest;
        parts = s.parts;
        first_spells = s.first_spells;
        rest_spells = record {
          value = tt;
          front = a.front;
          rest = a.rest;
          parts = a.parts;
          first_spells = a.first_spells;
          rest_spells = record {
            value = of;
            front = m.front;
            rest = m.rest;
            parts = m.parts;
            first_spells = m.first_spells;
            rest_spells = record { value = tt; front = k.front; rest = k.rest; parts = k.parts; first_spells = k.first_spells; rest_spells = record { value = tt; front = k.rest; rest = []; parts = sym (append-nil k.rest); first_spells = k.rest_spells; rest_spells = (refl, refl) } };
          };
        };
      }

  -- a mark stands behind the words
  words_end : {A : Type 0} (q : Unit {0} → Spelling A) (u : Unit {0}) (a : A) (ws rest : List TokenV) → InTurn (one_token (mark 40)) q a ws → anything rest → Behind is_address_word anything (ws ++ rest)
  unfolding next_is
  words_end q u a ws rest s b =
      let o = opens_more (is_mark 40) (one_token (mark 40)) q (token_opens (is_mark 40) (λ _. causes.Operand)) a ws s in
      record { none = ap (λ (v : List TokenV). next_is is_address_word (v ++ rest)) o.parts ∙ mark_passes 40 o.token o.is; fits = tt }

  pub start_laws : (n : ℕ) → Lawful n anything (address_start known) (an_address_start known)
  start_laws n =
      respell n anything (address_start known) start_turns (an_address_start known) start_to start_from
      (in_turn_before n (Behind is_address_word anything) anything (skipped is_address_word (token_by address_word)) (λ _ ts. mark_at 40 ts >>= λ start. memory_type_at known start.1 >>= λ of. mark_at 44 of.1 >>= λ comma. token_by pointer_type comma.1 >>= λ pointer. Ok (of.0, pointer.1)) (skips (one_token address_word)) _
      (skipped_laws n is_address_word (token_by address_word) (one_token address_word) anything (token_laws n address_word) (token_opens is_address_word (λ _. causes.Operand)) (λ a ws rest s. tt))
      (λ _. in_turn n anything (mark_at 40) (λ _ ts. memory_type_at known ts >>= λ of. mark_at 44 of.1 >>= λ comma. token_by pointer_type comma.1 >>= λ pointer. Ok (of.0, pointer.1)) (one_token (mark 40)) _ (token_laws n (mark 40))
      (λ _. in_turn n anything (memory_type_at known) (λ of ts. mark_at 44 ts >>= λ comma. token_by pointer_type comma.1 >>= λ pointer. Ok (of, pointer.1)) (a_memory_type known) _ (memory_laws known n)
      (λ of. in_turn n anything (mark_at 44) (λ _ ts. token_by pointer_type ts >>= λ pointer. Ok (of, pointer.1)) (one_token (mark 44)) _ (token_laws n (mark 44))
      (λ _. in_turn n anything (token_by pointer_type) (λ _ ts. Ok (of, ts)) (one_token pointer_type) (λ _. nothing of) (token_laws n pointer_type) (λ _. nothing_laws n anything of)))))
      (words_end _))

  never_spelled : (e : Typed) (ws : List TokenV) → one_token (λ t. no_type {A = Typed} (register_type t)) e ws → ⊥
  never_spelled e ws s = by (register_type s.token) s.is
    where
      by : (r : Result TypeV Cause) → no_type {A = Typed} r ≡ Ok e → ⊥
      by (Ok of) h = absurd cc
      by (Err cause) h = absurd cc

  pub index_some : (entry : Entry) (e : Typed) (ws : List TokenV) → index_spelled entry e ws → 1 ≤ length ws
  index_some (Counted into) e ws s = let size : length ws ≡ suc (length s.rest) = ap length (after_one e.0 integer_type _ ws s) in omega arith
  index_some (Field fields) e ws s = let size : length ws ≡ suc (length s.rest) = ap length (after_one e.0 word_of_32 _ ws s) in omega arith
  index_some Never e ws s = absurd s

  module _ (n : ℕ) (rule : ℕ → Reader ConstantV) (laws : (w : ℕ) → Lawful n anything (rule w) (a_constant known w)) where
    pub element_laws : Lawful n anything (element_at known rule) an_element
    element_laws = pair_laws n (type_at known) (λ of. rule (width_of of)) (a_type known) (λ of. a_constant known (width_of of)) (type_laws known n) (λ of. laws (width_of of))

    pub index_laws : (entry : Entry) → Lawful n anything (index_by known rule entry) (index_spelled entry)
    index_laws (Counted into) = pair_laws n (token_by integer_type) (λ of. rule (width_of of)) (one_token integer_type) (λ of. a_constant known (width_of of)) (token_laws n integer_type) (λ of. laws (width_of of))
    index_laws (Field fields) = pair_laws n (token_by word_of_32) (λ of. token_by (field fields)) (one_token word_of_32) (λ of. one_token (field fields)) (token_laws n word_of_32) (λ of. token_laws n (field fields))
    index_laws Never = respell n anything (token_by (λ t. no_type (register_type t))) (one_token (λ t. no_type (register_type t))) (index_spelled Never) never_spelled (λ e ws s. absurd s) (token_laws n (λ t. no_type (register_type t)))

    indices_laws : (into : Option TypeV) → Lawful n (Behind (is_mark 44) anything) (repeated_under (is_mark 44) (λ i. after_comma (index_at known rule i)) (next_into known rule) into) (some_indices into)
    indices_laws into =
        repeated_laws n (is_mark 44) (λ i. after_comma (index_at known rule i)) (next_into known rule) (λ i. with_comma (index_spelled (entry_of known i))) anything
        (λ i. in_turn n anything (mark_at 44) (λ _. index_at known rule i) (one_token (mark 44)) (λ _. index_spelled (entry_of known i)) (token_laws n (mark 44)) (λ _. index_laws (entry_of known i)))
        (λ i a ws t. comma_opens (index_spelled (entry_of known i)) a ws t) (λ i a ws rest t. tt) into

    indices_ended : (of : TypeV) (base : ConstantV) (front others : List Typed) (c : ConstantV) (ws rest : List TokenV) → InTurn (one_token (mark 41)) (λ _. nothing (AddressC of base (elements_of (front ++ others)))) c ws → anything rest → Behind (is_mark 44) anything (ws ++ rest)
    unfolding next_is
    indices_ended of base front others c ws rest s b =
        let o = opens_more (is_mark 41) (one_token (mark 41)) (λ _. nothing (AddressC of base (elements_of (front ++ others)))) (token_opens (is_mark 41) (λ _. causes.Operand)) c ws s in
        record { none = ap (λ (v : List TokenV). next_is (is_mark 44) (v ++ rest)) o.parts ∙ apart 41 44 o.token refl o.is; fits = tt }

    end_laws : (of : TypeV) (base : ConstantV) (front : List Typed) (into : Option TypeV) → Lawful n anything (indices_end known rule of base front into) (an_end of base front into)
    unfolding indices_end
    end_laws of base front into =
        in_turn_before n (Behind (is_mark 44) anything) anything (repeated_under (is_mark 44) (λ i. after_comma (index_at known rule i)) (next_into known rule) into) (λ others ts. mark_at 41 ts >>= λ close. Ok (AddressC of base (elements_of (front ++ others)), close.1)) (some_indices into) (λ others. InTurn (one_token (mark 41)) (λ _. nothing (AddressC of base (elements_of (front ++ others)))))
        (indices_laws into)
        (λ others. in_turn n anything (mark_at 41) (λ _ ts. Ok (AddressC of base (elements_of (front ++ others)), ts)) (one_token (mark 41)) (λ _. nothing (AddressC of base (elements_of (front ++ others)))) (token_laws n (mark 41)) (λ _. nothing_laws n anything (AddressC of base (elements_of (front ++ others)))))
        (indices_ended of base front)

    base_laws : (of : TypeV) (base : ConstantV) → Lawful n anything (λ ts. base_end known rule of (base, ts)) (a_base_end of base)
    unfolding base_end
    base_laws of base =
        in_turn n anything (mark_at 44) (λ _ ts. counted_at known rule ts >>= λ first. indices_end known rule of base (first.0 ∷ []) (Some of) first.1) (one_token (mark 44)) (λ _. InTurn (index_spelled (Counted None)) (λ first. an_end of base (first ∷ []) (Some of))) (token_laws n (mark 44))
        (λ _. in_turn n anything (counted_at known rule) (λ first ts. indices_end known rule of base (first ∷ []) (Some of) ts) (index_spelled (Counted None)) (λ first. an_end of base (first ∷ []) (Some of)) (index_laws (Counted None)) (λ first. end_laws of base (first ∷ []) (Some of)))

    address_laws : Lawful n anything (address_rule known rule) an_address
    address_laws =
        in_turn n anything (address_start known) (λ of ts. rule 64 ts >>= base_end known rule of) (an_address_start known) (λ of. InTurn (a_constant known 64) (λ base. a_base_end of base)) (start_laws n)
        (λ of. in_turn n anything (rule 64) (λ base ts. base_end known rule of (base, ts)) (a_constant known 64) (λ base. a_base_end of base) (laws 64) (λ base. base_laws of base))

    some_laws : (kind : Bracket) → Lawful n anything (list_at (closing_mark kind) (element_at known rule)) (closed_list (closing_mark kind) an_element)
    some_laws kind = closed_laws (closing_mark kind) an_element n (element_at known rule) (list_laws n (element_at known rule) an_element anything element_laws (λ t rest e. tt) (closing_mark kind) (closing_apart kind) (λ t rest e. tt) (element_opens kind))

    ended_laws : (kind : Bracket) (es : ElementsV) → Lawful n anything (bracket_end kind es) (ended kind es)
    ended_laws bracket.Array es = nothing_laws n anything (ArrayC es)
    ended_laws bracket.Struct es = nothing_laws n anything (StructC false es)
    ended_laws bracket.Packed es = in_turn n anything (mark_at 62) (λ _ ts. Ok (StructC true es, ts)) (one_token (mark 62)) (λ _. nothing (StructC true es)) (token_laws n (mark 62)) (λ _. nothing_laws n anything (StructC true es))

    bracket_laws : (kind : Bracket) → Lawful n anything (bracket_rule known rule kind) (in_brackets kind)
    bracket_laws kind = in_turn n anything (list_at (closing_mark kind) (element_at known rule)) (λ all ts. bracket_end kind (elements_of all) ts) (closed_list (closing_mark kind) an_element) (λ all. ended kind (elements_of all)) (some_laws kind) (λ all. ended_laws kind (elements_of all))

    packed_laws : Lawful n anything (packed_rule known rule) a_packed
    packed_laws = in_turn n anything (mark_at 123) (λ _ ts. bracket_rule known rule bracket.Packed ts) (one_token (mark 123)) (λ _. in_brackets bracket.Packed) (token_laws n (mark 123)) (λ _. bracket_laws bracket.Packed)

    text_laws : Lawful n anything text_rule a_text
    text_laws = in_turn n anything string_at (λ text ts. Ok (TextC text, ts)) (one_token string) (λ bytes. nothing (TextC bytes)) (token_laws n string) (λ bytes. nothing_laws n anything (TextC bytes))

    abbrev led_by : ℕ → TokenV → Bool → Bool → Bool → Bool → Bool → Reader ConstantV
    led_by w t a s p x y rest = cond a (bracket_rule known rule bracket.Array rest) (cond s (bracket_rule known rule bracket.Struct rest) (cond p (packed_rule known rule rest) (cond x (text_rule rest) (cond y (address_rule known rule rest) (meant (simple_constant w t) t rest)))))

    abbrev spelled_by : ℕ → TokenV → Bool → Bool → Bool → Bool → Bool → Spelling ConstantV
    spelled_by w t a s p x y = by_test a (in_brackets bracket.Array) (by_test s (in_brackets bracket.Struct) (by_test p a_packed (by_test x a_text (by_test y an_address (a_simple w t)))))

    each_constant : (w : ℕ) (a s p x y : Bool) (t : TokenV) → Lawful n anything (led_by w t a s p x y) (spelled_by w t a s p x y) ⊎ Refuses (led_by w t a s p x y) (spelled_by w t a s p x y) t
    each_constant w true s p x y t = inl (bracket_laws bracket.Array)
    each_constant w false true p x y t = inl (bracket_laws bracket.Struct)
    each_constant w false false true x y t = inl packed_laws
    each_constant w false false false true y t = inl text_laws
    each_constant w false false false false true t = inl address_laws
    each_constant w false false false false false t = one_each n (simple_constant w) t (simple_constant w t) refl

    pub rule_laws : (w : ℕ) → Lawful (suc n) anything (constant_rule known rule w) (a_constant known w)
    unfolding constant_rule
    rule_laws w = respell (suc n) anything (constant_rule known rule w) (Led (constant_led w)) (a_constant known w) (to_spelled w) (from_spelled w)
        (led_more n anything (constant_rule known rule w) _ (constant_led w) refl (λ t rest. refl) (λ t. each_constant w (is_mark 91 t) (is_mark 123 t) (is_mark 60 t) (is_word (codes "c") t) (is_word (codes "getelementptr") t) t))

  -- at least one token spells a constant
  pub some_tokens : (w : ℕ) (c : ConstantV) (ws : List TokenV) → a_constant known w c ws → 1 ≤ length ws
  some_tokens w c ws s = let o = from_spelled w c ws s in let size : length ws ≡ suc (length o.rest) = ap length o.parts in omega arith

  nothing_laws_to : (w : ℕ) → Lawful 0 anything (constant_to known 0 w) (a_constant known w)
  unfolding constant_to
  nothing_laws_to w = record {
    sound = λ ts x e. absurd cc;
    complete = λ a ws rest short s f. absurd (let least = some_tokens w a ws s in omega arith);
    faults = λ ts line cause short e. absurd cc;
    begins = inr refl;
  }

  pub depth_laws : (n k : ℕ) (w : ℕ) → n ≤ k → Lawful n anything (constant_to known k w) (a_constant known w)
  unfolding constant_to
  depth_laws zero zero w le = nothing_laws_to w
  depth_laws (suc n) zero w le = absurd (omega arith)
  depth_laws zero (suc k) w le = lower 1 0 anything (constant_to known (suc k) w) (a_constant known w) (omega arith) (rule_laws 0 (constant_to known k) (λ v. depth_laws 0 k v (omega arith)) w)
  depth_laws (suc n) (suc k) w le = rule_laws n (constant_to known k) (λ v. depth_laws n k v (omega arith)) w

  -- no name of a register opens one
  not_local : (w : ℕ) (c : ConstantV) (t : TokenV) (ws : List TokenV) → constant_led w t c ws → kind_is_local t.kind ≡ false
  not_local w c t ws s = by t.kind refl
    where
      by : (k : TokenKind) → t.kind ≡ k → kind_is_local t.kind ≡ false
      by kind.LocalName is = let local : constant_led w (record t { kind = kind.LocalName }) c ws = subst (λ (j : TokenKind). constant_led w (record t { kind = j }) c ws) is s in absurd (let e = local.0 in cc)
      by kind.GlobalName is = ap kind_is_local is
      by kind.Label is = ap kind_is_local is
      by kind.Integer is = ap kind_is_local is
      by kind.Word is = ap kind_is_local is
      by kind.Text is = ap kind_is_local is
      by kind.Punct is = ap kind_is_local is

  pub constant_opens : (w : ℕ) (c : ConstantV) (ws : List TokenV) → a_constant known w c ws → Opens (λ t. not (is_local t)) ws
  constant_opens w c ws s =
      let o = from_spelled w c ws s in
      let no : is_local o.token ≡ false = not_local w c o.token o.rest o.rest_spells in
      record { token = o.token; rest = o.rest; parts = o.parts; is = rw no refl }
