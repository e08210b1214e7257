-- The laws of types.
use Rattle.std.proofs.Common.{◌≡◌, ℕ, zero, suc, ◌≤◌, length, arith, Bool, true, false, cond, leb, drop, List, [], ◌∷◌, ◌++◌, Result, Ok, Err, refl, sym, ap, subst, ◌∙◌, append_assoc, ◌⊎◌, inl, inr}
use Rattle.std.specs.Prelude.{not, codes, ◌&&◌, is_some}
use Rattle.std.proofs.lemmas.List.{append-nil}
use Rattle.ir_lex.specs.declared.token.TokenKind.{TokenKind}
use Rattle.ir_lex.specs.declared.token.TokenKind.TheVariants as kind
use Rattle.ir_lex.specs.declared.token.Cause.{Cause}
use Rattle.ir_lex.specs.declared.token.Cause.TheVariants as causes
use Rattle.ir_lex.specs.Spelling.{number}
use Rattle.ir_tree.specs.Trees.{TypeV, IntV, PtrV, VoidV, ArrayV, StructV, NamedV, TypesV, NoneV, MoreV}
use Rattle.ir_tree.specs.Naming.{listed}
use Rattle.ir_text.specs.Tokens.{TokenV, same, is_mark, punct_is}
use Rattle.ir_text.specs.Reading.{Reader, ◌>>=◌, meant, token_by}
use Rattle.ir_text.specs.Spelled.{Spelling, InTurn, Led, one_token, nothing, by_test}
use Rattle.ir_text.specs.Lawful.{anything, Lawful, Refuses}
use Rattle.ir_text.specs.Choice.{Opens}
use Rattle.ir_text.specs.Leaves.{mark, word, mark_at, word_at, spelled_name}
use Rattle.ir_text.specs.Repeated.{Both}
use Rattle.ir_text.specs.Passed.{is_int_word}
use Rattle.ir_text.specs.Lists.{list_at, closed_list, behind_item}
use Rattle.ir_text.specs.Types.{Known, word_type, int_type, count, header_at, simple, simple_by, array_rule, struct_rule, packed_rule, type_rule, type_to}
use Rattle.ir_text.specs.TypeSpelled.{a_mark, a_word, a_type, some_fields, more_fields}
use Rattle.ir_text.proofs.Laws.{nothing_laws}
use Rattle.ir_text.proofs.Choices.{in_turn, respell, led_more, one_each, token_laws, lower}
use Rattle.ir_text.proofs.ListLaws.{list_laws, closed_laws}
use Rattle.ir_text.proofs.Marks.{apart, marked, is_marked, mark_opens_not}

abbrev pub a_header : Spelling ℕ
a_header = InTurn (one_token count) (λ many. InTurn (one_token (word (codes "x"))) (λ _. nothing many))

pub header_laws : (n : ℕ) → Lawful n anything header_at a_header
header_laws n = in_turn n anything (token_by count) (λ many ts. word_at (codes "x") ts >>= λ times. Ok (many, times.1)) _ (λ many. InTurn (one_token (word (codes "x"))) (λ _. nothing many)) (token_laws n count)
    (λ many. in_turn n anything (word_at (codes "x")) (λ _ ts. Ok (many, ts)) _ (λ _. nothing many) (token_laws n (word (codes "x"))) (λ _. nothing_laws n anything many))

-- ---- the first token

simple_mark : (known : Known) (b : ℕ) (k : TokenKind) (t : TokenV) (type : TypeV) → simple_by known k t ≡ Ok type → punct_is (b ∷ []) k t.text ≡ false
simple_mark known b kind.Punct t type e = absurd cc
simple_mark known b kind.GlobalName t type e = refl
simple_mark known b kind.LocalName t type e = refl
simple_mark known b kind.Label t type e = refl
simple_mark known b kind.Integer t type e = refl
simple_mark known b kind.Word t type e = refl
simple_mark known b kind.Text t type e = refl

simple_opens : (known : Known) (close : ℕ) (type : TypeV) (ws : List TokenV) → one_token (simple known) type ws → Opens (λ t. not (is_mark close t)) ws
simple_opens known close type ws s =
    let no : is_mark close s.token ≡ false = simple_mark known close s.token.kind s.token type s.is in
    record { token = s.token; rest = []; parts = s.parts; is = rw no refl }

marked_opens : (close b : ℕ) (others : List TokenV → Type 0) (ws : List TokenV) → punct_is (close ∷ []) kind.Punct (b ∷ []) ≡ false → Both (a_mark b) others ws → Opens (λ t. not (is_mark close t)) ws
marked_opens close b others ws other s = subst (λ (u : List TokenV). Opens (λ t. not (is_mark close t)) u) (sym s.parts) (mark_opens_not b close s.front s.rest other s.first_spells)

-- a mark that opens no type
pub type_opens_but : (known : Known) (close : ℕ) → punct_is (close ∷ []) kind.Punct (91 ∷ []) ≡ false → punct_is (close ∷ []) kind.Punct (123 ∷ []) ≡ false → punct_is (close ∷ []) kind.Punct (60 ∷ []) ≡ false
    → (type : TypeV) (ws : List TokenV) → a_type known type ws → Opens (λ t. not (is_mark close t)) ws
type_opens_but known close a b c (IntV w) ws s = simple_opens known close (IntV w) ws s
type_opens_but known close a b c PtrV ws s = simple_opens known close PtrV ws s
type_opens_but known close a b c VoidV ws s = absurd s
type_opens_but known close a b c (NamedV name) ws s = simple_opens known close (NamedV name) ws s
type_opens_but known close a b c (ArrayV n of) ws s = marked_opens close 91 _ ws a s
type_opens_but known close a b c (StructV false fields) ws s = marked_opens close 123 _ ws b s
type_opens_but known close a b c (StructV true fields) ws s = marked_opens close 60 _ ws c s

pub type_opens : (known : Known) (type : TypeV) (ws : List TokenV) → a_type known type ws → Opens (λ t. not (is_mark 125 t)) ws
type_opens known type ws s = type_opens_but known 125 refl refl refl type ws s

-- ---- fields

more_to : (known : Known) (all : List TypeV) (ws : List TokenV) → behind_item 125 (a_type known) all ws → more_fields known (listed all) ws
more_to known [] ws s = s
more_to known (type ∷ all) ws s = record {
  front = s.front;
  rest = s.rest;
  parts = s.parts;
  first_spells = s.first_spells;
  rest_spells = record { front = s.rest_spells.front; rest = s.rest_spells.rest; parts = s.rest_spells.parts; first_spells = s.rest_spells.first_spells; rest_spells = more_to known all s.rest_spells.rest s.rest_spells.rest_spells };
}

fields_to : (known : Known) (all : List TypeV) (ws : List TokenV) → closed_list 125 (a_type known) all ws → some_fields known (listed all) ws
fields_to known [] ws s = s
fields_to known (type ∷ all) ws s = record { front = s.front; rest = s.rest; parts = s.parts; first_spells = s.first_spells; rest_spells = more_to known all s.rest s.rest_spells }

unlisted : TypesV → List TypeV
unlisted NoneV = []
unlisted (MoreV type rest) = type ∷ unlisted rest

relisted : (fields : TypesV) → listed (unlisted fields) ≡ fields
unfolding unlisted
relisted NoneV = refl
relisted (MoreV type rest) = ap (MoreV type) (relisted rest)

more_from : (known : Known) (fields : TypesV) (ws : List TokenV) → more_fields known fields ws → behind_item 125 (a_type known) (unlisted fields) ws
unfolding unlisted
more_from known NoneV ws s = s
more_from known (MoreV type fields) ws s = record {
  front = s.front;
  rest = s.rest;
  parts = s.parts;
  first_spells = s.first_spells;
  rest_spells = record { front = s.rest_spells.front; rest = s.rest_spells.rest; parts = s.rest_spells.parts; first_spells = s.rest_spells.first_spells; rest_spells = more_from known fields s.rest_spells.rest s.rest_spells.rest_spells };
}

fields_from : (known : Known) (fields : TypesV) (ws : List TokenV) → some_fields known fields ws → closed_list 125 (a_type known) (unlisted fields) ws
unfolding unlisted
fields_from known NoneV ws s = s
fields_from known (MoreV type fields) ws s = record { front = s.front; rest = s.rest; parts = s.parts; first_spells = s.first_spells; rest_spells = more_from known fields s.rest s.rest_spells }

-- ---- types of one token

abbrev IsSimple : TypeV → Type 0
IsSimple (IntV w) = Unit {0}
IsSimple PtrV = Unit {0}
IsSimple (NamedV name) = Unit {0}
IsSimple _ = ⊥

abbrev OfSimple : Result TypeV Cause → Type 0
OfSimple (Ok type) = IsSimple type
OfSimple (Err cause) = Unit {0}

cond_simple : (b : Bool) (r q : Result TypeV Cause) → OfSimple r → OfSimple q → OfSimple (cond b r q)
cond_simple true r q one two = one
cond_simple false r q one two = two

int_simple : (digits : List ℕ) → OfSimple (int_type digits)
unfolding int_type
int_simple digits = cond_simple (leb 1 (number digits) && leb (number digits) 64) (Ok (IntV (number digits))) (Err causes.Width) tt tt

word_simple : (text : List ℕ) → OfSimple (word_type text)
unfolding word_type
word_simple text = cond_simple (same text (codes "ptr")) (Ok PtrV) (cond (is_int_word text) (int_type (drop 1 text)) (Err causes.BadType)) tt (cond_simple (is_int_word text) (int_type (drop 1 text)) (Err causes.BadType) (int_simple (drop 1 text)) tt)

by_simple : (known : Known) (k : TokenKind) (t : TokenV) → OfSimple (simple_by known k t)
by_simple known kind.Word t = word_simple t.text
by_simple known kind.LocalName t = cond_simple (is_some (known (spelled_name t))) (Ok (NamedV (spelled_name t))) (Err causes.BadType) tt tt
by_simple known kind.Punct t = tt
by_simple known kind.GlobalName t = tt
by_simple known kind.Label t = tt
by_simple known kind.Integer t = tt
by_simple known kind.Text t = tt

simple_is : (known : Known) (k : TokenKind) (t : TokenV) (type : TypeV) → simple_by known k t ≡ Ok type → IsSimple type
simple_is known k t type e = subst OfSimple e (by_simple known k t)

simple_type : (known : Known) (type : TypeV) (ws : List TokenV) → IsSimple type → one_token (simple known) type ws → a_type known type ws
simple_type known (IntV w) ws i o = o
simple_type known PtrV ws i o = o
simple_type known (NamedV name) ws i o = o
simple_type known VoidV ws i o = absurd i
simple_type known (ArrayV n of) ws i o = absurd i
simple_type known (StructV packed fields) ws i o = absurd i

-- ---- what a first token leads to

module _ (known : Known) where
  abbrev an_array : Spelling TypeV
  an_array = InTurn a_header (λ many. InTurn (a_type known) (λ of. InTurn (one_token (mark 93)) (λ _. nothing (ArrayV many of))))

  abbrev a_struct : Spelling TypeV
  a_struct = InTurn (closed_list 125 (a_type known)) (λ fields. nothing (StructV false (listed fields)))

  abbrev a_packed : Spelling TypeV
  a_packed = InTurn (one_token (mark 123)) (λ _. InTurn (closed_list 125 (a_type known)) (λ fields. InTurn (one_token (mark 62)) (λ _. nothing (StructV true (listed fields)))))

  abbrev a_simple : TokenV → Spelling TypeV
  a_simple t a ws = (simple known t ≡ Ok a) × (ws ≡ [])

  abbrev type_led : TokenV → Spelling TypeV
  type_led t = by_test (is_mark 91 t) an_array (by_test (is_mark 123 t) a_struct (by_test (is_mark 60 t) a_packed (a_simple t)))

  last_nothing : {A : Type 0} (a b : A) (ws front rest : List TokenV) → ws ≡ front ++ rest → nothing a b rest → (a ≡ b) × (ws ≡ front)
  last_nothing a b ws front rest parts s = (s.0, parts ∙ ap (λ (u : List TokenV). front ++ u) s.1 ∙ append-nil front)

  unit_mark : (b : ℕ) (u : Unit {0}) (ws : List TokenV) → one_token (mark b) u ws → a_mark b ws
  unit_mark b u ws s = s

  unit_word : (w : List ℕ) (u : Unit {0}) (ws : List TokenV) → one_token (word w) u ws → a_word w ws
  unit_word w u ws s = s

  array_to : (t : TokenV) (type : TypeV) (ws : List TokenV) → is_mark 91 t ≡ true → an_array type ws → a_type known type (t ∷ ws)
  array_to t type ws e s =
      let h = s.first_spells in
      let of = s.rest_spells in
      let close = of.rest_spells in
      let times = last_nothing h.value s.value h.rest h.rest_spells.front h.rest_spells.rest h.rest_spells.parts h.rest_spells.rest_spells in
      let end = last_nothing (ArrayV s.value of.value) type of.rest close.front close.rest close.parts close.rest_spells in
      let whole : ws ≡ h.front ++ (h.rest_spells.front ++ (of.front ++ close.front)) =
      s.parts ∙ ap (λ (u : List TokenV). u ++ s.rest) (h.parts ∙ ap (λ (u : List TokenV). h.front ++ u) times.1) ∙ append_assoc h.front h.rest_spells.front s.rest
      ∙ ap (λ (u : List TokenV). h.front ++ (h.rest_spells.front ++ u)) (of.parts ∙ ap (λ (u : List TokenV). of.front ++ u) end.1) in
      subst (λ (x : TypeV). a_type known x (t ∷ ws)) end.0 (record {
        front = t ∷ [];
        rest = ws;
        parts = refl;
        first_spells = marked 91 t e;
        rest_spells = record {
          front = h.front;
          rest = h.rest_spells.front ++ (of.front ++ close.front);
          parts = whole;
          first_spells = subst (λ (k : ℕ). one_token count k h.front) times.0 h.first_spells;
          rest_spells = record {
            front = h.rest_spells.front;
            rest = of.front ++ close.front;
            parts = refl;
            first_spells = unit_word (codes "x") h.rest_spells.value h.rest_spells.front h.rest_spells.first_spells;
            rest_spells = record { front = of.front; rest = close.front; parts = refl; first_spells = of.first_spells; rest_spells = unit_mark 93 close.value close.front close.first_spells };
          };
        };
      })

  struct_to : (t : TokenV) (type : TypeV) (ws : List TokenV) → is_mark 123 t ≡ true → a_struct type ws → a_type known type (t ∷ ws)
  struct_to t type ws e s =
      let end = last_nothing (StructV false (listed s.value)) type ws s.front s.rest s.parts s.rest_spells in
      subst (λ (x : TypeV). a_type known x (t ∷ ws)) end.0 (record { front = t ∷ []; rest = ws; parts = refl; first_spells = marked 123 t e; rest_spells = subst (λ (u : List TokenV). some_fields known (listed s.value) u) (sym end.1) (fields_to known s.value s.front s.first_spells) })

  packed_to : (t : TokenV) (type : TypeV) (ws : List TokenV) → is_mark 60 t ≡ true → a_packed type ws → a_type known type (t ∷ ws)
  packed_to t type ws e s =
      let fields = s.rest_spells in
      let close = fields.rest_spells in
      let end = last_nothing (StructV true (listed fields.value)) type fields.rest close.front close.rest close.parts close.rest_spells in
      let whole : ws ≡ s.front ++ (fields.front ++ close.front) = s.parts ∙ ap (λ (u : List TokenV). s.front ++ u) (fields.parts ∙ ap (λ (u : List TokenV). fields.front ++ u) end.1) in
      subst (λ (x : TypeV). a_type known x (t ∷ ws)) end.0 (record {
        front = t ∷ [];
        rest = ws;
        parts = refl;
        first_spells = marked 60 t e;
        rest_spells = record {
          front = s.front;
          rest = fields.front ++ close.front;
          parts = whole;
          first_spells = unit_mark 123 s.value s.front s.first_spells;
          rest_spells = record { front = fields.front; rest = close.front; parts = refl; first_spells = fields_to known fields.value fields.front fields.first_spells; rest_spells = unit_mark 62 close.value close.front close.first_spells };
        };
      })

  simple_to : (t : TokenV) (type : TypeV) (ws : List TokenV) → a_simple t type ws → a_type known type (t ∷ ws)
  simple_to t type ws s = simple_type known type (t ∷ ws) (simple_is known t.kind t type s.0) (subst (λ (u : List TokenV). one_token (simple known) type (t ∷ u)) (sym s.1) (record { token = t; parts = refl; is = s.0 }))

  led_to : (t : TokenV) (a s p : Bool) → is_mark 91 t ≡ a → is_mark 123 t ≡ s → is_mark 60 t ≡ p → (type : TypeV) (ws : List TokenV) → by_test a an_array (by_test s a_struct (by_test p a_packed (a_simple t))) type ws → a_type known type (t ∷ ws)
  led_to t true s p e d c type ws h = array_to t type ws e h
  led_to t false true p e d c type ws h = struct_to t type ws d h
  led_to t false false true e d c type ws h = packed_to t type ws c h
  led_to t false false false e d c type ws h = simple_to t type ws h

  type_to_spelled : (type : TypeV) (ws : List TokenV) → Led type_led type ws → a_type known type ws
  type_to_spelled type ws l = subst (λ (u : List TokenV). a_type known type u) (sym l.parts) (led_to l.token (is_mark 91 l.token) (is_mark 123 l.token) (is_mark 60 l.token) refl refl refl type l.rest l.rest_spells)

  -- ---- and back

  open_array : (t : TokenV) (type : TypeV) (ws : List TokenV) → is_mark 91 t ≡ true → an_array type ws → type_led t type ws
  open_array t type ws e s = rw e s

  open_struct : (t : TokenV) (type : TypeV) (ws : List TokenV) → is_mark 123 t ≡ true → a_struct type ws → type_led t type ws
  open_struct t type ws e s = let a : is_mark 91 t ≡ false = apart 123 91 t refl e in rw (a, e) s

  open_packed : (t : TokenV) (type : TypeV) (ws : List TokenV) → is_mark 60 t ≡ true → a_packed type ws → type_led t type ws
  open_packed t type ws e s =
      let a : is_mark 91 t ≡ false = apart 60 91 t refl e in
      let b : is_mark 123 t ≡ false = apart 60 123 t refl e in
      rw (a, b, e) s

  open_simple : (t : TokenV) (type : TypeV) → simple known t ≡ Ok type → type_led t type []
  open_simple t type e =
      let a : is_mark 91 t ≡ false = simple_mark known 91 t.kind t type e in
      let b : is_mark 123 t ≡ false = simple_mark known 123 t.kind t type e in
      let c : is_mark 60 t ≡ false = simple_mark known 60 t.kind t type e in
      rw (a, b, c) (e, refl)

  from_simple : (type : TypeV) (ws : List TokenV) → one_token (simple known) type ws → Led type_led type ws
  from_simple type ws s = record { token = s.token; rest = []; parts = s.parts; rest_spells = open_simple s.token type s.is }

  -- a mark and what stands behind it
  after_mark : (b : ℕ) (others : List TokenV → Type 0) (ws : List TokenV) (s : Both (a_mark b) others ws) → ws ≡ s.first_spells.token ∷ s.rest
  after_mark b others ws s = s.parts ∙ ap (λ (u : List TokenV). u ++ s.rest) s.first_spells.parts

  then_nothing : {A : Type 0} (q : Spelling (Unit {0})) (a : A) (ws : List TokenV) → q tt ws → InTurn q (λ _. nothing a) a ws
  then_nothing q a ws s = record { value = tt; front = ws; rest = []; parts = sym (append-nil ws); first_spells = s; rest_spells = (refl, refl) }

  array_from : (n : ℕ) (of : TypeV) (ws : List TokenV) → Both (one_token count n) (Both (a_word (codes "x")) (Both (a_type known of) (a_mark 93))) ws → an_array (ArrayV n of) ws
  array_from n of ws s =
      let x = s.rest_spells in
      let e = x.rest_spells in
      record {
        value = n;
        front = s.front ++ x.front;
        rest = x.rest;
        parts = s.parts ∙ ap (λ (u : List TokenV). s.front ++ u) x.parts ∙ sym (append_assoc s.front x.front x.rest);
        first_spells = record { value = n; front = s.front; rest = x.front; parts = refl; first_spells = s.first_spells; rest_spells = then_nothing (one_token (word (codes "x"))) n x.front x.first_spells };
        rest_spells = record { value = of; front = e.front; rest = e.rest; parts = e.parts; first_spells = e.first_spells; rest_spells = then_nothing (one_token (mark 93)) (ArrayV n of) e.rest e.rest_spells };
      }

  struct_from : (fields : TypesV) (ws : List TokenV) → some_fields known fields ws → a_struct (StructV false fields) ws
  struct_from fields ws s = record { value = unlisted fields; front = ws; rest = []; parts = sym (append-nil ws); first_spells = fields_from known fields ws s; rest_spells = (ap (StructV false) (relisted fields), refl) }

  packed_from : (fields : TypesV) (ws : List TokenV) → Both (a_mark 123) (Both (some_fields known fields) (a_mark 62)) ws → a_packed (StructV true fields) ws
  packed_from fields ws s =
      let f = s.rest_spells in
      record {
        value = tt;
        front = s.front;
        rest = s.rest;
        parts = s.parts;
        first_spells = s.first_spells;
        rest_spells = record {
          value = unlisted fields;
          front = f.front;
          rest = f.rest;
          parts = f.parts;
          first_spells = fields_from known fields f.front f.first_spells;
          rest_spells = record { value = tt; front = f.rest; rest = []; parts = sym (append-nil f.rest); first_spells = f.rest_spells; rest_spells = (ap (StructV true) (relisted fields), refl) };
        };
      }

  type_from_spelled : (type : TypeV) (ws : List TokenV) → a_type known type ws → Led type_led type ws
  type_from_spelled (IntV w) ws s = from_simple (IntV w) ws s
  type_from_spelled PtrV ws s = from_simple PtrV ws s
  type_from_spelled VoidV ws s = absurd s
  type_from_spelled (NamedV name) ws s = from_simple (NamedV name) ws s
  type_from_spelled (ArrayV n of) ws s = record { token = s.first_spells.token; rest = s.rest; parts = after_mark 91 _ ws s; rest_spells = open_array s.first_spells.token (ArrayV n of) s.rest (is_marked 91 s.front s.first_spells) (array_from n of s.rest s.rest_spells) }
  type_from_spelled (StructV false fields) ws s = record { token = s.first_spells.token; rest = s.rest; parts = after_mark 123 _ ws s; rest_spells = open_struct s.first_spells.token (StructV false fields) s.rest (is_marked 123 s.front s.first_spells) (struct_from fields s.rest s.rest_spells) }
  type_from_spelled (StructV true fields) ws s = record { token = s.first_spells.token; rest = s.rest; parts = after_mark 60 _ ws s; rest_spells = open_packed s.first_spells.token (StructV true fields) s.rest (is_marked 60 s.front s.first_spells) (packed_from fields s.rest s.rest_spells) }

  -- ---- the laws

  module _ (n : ℕ) (rule : Reader TypeV) (laws : Lawful n anything rule (a_type known)) where
    array_laws : Lawful n anything (array_rule known rule) an_array
    array_laws = in_turn n anything header_at (λ many ts. rule ts >>= λ of. mark_at 93 of.1 >>= λ close. Ok (ArrayV many of.0, close.1)) _ (λ many. InTurn (a_type known) (λ of. InTurn (one_token (mark 93)) (λ _. nothing (ArrayV many of)))) (header_laws n)
        (λ many. in_turn n anything rule (λ of ts. mark_at 93 ts >>= λ close. Ok (ArrayV many of, close.1)) _ (λ of. InTurn (one_token (mark 93)) (λ _. nothing (ArrayV many of))) laws
        (λ of. in_turn n anything (mark_at 93) (λ _ ts. Ok (ArrayV many of, ts)) _ (λ _. nothing (ArrayV many of)) (token_laws n (mark 93)) (λ _. nothing_laws n anything (ArrayV many of))))

    some_laws : Lawful n anything (list_at 125 rule) (closed_list 125 (a_type known))
    some_laws = closed_laws 125 (a_type known) n rule (list_laws n rule (a_type known) anything laws (λ t rest e. tt) 125 (λ t e. apart 125 44 t refl e) (λ t rest e. tt) (type_opens known))

    struct_laws : Lawful n anything (struct_rule known rule) a_struct
    struct_laws = in_turn n anything (list_at 125 rule) (λ fields ts. Ok (StructV false (listed fields), ts)) _ (λ fields. nothing (StructV false (listed fields))) some_laws (λ fields. nothing_laws n anything (StructV false (listed fields)))

    packed_laws : Lawful n anything (packed_rule known rule) a_packed
    packed_laws = in_turn n anything (mark_at 123) (λ _ ts. list_at 125 rule ts >>= λ fields. mark_at 62 fields.1 >>= λ close. Ok (StructV true (listed fields.0), close.1)) _ (λ _. InTurn (closed_list 125 (a_type known)) (λ fields. InTurn (one_token (mark 62)) (λ _. nothing (StructV true (listed fields))))) (token_laws n (mark 123))
        (λ _. in_turn n anything (list_at 125 rule) (λ fields ts. mark_at 62 ts >>= λ close. Ok (StructV true (listed fields), close.1)) _ (λ fields. InTurn (one_token (mark 62)) (λ _. nothing (StructV true (listed fields)))) some_laws
        (λ fields. in_turn n anything (mark_at 62) (λ _ ts. Ok (StructV true (listed fields), ts)) _ (λ _. nothing (StructV true (listed fields))) (token_laws n (mark 62)) (λ _. nothing_laws n anything (StructV true (listed fields)))))

    each_type : (a s p : Bool) (t : TokenV) → Lawful n anything (λ rest. cond a (array_rule known rule rest) (cond s (struct_rule known rule rest) (cond p (packed_rule known rule rest) (meant (simple known t) t rest)))) (by_test a an_array (by_test s a_struct (by_test p a_packed (a_simple t))))
        ⊎ Refuses (λ rest. cond a (array_rule known rule rest) (cond s (struct_rule known rule rest) (cond p (packed_rule known rule rest) (meant (simple known t) t rest)))) (by_test a an_array (by_test s a_struct (by_test p a_packed (a_simple t)))) t
    each_type true s p t = inl array_laws
    each_type false true p t = inl struct_laws
    each_type false false true t = inl packed_laws
    each_type false false false t = one_each n (simple known) t (simple known t) refl

    pub rule_laws : Lawful (suc n) anything (type_rule known rule) (a_type known)
    unfolding type_rule
    rule_laws = respell (suc n) anything (type_rule known rule) (Led type_led) (a_type known) type_to_spelled type_from_spelled
        (led_more n anything (type_rule known rule) _ type_led refl (λ t rest. refl) (λ t. each_type (is_mark 91 t) (is_mark 123 t) (is_mark 60 t) t))

  none_spelled : (type : TypeV) (ws : List TokenV) → length ws ≤ 0 → a_type known type ws → ⊥
  none_spelled type ws short s = let o = type_opens known type ws s in let size : length ws ≡ suc (length o.rest) = ap length o.parts in absurd (omega arith)

  nothing_laws_to : Lawful 0 anything (type_to known 0) (a_type known)
  unfolding type_to
  nothing_laws_to = record {
    sound = λ ts x e. absurd cc;
    complete = λ a ws rest short s f. absurd (none_spelled a ws short s);
    faults = λ ts line cause short e. absurd cc;
    begins = inr refl;
  }

  pub depth_laws : (n k : ℕ) → n ≤ k → Lawful n anything (type_to known k) (a_type known)
  unfolding type_to
  depth_laws zero zero le = nothing_laws_to
  depth_laws (suc n) zero le = absurd (omega arith)
  depth_laws zero (suc k) le = lower 1 0 anything (type_to known (suc k)) (a_type known) (omega arith) (rule_laws 0 (type_to known k) (depth_laws 0 k (omega arith)))
  depth_laws (suc n) (suc k) le = rule_laws n (type_to known k) (depth_laws n k (omega arith))
