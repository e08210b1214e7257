-- The laws of items.
use Rattle.std.proofs.Common.{◌≡◌, ℕ, Bool, true, false, cond, List, [], ◌∷◌, ◌++◌, Ok, refl, sym, ap, subst, ◌∙◌, ◌⊎◌, inl, inr}
use Rattle.std.specs.Prelude.{not, codes}
use lib.Pointwise.{bytes_decides}
use Rattle.pv_base.specs.declared.name.Name.{Name}
use Rattle.ir_lex.specs.declared.token.TokenKind.{TokenKind}
use Rattle.ir_lex.specs.declared.token.TokenKind.TheVariants as kind
use Rattle.ir_lex.specs.declared.token.Cause.TheVariants as causes
use Rattle.ir_tree.specs.declared.items.NamedType.{NamedType}
use Rattle.ir_tree.specs.declared.items.Global.{Global}
use Rattle.ir_tree.specs.declared.items.Function.{Function}
use Rattle.ir_tree.specs.Trees.{TypeV, ConstantV}
use Rattle.ir_text.specs.Tokens.{TokenV, same, is_mark, is_word, word_is, punct_is, blamed}
use Rattle.ir_text.specs.Reading.{Reader, wrong}
use Rattle.ir_text.specs.Choice.{choose, Opens}
use Rattle.ir_text.specs.Lawful.{Follow, Behind, anything, Lawful, Refuses}
use Rattle.ir_text.specs.Operands.{is_local, kind_is_local}
use Rattle.ir_text.specs.Passed.{is_any_word, kind_is_word}
use Rattle.ir_text.specs.Repeated.{Both}
use Rattle.ir_text.specs.Spelled.{Spelling, Led, one_token, by_test, when}
use Rattle.ir_text.specs.Types.{Known}
use Rattle.ir_text.specs.TypeSpelled.{◌▸◌, a_mark, a_word}
use Rattle.ir_text.proofs.Choices.{respell, weaken, led}
use Rattle.ir_text.proofs.ChoiceLaws.{choice}
use Rattle.ir_text.proofs.Marks.{apart, mark_opens}
use Rattle.instr_laws.specs.Made.{Made}
use Rattle.instr_laws.proofs.Opening.{unopened, both_opens, one_opens, opens_as, the_word}
use Rattle.instr_laws.proofs.Rows.{last}
use Rattle.ir_grammar.specs.Headers.{Header, scope_of, new_global_by, new_global, new_local_by, new_local}
use Rattle.ir_grammar.specs.Bodies.{body_at}
use Rattle.ir_grammar.specs.Modules.{Item, TypeItem, GlobalItem, FunctionItem, PassedItem, SoFar}
use Rattle.ir_grammar.specs.PassedItems.{to_string, attributes_at, metadata_at, comdat_at}
use Rattle.ir_grammar.specs.Items.{size_of, declaration_at, is_global, kind_is_global, passing, type_item_at, global_item_at, declaration_item_at, definition_item_at, worded_item_at, marked_item_at, item_at}
use Rattle.module_laws.specs.Blocks.{a_body}
use Rattle.module_laws.specs.Skipped.{up_to_string, some_attributes, some_metadata, a_comdat}
use Rattle.module_laws.specs.ItemsSpelled.{a_named_type, a_global, a_declaration, a_definition, an_item}
use Rattle.module_laws.specs.Behind.{BehindDeclaration}
use Rattle.module_laws.proofs.SkippedLaws.{string_laws, attributes_laws, metadata_laws, metadata_opens, comdat_laws}
use Rattle.module_laws.proofs.GlobalLaws.{named_type_laws, global_laws}
use Rattle.module_laws.proofs.FunctionLaws.{declaration_laws, definition_laws}

-- ---- first tokens

local_by : (types : List Name) (k : TokenKind) (t : TokenV) (name : Name) → new_local_by types k t ≡ Ok name → kind_is_local k ≡ true
local_by types kind.LocalName t name e = refl
local_by types kind.GlobalName t name e = absurd cc
local_by types kind.Label t name e = absurd cc
local_by types kind.Integer t name e = absurd cc
local_by types kind.Word t name e = absurd cc
local_by types kind.Text t name e = absurd cc
local_by types kind.Punct t name e = absurd cc

global_by : (values : List Name) (k : TokenKind) (t : TokenV) (name : Name) → new_global_by values k t ≡ Ok name → kind_is_global k ≡ true
global_by values kind.GlobalName t name e = refl
global_by values kind.LocalName t name e = absurd cc
global_by values kind.Label t name e = absurd cc
global_by values kind.Integer t name e = absurd cc
global_by values kind.Word t name e = absurd cc
global_by values kind.Text t name e = absurd cc
global_by values kind.Punct t name e = absurd cc

-- the kinds that begin items by a mark or a word
abbrev pub kind_is_plain : TokenKind → Bool
kind_is_plain kind.Punct = true
kind_is_plain kind.Word = true
kind_is_plain _ = false

abbrev pub is_plain : TokenV → Bool
is_plain t = kind_is_plain t.kind

pub plain_no_local : (k : TokenKind) → kind_is_plain k ≡ true → not (kind_is_local k) ≡ true
plain_no_local kind.Punct e = refl
plain_no_local kind.Word e = refl
plain_no_local kind.LocalName e = absurd cc
plain_no_local kind.GlobalName e = absurd cc
plain_no_local kind.Label e = absurd cc
plain_no_local kind.Integer e = absurd cc
plain_no_local kind.Text e = absurd cc

pub plain_no_global : (k : TokenKind) → kind_is_plain k ≡ true → not (kind_is_global k) ≡ true
plain_no_global kind.Punct e = refl
plain_no_global kind.Word e = refl
plain_no_global kind.LocalName e = absurd cc
plain_no_global kind.GlobalName e = absurd cc
plain_no_global kind.Label e = absurd cc
plain_no_global kind.Integer e = absurd cc
plain_no_global kind.Text e = absurd cc

pub global_no_local : (k : TokenKind) → kind_is_global k ≡ true → not (kind_is_local k) ≡ true
global_no_local kind.GlobalName e = refl
global_no_local kind.LocalName e = absurd cc
global_no_local kind.Label e = absurd cc
global_no_local kind.Integer e = absurd cc
global_no_local kind.Word e = absurd cc
global_no_local kind.Text e = absurd cc
global_no_local kind.Punct e = absurd cc

mark_plain_by : (b : ℕ) (k : TokenKind) (text : List ℕ) → punct_is (b ∷ []) k text ≡ true → kind_is_plain k ≡ true
mark_plain_by b kind.Punct text e = refl
mark_plain_by b kind.Word text e = absurd cc
mark_plain_by b kind.LocalName text e = absurd cc
mark_plain_by b kind.GlobalName text e = absurd cc
mark_plain_by b kind.Label text e = absurd cc
mark_plain_by b kind.Integer text e = absurd cc
mark_plain_by b kind.Text text e = absurd cc

pub any_word_by : (w : List ℕ) (k : TokenKind) (text : List ℕ) → word_is w k text ≡ true → kind_is_word k ≡ true
any_word_by w kind.Word text e = refl
any_word_by w kind.Punct text e = absurd cc
any_word_by w kind.LocalName text e = absurd cc
any_word_by w kind.GlobalName text e = absurd cc
any_word_by w kind.Label text e = absurd cc
any_word_by w kind.Integer text e = absurd cc
any_word_by w kind.Text text e = absurd cc

pub word_plain : (k : TokenKind) → kind_is_word k ≡ true → kind_is_plain k ≡ true
word_plain kind.Word e = refl
word_plain kind.Punct e = absurd cc
word_plain kind.LocalName e = absurd cc
word_plain kind.GlobalName e = absurd cc
word_plain kind.Label e = absurd cc
word_plain kind.Integer e = absurd cc
word_plain kind.Text e = absurd cc

pub word_no_mark : (b : ℕ) (k : TokenKind) (text : List ℕ) → kind_is_word k ≡ true → not (punct_is (b ∷ []) k text) ≡ true
word_no_mark b kind.Word text e = refl
word_no_mark b kind.Punct text e = absurd cc
word_no_mark b kind.LocalName text e = absurd cc
word_no_mark b kind.GlobalName text e = absurd cc
word_no_mark b kind.Label text e = absurd cc
word_no_mark b kind.Integer text e = absurd cc
word_no_mark b kind.Text text e = absurd cc

other_word_by : (w v : List ℕ) (k : TokenKind) (text : List ℕ) → same v w ≡ false → word_is v k text ≡ true → word_is w k text ≡ false
other_word_by w v kind.Word text other e = let is : text ≡ v = (bytes_decides text v).0 e in rw is other
other_word_by w v kind.Punct text other e = absurd cc
other_word_by w v kind.LocalName text other e = absurd cc
other_word_by w v kind.GlobalName text other e = absurd cc
other_word_by w v kind.Label text other e = absurd cc
other_word_by w v kind.Integer text other e = absurd cc
other_word_by w v kind.Text text other e = absurd cc

-- one word is no other
pub other_word : (w v : List ℕ) (t : TokenV) → same v w ≡ false → is_word v t ≡ true → is_word w t ≡ false
other_word w v t other e = other_word_by w v t.kind t.text other e

-- a word, and what stands behind it
word_first : (w : List ℕ) (c : List TokenV → Type 0) (t : TokenV) (us : List TokenV) → is_word w t ≡ true → c us → Both (a_word w) c (t ∷ us)
word_first w c t us e s = record { front = t ∷ []; rest = us; parts = refl; first_spells = record { token = t; parts = refl; is = rw e refl }; rest_spells = s }

abbrev FunctionV : Type 0
FunctionV = Function Name TypeV ConstantV

module _ (n : ℕ) (known : Known) (s : SoFar) where
  -- ---- spelled in the reading's order

  abbrev a_type_item : Spelling Item
  a_type_item = Made (λ (t : NamedType Name TypeV). TypeItem t) (a_named_type known s.types)

  abbrev a_global_item : Spelling Item
  a_global_item = Made (λ (g : Global Name TypeV ConstantV). GlobalItem g (size_of known g.of)) (a_global known s.values s.size)

  abbrev a_declared : Spelling Item
  a_declared = Made (λ (f : FunctionV). FunctionItem f) (a_declaration s.values)

  abbrev a_defined : Spelling Item
  a_defined = Made (λ (f : FunctionV). FunctionItem f) (a_definition known s.values)

  abbrev a_skipped : (List TokenV → Type 0) → Spelling Item
  a_skipped spelled = Made (λ (u : Unit {0}). PassedItem) (λ u. spelled)

  abbrev led_item : TokenV → Spelling Item
  led_item t =
      by_test (is_word (codes "define") t) a_defined
      (by_test (is_word (codes "declare") t) a_declared
      (by_test (is_word (codes "source_filename") t) (a_skipped up_to_string)
      (by_test (is_word (codes "target") t) (a_skipped up_to_string)
      (when (is_word (codes "attributes") t) (a_skipped some_attributes)))))

  abbrev a_worded : Spelling Item
  a_worded = Led led_item

  abbrev Read : Spelling Item
  Read i ws = (((a_worded i ws ⊎ a_skipped a_comdat i ws) ⊎ a_skipped some_metadata i ws) ⊎ a_global_item i ws) ⊎ a_type_item i ws

  -- ---- what they begin with

  pub type_opens : (i : Item) (ws : List TokenV) → a_type_item i ws → Opens is_local ws
  type_opens i ws t = both_opens is_local (one_token (new_local s.types) t.parts.name) _ ws (λ us m. one_opens is_local (new_local s.types) t.parts.name us (λ u e. local_by s.types u.kind u t.parts.name e) m) t.spelled

  pub global_opens : (i : Item) (ws : List TokenV) → a_global_item i ws → Opens is_global ws
  global_opens i ws t = both_opens is_global (one_token (new_global s.values) t.parts.name) _ ws (λ us m. one_opens is_global (new_global s.values) t.parts.name us (λ u e. global_by s.values u.kind u t.parts.name e) m) t.spelled

  pub comdat_opens : (i : Item) (ws : List TokenV) → a_skipped a_comdat i ws → Opens (is_mark 36) ws
  comdat_opens i ws t = both_opens (is_mark 36) (a_mark 36) _ ws (λ us m. mark_opens 36 us m) t.spelled

  led_word : (t : TokenV) (a b c d e : Bool) (i : Item) (us : List TokenV) → is_word (codes "define") t ≡ a → is_word (codes "declare") t ≡ b → is_word (codes "source_filename") t ≡ c → is_word (codes "target") t ≡ d → is_word (codes "attributes") t ≡ e
      → by_test a a_defined (by_test b a_declared (by_test c (a_skipped up_to_string) (by_test d (a_skipped up_to_string) (when e (a_skipped some_attributes))))) i us → is_any_word t ≡ true
  led_word t true b c d e i us ea eb ec ed ee h = any_word_by (codes "define") t.kind t.text ea
  led_word t false true c d e i us ea eb ec ed ee h = any_word_by (codes "declare") t.kind t.text eb
  led_word t false false true d e i us ea eb ec ed ee h = any_word_by (codes "source_filename") t.kind t.text ec
  led_word t false false false true e i us ea eb ec ed ee h = any_word_by (codes "target") t.kind t.text ed
  led_word t false false false false true i us ea eb ec ed ee h = any_word_by (codes "attributes") t.kind t.text ee
  led_word t false false false false false i us ea eb ec ed ee h = absurd h

  worded_opens : (i : Item) (ws : List TokenV) → a_worded i ws → Opens is_any_word ws
  worded_opens i ws t = record {
    token = t.token;
    rest = t.rest;
    parts = t.parts;
    is = led_word t.token (is_word (codes "define") t.token) (is_word (codes "declare") t.token) (is_word (codes "source_filename") t.token) (is_word (codes "target") t.token) (is_word (codes "attributes") t.token) i t.rest refl refl refl refl refl t.rest_spells;
  }

  pub inner_opens : (i : Item) (ws : List TokenV) → a_worded i ws ⊎ a_skipped a_comdat i ws → Opens (λ t. not (is_mark 33 t)) ws
  inner_opens i ws (inl t) = opens_as is_any_word (λ u. not (is_mark 33 u)) ws (λ u e. word_no_mark 33 u.kind u.text e) (worded_opens i ws t)
  inner_opens i ws (inr t) = opens_as (is_mark 36) (λ u. not (is_mark 33 u)) ws (λ u e. let other : is_mark 33 u ≡ false = apart 36 33 u refl e in rw other refl) (comdat_opens i ws t)

  pub marked_opens : (i : Item) (ws : List TokenV) → (a_worded i ws ⊎ a_skipped a_comdat i ws) ⊎ a_skipped some_metadata i ws → Opens is_plain ws
  marked_opens i ws (inl (inl t)) = opens_as is_any_word is_plain ws (λ u e. word_plain u.kind e) (worded_opens i ws t)
  marked_opens i ws (inl (inr t)) = opens_as (is_mark 36) is_plain ws (λ u e. mark_plain_by 36 u.kind u.text e) (comdat_opens i ws t)
  marked_opens i ws (inr t) = opens_as (is_mark 33) is_plain ws (λ u e. mark_plain_by 33 u.kind u.text e) (metadata_opens ws t.spelled)

  pub other_opens : (i : Item) (ws : List TokenV) → ((a_worded i ws ⊎ a_skipped a_comdat i ws) ⊎ a_skipped some_metadata i ws) ⊎ a_global_item i ws → Opens (λ t. not (is_local t)) ws
  other_opens i ws (inl t) = opens_as is_plain (λ u. not (is_local u)) ws (λ u e. plain_no_local u.kind e) (marked_opens i ws t)
  other_opens i ws (inr t) = opens_as is_global (λ u. not (is_local u)) ws (λ u e. global_no_local u.kind e) (global_opens i ws t)

  -- ---- an item, and the reading's order

  led_to : (t : TokenV) (a b c d e : Bool) (i : Item) (us : List TokenV) → is_word (codes "define") t ≡ a → is_word (codes "declare") t ≡ b → is_word (codes "source_filename") t ≡ c → is_word (codes "target") t ≡ d → is_word (codes "attributes") t ≡ e
      → by_test a a_defined (by_test b a_declared (by_test c (a_skipped up_to_string) (by_test d (a_skipped up_to_string) (when e (a_skipped some_attributes))))) i us → an_item known s i (t ∷ us)
  led_to t true b c d e i us ea eb ec ed ee h = subst (λ (x : Item). an_item known s x (t ∷ us)) h.is (inr (word_first (codes "define") (a_definition known s.values h.parts) t us ea h.spelled))
  led_to t false true c d e i us ea eb ec ed ee h = subst (λ (x : Item). an_item known s x (t ∷ us)) h.is (inl (word_first (codes "declare") (a_declaration s.values h.parts) t us eb h.spelled))
  led_to t false false true d e i us ea eb ec ed ee h = subst (λ (x : Item). an_item known s x (t ∷ us)) h.is (inl (inl (word_first (codes "source_filename") up_to_string t us ec h.spelled)))
  led_to t false false false true e i us ea eb ec ed ee h = subst (λ (x : Item). an_item known s x (t ∷ us)) h.is (inl (inr (word_first (codes "target") up_to_string t us ed h.spelled)))
  led_to t false false false false true i us ea eb ec ed ee h = subst (λ (x : Item). an_item known s x (t ∷ us)) h.is (inr (inl (word_first (codes "attributes") some_attributes t us ee h.spelled)))
  led_to t false false false false false i us ea eb ec ed ee h = absurd h

  worded_to : (i : Item) (ws : List TokenV) → a_worded i ws → an_item known s i ws
  worded_to i ws t =
      subst (λ (u : List TokenV). an_item known s i u) (sym t.parts)
      (led_to t.token (is_word (codes "define") t.token) (is_word (codes "declare") t.token) (is_word (codes "source_filename") t.token) (is_word (codes "target") t.token) (is_word (codes "attributes") t.token) i t.rest refl refl refl refl refl t.rest_spells)

  to : (i : Item) (ws : List TokenV) → Read i ws → an_item known s i ws
  to i ws (inr t) = subst (λ (x : Item). an_item known s x ws) t.is t.spelled
  to i ws (inl (inr t)) = subst (λ (x : Item). an_item known s x ws) t.is (t.spelled, refl)
  to i ws (inl (inl (inr t))) = subst (λ (x : Item). an_item known s x ws) t.is (inr (inr (inl t.spelled)))
  to i ws (inl (inl (inl (inr t)))) = subst (λ (x : Item). an_item known s x ws) t.is (inr (inr (inr t.spelled)))
  to i ws (inl (inl (inl (inl t)))) = worded_to i ws t

  -- a word that leads to an item
  leads : (w : List ℕ) (c : List TokenV → Type 0) (i : Item) (ws : List TokenV) → (a_word w ▸ c) ws → ((t : TokenV) (us : List TokenV) → is_word w t ≡ true → c us → led_item t i us) → a_worded i ws
  leads w c i ws h by_word =
      let a = h.first_spells in
      record { token = a.token; rest = h.rest; parts = h.parts ∙ ap (λ (u : List TokenV). u ++ h.rest) a.parts; rest_spells = by_word a.token h.rest (the_word w a.token tt a.is) h.rest_spells }

  defined_led : (f : FunctionV) (t : TokenV) (us : List TokenV) → is_word (codes "define") t ≡ true → a_definition known s.values f us → led_item t (FunctionItem f) us
  defined_led f t us e h = rw e (record { parts = f; is = refl; spelled = h })

  declared_led : (f : FunctionV) (t : TokenV) (us : List TokenV) → is_word (codes "declare") t ≡ true → a_declaration s.values f us → led_item t (FunctionItem f) us
  declared_led f t us e h = rw (other_word (codes "define") (codes "declare") t refl e, e) (record { parts = f; is = refl; spelled = h })

  filename_led : (t : TokenV) (us : List TokenV) → is_word (codes "source_filename") t ≡ true → up_to_string us → led_item t PassedItem us
  filename_led t us e h = rw (other_word (codes "define") (codes "source_filename") t refl e, other_word (codes "declare") (codes "source_filename") t refl e, e) (record { parts = tt; is = refl; spelled = h })

  target_led : (t : TokenV) (us : List TokenV) → is_word (codes "target") t ≡ true → up_to_string us → led_item t PassedItem us
  target_led t us e h =
      rw (other_word (codes "define") (codes "target") t refl e, other_word (codes "declare") (codes "target") t refl e, other_word (codes "source_filename") (codes "target") t refl e, e) (record { parts = tt; is = refl; spelled = h })

  attributes_led : (t : TokenV) (us : List TokenV) → is_word (codes "attributes") t ≡ true → some_attributes us → led_item t PassedItem us
  attributes_led t us e h =
      rw (other_word (codes "define") (codes "attributes") t refl e, other_word (codes "declare") (codes "attributes") t refl e, other_word (codes "source_filename") (codes "attributes") t refl e, other_word (codes "target") (codes "attributes") t refl e, e)
      (record { parts = tt; is = refl; spelled = h })

  from : (i : Item) (ws : List TokenV) → an_item known s i ws → Read i ws
  from (TypeItem t) ws h = inr (record { parts = t; is = refl; spelled = h })
  from (GlobalItem g size) ws h = inl (inr (record { parts = g; is = ap (λ (k : ℕ). GlobalItem g k) h.1; spelled = h.0 }))
  from (FunctionItem f) ws (inl h) = inl (inl (inl (inl (leads (codes "declare") (a_declaration s.values f) (FunctionItem f) ws h (declared_led f)))))
  from (FunctionItem f) ws (inr h) = inl (inl (inl (inl (leads (codes "define") (a_definition known s.values f) (FunctionItem f) ws h (defined_led f)))))
  from PassedItem ws (inl (inl h)) = inl (inl (inl (inl (leads (codes "source_filename") up_to_string PassedItem ws h filename_led))))
  from PassedItem ws (inl (inr h)) = inl (inl (inl (inl (leads (codes "target") up_to_string PassedItem ws h target_led))))
  from PassedItem ws (inr (inl h)) = inl (inl (inl (inl (leads (codes "attributes") some_attributes PassedItem ws h attributes_led))))
  from PassedItem ws (inr (inr (inl h))) = inl (inl (inr (record { parts = tt; is = refl; spelled = h })))
  from PassedItem ws (inr (inr (inr h))) = inl (inl (inl (inr (record { parts = tt; is = refl; spelled = h }))))

  -- ---- the laws

  module _ (follow : Follow) (behind_global : (rest : List TokenV) → follow rest → Behind (is_mark 44) anything rest) (behind_declaration : (rest : List TokenV) → follow rest → BehindDeclaration rest)
      (body_laws : (h : Header) → Lawful n follow (body_at known (scope_of h.params)) (a_body known (scope_of h.params))) where
    defined_laws : Lawful n follow (definition_item_at known s) a_defined
    defined_laws = last (λ (f : FunctionV). FunctionItem f) (definition_laws n known s.values follow body_laws)

    declared_laws : Lawful n follow (declaration_item_at known s) a_declared
    declared_laws = last (λ (f : FunctionV). FunctionItem f) (weaken n BehindDeclaration follow (declaration_at s.values) (a_declaration s.values) behind_declaration (declaration_laws n s.values))

    skipped_laws : (r : Reader (Unit {0})) (z : List TokenV → Type 0) → Lawful n anything r (λ u. z) → Lawful n follow (λ ts. passing (r ts)) (a_skipped z)
    skipped_laws r z laws = last (λ (u : Unit {0}). PassedItem) (weaken n anything follow r (λ u. z) (λ rest h. tt) laws)

    refused : (t : TokenV) → Refuses {A = Item} (λ rest. wrong t causes.Instruction) (λ i ws. ⊥) t
    refused t = record { cause = blamed t causes.Instruction; refused = λ rest. refl; unspelled = λ i ws h. h }

    by_word : (t : TokenV) (a b c d e : Bool)
        → Lawful n follow (λ rest. cond a (definition_item_at known s rest) (cond b (declaration_item_at known s rest) (cond c (passing (to_string rest)) (cond d (passing (to_string rest)) (cond e (passing (attributes_at rest)) (wrong t causes.Instruction))))))
        (by_test a a_defined (by_test b a_declared (by_test c (a_skipped up_to_string) (by_test d (a_skipped up_to_string) (when e (a_skipped some_attributes))))))
        ⊎ Refuses (λ rest. cond a (definition_item_at known s rest) (cond b (declaration_item_at known s rest) (cond c (passing (to_string rest)) (cond d (passing (to_string rest)) (cond e (passing (attributes_at rest)) (wrong t causes.Instruction))))))
        (by_test a a_defined (by_test b a_declared (by_test c (a_skipped up_to_string) (by_test d (a_skipped up_to_string) (when e (a_skipped some_attributes)))))) t
    by_word t true b c d e = inl defined_laws
    by_word t false true c d e = inl declared_laws
    by_word t false false true d e = inl (skipped_laws to_string up_to_string (string_laws n))
    by_word t false false false true e = inl (skipped_laws to_string up_to_string (string_laws n))
    by_word t false false false false true = inl (skipped_laws attributes_at some_attributes (attributes_laws n))
    by_word t false false false false false = inr (refused t)

    worded_laws : Lawful n follow (worded_item_at known s) a_worded
    unfolding worded_item_at
    worded_laws = led n follow (worded_item_at known s) _ led_item refl (λ t rest. refl)
        (λ t. by_word t (is_word (codes "define") t) (is_word (codes "declare") t) (is_word (codes "source_filename") t) (is_word (codes "target") t) (is_word (codes "attributes") t))

    marked_laws : Lawful n follow (marked_item_at known s) (λ i ws. (a_worded i ws ⊎ a_skipped a_comdat i ws) ⊎ a_skipped some_metadata i ws)
    marked_laws =
        choice n (is_mark 33) follow follow follow (λ ts. passing (metadata_at ts)) (choose (is_mark 36) (λ ts. passing (comdat_at ts)) (worded_item_at known s)) (a_skipped some_metadata) (λ i ws. a_worded i ws ⊎ a_skipped a_comdat i ws)
        (skipped_laws metadata_at some_metadata (metadata_laws n))
        (choice n (is_mark 36) follow follow follow (λ ts. passing (comdat_at ts)) (worded_item_at known s) (a_skipped a_comdat) a_worded (skipped_laws comdat_at a_comdat (comdat_laws n)) worded_laws comdat_opens
        (λ i ws rest t h. unopened (is_mark 36) ws rest (opens_as is_any_word (λ u. not (is_mark 36 u)) ws (λ u e. word_no_mark 36 u.kind u.text e) (worded_opens i ws t))) (λ rest h. h) (λ rest h. h))
        (λ i ws t. metadata_opens ws t.spelled)
        (λ i ws rest t h. unopened (is_mark 33) ws rest (inner_opens i ws t)) (λ rest h. h) (λ rest h. h)

    read_laws : Lawful n follow (item_at known s) Read
    read_laws =
        choice n is_local follow follow follow (type_item_at known s) (choose is_global (global_item_at known s) (marked_item_at known s)) a_type_item (λ i ws. ((a_worded i ws ⊎ a_skipped a_comdat i ws) ⊎ a_skipped some_metadata i ws) ⊎ a_global_item i ws)
        (last (λ (t : NamedType Name TypeV). TypeItem t) (weaken n anything follow _ _ (λ rest h. tt) (named_type_laws n known s.types)))
        (choice n is_global follow follow follow (global_item_at known s) (marked_item_at known s) a_global_item (λ i ws. (a_worded i ws ⊎ a_skipped a_comdat i ws) ⊎ a_skipped some_metadata i ws)
        (last (λ (g : Global Name TypeV ConstantV). GlobalItem g (size_of known g.of)) (weaken n (Behind (is_mark 44) anything) follow _ _ behind_global (global_laws n known s.size s.values))) marked_laws global_opens
        (λ i ws rest t h. unopened is_global ws rest (opens_as is_plain (λ u. not (is_global u)) ws (λ u e. plain_no_global u.kind e) (marked_opens i ws t))) (λ rest h. h) (λ rest h. h))
        type_opens (λ i ws rest t h. unopened is_local ws rest (other_opens i ws t)) (λ rest h. h) (λ rest h. h)

    pub item_laws : Lawful n follow (item_at known s) (an_item known s)
    item_laws = respell n follow (item_at known s) Read (an_item known s) to from read_laws

-- an item takes a token
read_takes : (known : Known) (s : SoFar) (i : Item) (ws : List TokenV) → Read 0 known s i ws → Opens (λ t. true) ws
read_takes known s i ws (inr t) = opens_as is_local (λ u. true) ws (λ u e. refl) (type_opens 0 known s i ws t)
read_takes known s i ws (inl t) = opens_as (λ u. not (is_local u)) (λ u. true) ws (λ u e. refl) (other_opens 0 known s i ws t)

pub item_opens : (known : Known) (s : SoFar) (i : Item) (ws : List TokenV) → an_item known s i ws → Opens (λ t. true) ws
item_opens known s i ws h = read_takes known s i ws (from 0 known s i ws h)
