-- The numbers that name types, globals and functions are small.
use Rattle.std.proofs.Common.{◌≡◌, ℕ, zero, suc, ◌+◌, ◌-◌, Bool, true, false, not, cond, List, [], ◌∷◌, ◌++◌, map, drop, Option, Some, None, Ok, Err, refl, sym, ap, subst, ◌∙◌, inl, inr, arith}
use Rattle.std.specs.Prelude.{◌^◌, ◌&&◌, fold, is_some, nat_lt, nat_le, slice_range}
use Rattle.std.specs.List.{list_all}
use Rattle.std.proofs.lemmas.Bool.Decides.{nat_tests}
use Rattle.std.proofs.lemmas.List.{drop-drop}
use Rattle.std.proofs.lemmas.List.Folds.{list_all-append, list_all-map}
use Rattle.pv_base.specs.declared.name.Name.{Name}
use Rattle.pv_base.specs.declared.name.Name.TheVariants.{Named, Numbered}
use Rattle.ir_lex.specs.declared.token.Cause.{Cause}
use Rattle.ir_lex.specs.declared.token.Cause.TheVariants as causes
use Rattle.ir_lex.specs.declared.token.Form.TheVariants as form
use Rattle.ir_lex.specs.declared.token.Lexed.{Lexed}
use Rattle.ir_lex.specs.declared.token.Piece.{Piece}
use Rattle.ir_lex.specs.declared.token.Piece.TheVariants as piece
use Rattle.ir_lex.specs.declared.token.Token.{Token}
use Rattle.ir_lex.specs.declared.token.TokenKind.{TokenKind}
use Rattle.ir_lex.specs.declared.token.TokenKind.TheVariants as kind
use Rattle.ir_lex.specs.Lexing.{line_after, piece_of, piece_then, lexed_from, lexed}
use Rattle.ir_lex.specs.Spelling.{number, decoded, unquoted, name_part, name_of, name_limit, limit_of}
use Rattle.ir_lex.proofs.Pieces.{found}
use Rattle.ir_tree.specs.declared.items.NamedType.{NamedType}
use Rattle.ir_tree.specs.Table.{name_among}
use Rattle.ir_tree.specs.Trees.{TypeV}
use Rattle.ir_text.specs.Tokens.{TokenV, token_of}
use Rattle.ir_text.specs.Leaves.{spelled_name}
use Rattle.ir_text.specs.Operands.{kind_is_local, is_local}
use Rattle.ir_text.specs.Repeated.{each_under}
use Rattle.ir_text.specs.Spelled.{OneToken}
use Rattle.ir_text.specs.Types.{Known}
use Rattle.ir_grammar.specs.Headers.{Header, unique, new_global, new_global_by}
use Rattle.ir_grammar.specs.Items.{named_body_at}
use Rattle.ir_grammar.specs.Modules.{Item, TypeItem, GlobalItem, FunctionItem, PassedItem, SoFar, nothing_so_far, with_item}
use Rattle.ir_grammar.specs.NamedTypes.{says_type, definitions, named_only, unless_faulty, bodies_of, laid_types, with_type, types_in}
use Rattle.ir_grammar.specs.Texts.{is_over, kept_from, without_records, read_tokens, read_of}
use Rattle.ir_rules.specs.Reading.{name_stands, type_names, global_names}
use Rattle.ir_rules.specs.Seen.{FunctionV, GlobalV, ModuleV}
use Rattle.ir_rules.proofs.SameLemmas.{and_both}
use Rattle.module_laws.specs.Heads.{a_head}
use Rattle.module_laws.specs.ItemsSpelled.{a_declaration, a_definition, an_item, module_of}
use Rattle.module_laws.specs.TextLaws.{types_of, known_of}
use Rattle.module_laws.proofs.WholeLaws.{read_is_spelled}

-- ---- tokens

-- what a token spells passes no limit
abbrev within : TokenKind → List ℕ → Bool
within k text = not (is_some (limit_of (form.Token k) text))

abbrev is_within : TokenV → Bool
is_within t = within t.kind t.text

abbrev token_within : List ℕ → Token → Bool
token_within text t = is_within (token_of text t)

piece_within : (text : List ℕ) (p : Piece) (b at line : ℕ) (rest : List ℕ) (go_on : ℕ → ℕ → Lexed) → drop at text ≡ b ∷ rest → piece_of (b ∷ rest) ≡ p
    → ((n after : ℕ) → list_all (token_within text) (go_on n after).tokens ≡ true) → list_all (token_within text) (piece_then p b at line go_on).tokens ≡ true
piece_within text (piece.Found form.Gap n) b at line rest go_on front is others = others (n - 1) (line_after line b)
piece_within text (piece.Found (form.Token k) n) b at line rest go_on front is others =
    let f = found (drop at text) (form.Token k) n (ap piece_of front ∙ is) in
    let e : (at + n) - at ≡ n = omega arith in
    let none : limit_of (form.Token k) (slice_range text at (at + n)) ≡ None = rw e f.limits in
    let here : token_within text (record { kind = k; from = at; to = at + n; line = line }) ≡ true = ap (λ (o : Option Cause). not (is_some o)) none in
    let behind = others (n - 1) line in
    rw (here, behind) refl
piece_within text (piece.Bad why) b at line rest go_on front is others = refl

tokens_within : (text bytes : List ℕ) (passing at line : ℕ) → drop at text ≡ bytes → list_all (token_within text) (lexed_from bytes passing at line).tokens ≡ true
unfolding lexed_from
tokens_within text [] passing at line front = refl
tokens_within text (b ∷ rest) (suc n) at line front = tokens_within text rest n (at + 1) line (sym (drop-drop 1 at text) ∙ ap (drop 1) front)
tokens_within text (b ∷ rest) zero at line front =
    piece_within text (piece_of (b ∷ rest)) b at line rest (λ n after. lexed_from rest n (at + 1) after) front refl
    (λ n after. tokens_within text rest n (at + 1) after (sym (drop-drop 1 at text) ∙ ap (drop 1) front))

kept_within : (p : Token → Bool) (text : List ℕ) (line : ℕ) (passed : Bool) (tokens : List Token) → list_all p tokens ≡ true → list_all p (kept_from text line passed tokens) ≡ true
unfolding kept_from
kept_within p text line passed [] all = refl
kept_within p text line passed (t ∷ rest) all =
    let parts = and_both (p t) (list_all p rest) all in
    by_test (is_over text line passed (t ∷ rest)) parts.0 (kept_within p text t.line true rest parts.1) (kept_within p text t.line false rest parts.1)
  where
    by_test : (b : Bool) → p t ≡ true → list_all p (kept_from text t.line true rest) ≡ true → list_all p (kept_from text t.line false rest) ≡ true
        → list_all p (cond b (kept_from text t.line true rest) (t ∷ kept_from text t.line false rest)) ≡ true
    by_test true here over kept = over
    by_test false here over kept = rw (here, kept) refl

read_within : (text : List ℕ) → list_all is_within (read_tokens text) ≡ true
unfolding read_tokens lexed
read_within text =
    let all = lexed_from text 0 0 1 in
    list_all-map is_within (token_of text) (without_records text all.tokens) ∙ kept_within (token_within text) text 0 false all.tokens (tokens_within text text 0 0 1 refl)

-- ---- names

not_least : (m n : ℕ) → nat_le m n ≡ false → nat_lt n m ≡ true
not_least m n is = grind (arith, nat_tests)

name_by : (digits least quoted : Bool) (n : ℕ) (as_quoted as_is : List ℕ) (some others : Option Cause) → nat_le (2 ^ 63) n ≡ least → not (is_some (cond digits (cond least (Some causes.Number) some) others)) ≡ true
    → name_stands (cond digits (Numbered n) (cond quoted (Named as_quoted) (Named as_is))) ≡ true
name_by true true quoted n as_quoted as_is some others is e = absurd cc
name_by true false quoted n as_quoted as_is some others is e = not_least (2 ^ 63) n is
name_by false least true n as_quoted as_is some others is e = refl
name_by false least false n as_quoted as_is some others is e = refl

name_small : (text : List ℕ) → not (is_some (name_limit text)) ≡ true → name_stands (name_of text) ≡ true
unfolding name_limit name_of
name_small text e = name_by _ (nat_le (2 ^ 63) (number text)) _ (number text) (decoded (unquoted text)) text _ _ refl e

local_small : (k : TokenKind) (text : List ℕ) → kind_is_local k ≡ true → within k text ≡ true → name_stands (name_of (name_part k text)) ≡ true
unfolding limit_of
local_small kind.LocalName text is e = name_small (name_part kind.LocalName text) e
local_small kind.Word text is e = absurd cc
local_small kind.Punct text is e = absurd cc
local_small kind.GlobalName text is e = absurd cc
local_small kind.Label text is e = absurd cc
local_small kind.Integer text is e = absurd cc
local_small kind.Text text is e = absurd cc

unique_is : (values : List Name) (name given : Name) → unique values name ≡ Ok given → name ≡ given
unique_is values name given e = by_test (name_among name values) e
  where
    by_test : (b : Bool) → cond b (Err causes.Duplicate) (Ok name) ≡ Ok given → name ≡ given
    by_test true f = absurd cc
    by_test false f = cc

global_is : (values : List Name) (k : TokenKind) (t : TokenV) (name : Name) → t.kind ≡ k → new_global_by values k t ≡ Ok name → within k t.text ≡ true → name_stands name ≡ true
unfolding limit_of
global_is values kind.GlobalName t name is e h =
    let same : name_of (name_part kind.GlobalName t.text) ≡ name = ap (λ (k : TokenKind). name_of (name_part k t.text)) (sym is) ∙ unique_is values (spelled_name t) name e in
    subst (λ (x : Name). name_stands x ≡ true) same (name_small (name_part kind.GlobalName t.text) h)
global_is values kind.Word t name is e h = absurd cc
global_is values kind.Punct t name is e h = absurd cc
global_is values kind.LocalName t name is e h = absurd cc
global_is values kind.Label t name is e h = absurd cc
global_is values kind.Integer t name is e h = absurd cc
global_is values kind.Text t name is e h = absurd cc

-- what holds of all tokens holds of the first ones and of those behind them
split : (ws front rest : List TokenV) → ws ≡ front ++ rest → list_all is_within ws ≡ true → (list_all is_within front ≡ true) × (list_all is_within rest ≡ true)
split ws front rest parts all = and_both (list_all is_within front) (list_all is_within rest) (sym (list_all-append is_within front rest) ∙ ap (list_all is_within) (sym parts) ∙ all)

global_small : (values : List Name) (name : Name) (ws : List TokenV) → OneToken (new_global values) name ws → list_all is_within ws ≡ true → name_stands name ≡ true
global_small values name ws o all =
    let one : list_all is_within (o.token ∷ []) ≡ true = ap (list_all is_within) (sym o.parts) ∙ all in
    global_is values o.token.kind o.token name refl o.is (and_both (is_within o.token) true one).0

-- ---- types

definitions_small : (ts : List TokenV) → list_all is_within ts ≡ true → list_all (λ d. name_stands d.0) (definitions ts) ≡ true
unfolding definitions
definitions_small [] all = refl
definitions_small (t ∷ rest) all =
    let parts = and_both (is_within t) (list_all is_within rest) all in
    by_test (is_local t) (says_type rest) refl parts.0 (definitions_small rest parts.1)
  where
    by_test : (p q : Bool) → is_local t ≡ p → is_within t ≡ true → list_all (λ d. name_stands d.0) (definitions rest) ≡ true
        → list_all (λ d. name_stands d.0) (cond (p && q) ((spelled_name t, drop 2 rest) ∷ definitions rest) (definitions rest)) ≡ true
    by_test true true is here others = let name = local_small t.kind t.text is here in rw (name, others) refl
    by_test true false is here others = others
    by_test false q is here others = others

abbrev names_stand : List (NamedType Name TypeV) → Bool
names_stand types = list_all (λ t. name_stands t.name) types

laid_small : (of : List TokenV → Option TypeV) (all : List (Name × List TokenV)) → list_all (λ d. name_stands d.0) all ≡ true → names_stand (laid_types (map (λ d. (d.0, of d.1)) all)) ≡ true
laid_small of [] h = refl
laid_small of (d ∷ all) h =
    let parts = and_both (name_stands d.0) (list_all (λ x. name_stands x.0) all) h in
    let here = parts.0 in
    let others = laid_small of all parts.1 in
    rw (here, others) refl

with_small : (types : List (NamedType Name TypeV)) (t : NamedType Name TypeV) → names_stand types ≡ true → name_stands t.name ≡ true → names_stand (with_type types t) ≡ true
with_small types t old new = by_test (name_among t.name (map (λ u. u.name) types))
  where
    by_test : (b : Bool) → names_stand (cond b types (types ++ t ∷ [])) ≡ true
    by_test true = old
    by_test false = list_all-append (λ (u : NamedType Name TypeV). name_stands u.name) types (t ∷ []) ∙ rw (old, new) refl

fold_small : (types all : List (NamedType Name TypeV)) → names_stand types ≡ true → names_stand all ≡ true → names_stand (fold with_type types all) ≡ true
fold_small types [] old new = old
fold_small types (t ∷ all) old new =
    let parts = and_both (name_stands t.name) (names_stand all) new in
    fold_small (with_type types t) all (with_small types t old parts.0) parts.1

types_small : (ts : List TokenV) → list_all is_within ts ≡ true → names_stand (types_in ts) ≡ true
unfolding types_in
types_small ts all =
    fold_small [] (laid_types (bodies_of (definitions ts))) refl
    (laid_small (λ us. unless_faulty (named_body_at (named_only (definitions ts)) us)) (definitions ts) (definitions_small ts all))

-- ---- items

head_small : (declared : Bool) (values : List Name) (h : Header) (ws : List TokenV) → a_head declared values h ws → list_all is_within ws ≡ true → name_stands h.name ≡ true
head_small declared values h ws s all =
    let result = s.rest_spells in
    let name = result.rest_spells in
    let behind_words = split ws s.front s.rest s.parts all in
    let behind_result = split s.rest result.front result.rest result.parts behind_words.1 in
    let here = split result.rest name.front name.rest name.parts behind_result.1 in
    global_small values h.name name.front name.first_spells here.0

abbrev ItemSmall : Item → Type 0
ItemSmall (TypeItem t) = Unit {0}
ItemSmall (GlobalItem g size) = name_stands g.name ≡ true
ItemSmall (FunctionItem f) = name_stands f.name ≡ true
ItemSmall PassedItem = Unit {0}

declared_small : (values : List Name) (f : FunctionV) (ws : List TokenV) → a_declaration values f ws → list_all is_within ws ≡ true → name_stands f.name ≡ true
declared_small values f ws m all =
    let notes = m.spelled in
    let head = notes.rest_spells in
    let behind_notes = split ws notes.front notes.rest notes.parts all in
    let here = split notes.rest head.front head.rest head.parts behind_notes.1 in
    subst (λ (x : FunctionV). name_stands x.name ≡ true) m.is (head_small true values m.parts head.front head.first_spells here.0)

defined_small : (known : Known) (values : List Name) (f : FunctionV) (ws : List TokenV) → a_definition known values f ws → list_all is_within ws ≡ true → name_stands f.name ≡ true
defined_small known values f ws m all =
    let head = m.spelled in
    let here = split ws head.front head.rest head.parts all in
    subst (λ (x : FunctionV). name_stands x.name ≡ true) m.is (head_small false values m.parts.0 head.front head.first_spells here.0)

item_small : (known : Known) (s : SoFar) (item : Item) (ws : List TokenV) → an_item known s item ws → list_all is_within ws ≡ true → ItemSmall item
item_small known s (TypeItem t) ws is all = tt
item_small known s (GlobalItem g size) ws is all = let name = is.0 in global_small s.values g.name name.front name.first_spells (split ws name.front name.rest name.parts all).0
item_small known s (FunctionItem f) ws (inl is) all = declared_small s.values f is.rest is.rest_spells (split ws is.front is.rest is.parts all).1
item_small known s (FunctionItem f) ws (inr is) all = defined_small known s.values f is.rest is.rest_spells (split ws is.front is.rest is.parts all).1
item_small known s PassedItem ws is all = tt

-- ---- the whole

record Small (gs : List GlobalV) (fs : List FunctionV) : Type 0 where
  globals : list_all (λ g. name_stands g.name) gs ≡ true
  functions : list_all (λ f. name_stands f.name) fs ≡ true

abbrev SmallSoFar : SoFar → Type 0
SmallSoFar s = Small s.module_so_far.globals s.module_so_far.functions

with_one : (s : SoFar) (item : Item) → SmallSoFar s → ItemSmall item → SmallSoFar (with_item s item)
with_one s (TypeItem t) small is = record { globals = small.globals; functions = small.functions }
with_one s (GlobalItem g size) small is =
    let old = small.globals in
    record { globals = list_all-append (λ (x : GlobalV). name_stands x.name) s.module_so_far.globals (g ∷ []) ∙ rw (old, is) refl; functions = small.functions }
with_one s (FunctionItem f) small is =
    let old = small.functions in
    record { globals = small.globals; functions = list_all-append (λ (x : FunctionV). name_stands x.name) s.module_so_far.functions (f ∷ []) ∙ rw (old, is) refl }
with_one s PassedItem small is = small

items_small : (known : Known) (s : SoFar) (all : List Item) (ws : List TokenV) → each_under (an_item known) with_item s all ws → list_all is_within ws ≡ true → SmallSoFar s → SmallSoFar (fold with_item s all)
items_small known s [] ws is h small = small
items_small known s (item ∷ all) ws is h small =
    let parts = split ws is.front is.rest is.parts h in
    items_small known (with_item s item) all is.rest is.rest_spells parts.1 (with_one s item small (item_small known s item is.front is.first_spells parts.0))

all_small : (v : ModuleV) → names_stand v.types ≡ true → Small v.globals v.functions → list_all name_stands (type_names v ++ global_names v) ≡ true
all_small v types small =
    let one = list_all-map name_stands (λ (t : NamedType Name TypeV). t.name) v.types ∙ types in
    let two = list_all-map name_stands (λ (g : GlobalV). g.name) v.globals ∙ small.globals in
    let three = list_all-map name_stands (λ (f : FunctionV). f.name) v.functions ∙ small.functions in
    let values : list_all name_stands (global_names v) ≡ true = list_all-append name_stands (map (λ g. g.name) v.globals) (map (λ f. f.name) v.functions) ∙ rw (two, three) refl in
    list_all-append name_stands (type_names v) (global_names v) ∙ rw (one, values) refl

pub names_small : (text : List ℕ) (v : ModuleV) → read_of text ≡ Ok v → list_all name_stands (type_names v ++ global_names v) ≡ true
names_small text v e =
    let is = (read_is_spelled text v e).spelled in
    let all = read_within text in
    let items = items_small (known_of text) nothing_so_far is.parts (read_tokens text) is.spelled all (record { globals = refl; functions = refl }) in
    subst (λ (x : ModuleV). list_all name_stands (type_names x ++ global_names x) ≡ true) is.is
    (all_small (module_of (types_of text) is.parts) (types_small (read_tokens text) all) (record { globals = items.globals; functions = items.functions }))
