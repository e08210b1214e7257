-- What the items of a text that was read say of its globals and functions: their names are apart, and each is printed.
use Rattle.std.proofs.Common.{◌≡◌, ℕ, ◌+◌, ◌<◌, ◌^◌, Bool, true, false, cond, List, [], ◌∷◌, ◌++◌, map, length, Ok, Err, refl, sym, ap, subst, ◌∙◌, ◌⊎◌, inl, inr, append_assoc, arith, length-append}
use Rattle.std.specs.Prelude.{All, fold, codes}
use Rattle.std.proofs.lemmas.Bool.{or_from}
use Rattle.std.proofs.lemmas.List.{append-nil}
use Rattle.std.proofs.lemmas.List.Elements.{All-nil, All-cons}
use Rattle.pv_base.specs.declared.name.Name.{Name}
use Rattle.ir_lex.specs.declared.token.TokenKind.{TokenKind}
use Rattle.ir_lex.specs.declared.token.TokenKind.TheVariants as kind
use Rattle.ir_lex.specs.declared.token.Cause.TheVariants as causes
use Rattle.ir_lex.specs.Spelling.{IsNameKind}
use Rattle.ir_tree.specs.declared.items.Global.{Global as GlobalV}
use Rattle.ir_tree.specs.declared.items.Function.{Function}
use Rattle.ir_tree.specs.Table.{same_name, name_among, with_name}
use Rattle.ir_tree.specs.Trees.{TypeV, ConstantV}
use Rattle.ir_text.specs.Tokens.{TokenV}
use Rattle.ir_text.specs.Constants.{width_of}
use Rattle.ir_text.specs.Leaves.{spelled_name}
use Rattle.ir_text.specs.Repeated.{each_under}
use Rattle.ir_text.specs.Spelled.{one_token}
use Rattle.ir_text.specs.Types.{Known}
use Rattle.ir_text.specs.TypeSpelled.{◌▸◌, a_word}
use Rattle.ir_printer.specs.Items.{function_pieces}
use Rattle.ir_grammar.specs.Headers.{Header, unique, new_global_by, new_global}
use Rattle.ir_grammar.specs.Modules.{Item, TypeItem, GlobalItem, FunctionItem, PassedItem, SoFar, with_item}
use Rattle.ir_grammar.specs.Items.{size_of}
use Rattle.module_laws.specs.Heads.{a_head}
use Rattle.module_laws.specs.ItemsSpelled.{a_global, a_declaration, a_definition, an_item}
use Rattle.print_tokens.specs.Standing.{NameFits}
use Rattle.print_values.specs.Laws.{NamesFit, TypesReadBack, ConstantsReadBack}
use Rattle.print_values.specs.Printed.{AreSound}
use Rattle.print_functions.specs.Lines.{PrintedLines}
use Rattle.print_functions.specs.Laws.{DeclarationsReadBack, DefinitionsReadBack}
use Rattle.print_functions.proofs.Composing.{as_spelled, sound_front, sound_rest, sound_one}
use Rattle.print_modules.proofs.Fresh.{New, new_apart, not_with, now_among, not_before}
use Rattle.print_modules.proofs.Lines.{GlobalFits, width_within}

-- ---- the globals and functions among items

abbrev pub globals_of : List Item → List (GlobalV Name TypeV ConstantV)
globals_of [] = []
globals_of (TypeItem t ∷ items) = globals_of items
globals_of (GlobalItem g size ∷ items) = g ∷ globals_of items
globals_of (FunctionItem f ∷ items) = globals_of items
globals_of (PassedItem ∷ items) = globals_of items

abbrev pub functions_of : List Item → List (Function Name TypeV ConstantV)
functions_of [] = []
functions_of (TypeItem t ∷ items) = functions_of items
functions_of (GlobalItem g size ∷ items) = functions_of items
functions_of (FunctionItem f ∷ items) = f ∷ functions_of items
functions_of (PassedItem ∷ items) = functions_of items

abbrev pub global_names : List (GlobalV Name TypeV ConstantV) → List Name
global_names gs = map (λ g. g.name) gs

abbrev pub function_names : List (Function Name TypeV ConstantV) → List Name
function_names fs = map (λ f. f.name) fs

pub fold_globals : (s : SoFar) (items : List Item) → (fold with_item s items).module_so_far.globals ≡ s.module_so_far.globals ++ globals_of items
fold_globals s [] = sym (append-nil s.module_so_far.globals)
fold_globals s (TypeItem t ∷ items) = fold_globals (with_item s (TypeItem t)) items
fold_globals s (GlobalItem g size ∷ items) = fold_globals (with_item s (GlobalItem g size)) items ∙ append_assoc s.module_so_far.globals (g ∷ []) (globals_of items)
fold_globals s (FunctionItem f ∷ items) = fold_globals (with_item s (FunctionItem f)) items
fold_globals s (PassedItem ∷ items) = fold_globals s items

pub fold_functions : (s : SoFar) (items : List Item) → (fold with_item s items).module_so_far.functions ≡ s.module_so_far.functions ++ functions_of items
fold_functions s [] = sym (append-nil s.module_so_far.functions)
fold_functions s (TypeItem t ∷ items) = fold_functions (with_item s (TypeItem t)) items
fold_functions s (GlobalItem g size ∷ items) = fold_functions (with_item s (GlobalItem g size)) items
fold_functions s (FunctionItem f ∷ items) = fold_functions (with_item s (FunctionItem f)) items ∙ append_assoc s.module_so_far.functions (f ∷ []) (functions_of items)
fold_functions s (PassedItem ∷ items) = fold_functions s items

-- ---- new names

unique_is : (values : List Name) (n name : Name) → unique values n ≡ Ok name → (n ≡ name) × (name_among name values ≡ false)
unique_is values n name = by_test (name_among n values) refl
  where
    by_test : (b : Bool) → name_among n values ≡ b → cond b (Err causes.Duplicate) (Ok n) ≡ Ok name → (n ≡ name) × (name_among name values ≡ false)
    by_test true e is = absurd cc
    by_test false e is = let same : n ≡ name = cc in (same, subst (λ (x : Name). name_among x values ≡ false) same e)

new_by : (values : List Name) (k : TokenKind) (t : TokenV) (name : Name) → new_global_by values k t ≡ Ok name → IsNameKind k × (unique values (spelled_name t) ≡ Ok name)
new_by values kind.GlobalName t name e = (tt, e)
new_by values kind.Word t name e = absurd cc
new_by values kind.Punct t name e = absurd cc
new_by values kind.LocalName t name e = absurd cc
new_by values kind.Label t name e = absurd cc
new_by values kind.Integer t name e = absurd cc
new_by values kind.Text t name e = absurd cc

new_name : (values : List Name) (name : Name) (ws : List TokenV) → one_token (new_global values) name ws → name_among name values ≡ false
new_name values name ws s = (unique_is values (spelled_name s.token) name (new_by values s.token.kind s.token name s.is).1).1

name_fits : NamesFit → (values : List Name) (name : Name) (ws : List TokenV) → AreSound ws → one_token (new_global values) name ws → NameFits name
name_fits names values name ws sound s =
    let n = new_by values s.token.kind s.token name s.is in
    subst NameFits (unique_is values (spelled_name s.token) name n.1).0 (names s.token (sound_one s.token ws s.parts sound) n.0)

head_new : (declared : Bool) (values : List Name) (h : Header) (ws : List TokenV) → a_head declared values h ws → name_among h.name values ≡ false
head_new declared values h ws s = new_name values h.name _ s.rest_spells.rest_spells.first_spells

declared_new : (values : List Name) (f : Function Name TypeV ConstantV) (ws : List TokenV) → a_declaration values f ws → name_among f.name values ≡ false
declared_new values f ws s = subst (λ (g : Function Name TypeV ConstantV). name_among g.name values ≡ false) s.is (head_new true values s.parts _ s.spelled.rest_spells.first_spells)

defined_new : (known : Known) (values : List Name) (f : Function Name TypeV ConstantV) (ws : List TokenV) → a_definition known values f ws → name_among f.name values ≡ false
defined_new known values f ws s = subst (λ (g : Function Name TypeV ConstantV). name_among g.name values ≡ false) s.is (head_new false values s.parts.0 _ s.spelled.first_spells)

-- ---- globals and functions that are printed

abbrev pub GlobalsFit : Known → ℕ → List (GlobalV Name TypeV ConstantV) → Type 0
GlobalsFit known size [] = Unit {0}
GlobalsFit known size (g ∷ gs) = GlobalFits known size g × GlobalsFit known (size + size_of known g.of) gs

abbrev pub a_function : Known → List Name → Function Name TypeV ConstantV → List TokenV → Type 0
a_function known others f ws = (a_word (codes "declare") ▸ a_declaration others f) ws ⊎ (a_word (codes "define") ▸ a_definition known others f) ws

-- behind whatever names of which it is none
abbrev pub FunctionFits : Known → Function Name TypeV ConstantV → Type 0
FunctionFits known f = (others : List Name) → name_among f.name others ≡ false → PrintedLines (a_function known others f) (function_pieces f)

global_fits : NamesFit → TypesReadBack → ConstantsReadBack → (known : Known) (values : List Name) (size : ℕ) (g : GlobalV Name TypeV ConstantV) (ws : List TokenV) → AreSound ws → a_global known values size g ws → GlobalFits known size g
global_fits names types_back constants_back known values size g ws sound s =
    let r = sound_rest s.front s.rest ws s.parts sound in
    let mark = s.rest_spells in
    let r1 = sound_rest mark.front mark.rest s.rest mark.parts r in
    let words = mark.rest_spells in
    let r2 = sound_rest words.front words.rest mark.rest words.parts r1 in
    let constant = words.rest_spells in
    let r3 = sound_rest constant.front constant.rest words.rest constant.parts r2 in
    let type = constant.rest_spells in
    let r4 = sound_rest type.front type.rest constant.rest type.parts r3 in
    let init = type.rest_spells in
    let width = width_within g.of in
    record {
      name = name_fits names values g.name s.front (sound_front s.front s.rest ws s.parts sound) s.first_spells;
      type = types_back known g.of type.front (sound_front type.front type.rest constant.rest type.parts r3) type.first_spells.0.0;
      layout = type.first_spells.0.1;
      room = type.first_spells.1;
      init = constants_back known (width_of g.of) g.init init.front width.0 width.1 (sound_front init.front init.rest type.rest init.parts r4) init.first_spells;
    }

module _ (decl_back : DeclarationsReadBack) (def_back : DefinitionsReadBack) (known : Known) (values : List Name) (f : Function Name TypeV ConstantV) (ws : List TokenV) (sound : AreSound ws) (few : length ws < 2 ^ 62) where
  function_fits : a_function known values f ws → FunctionFits known f
  function_fits (inl s) = λ others new. as_spelled (λ us h. inl h) (decl_back values others f s.rest (sound_rest s.front s.rest ws s.parts sound) new s.rest_spells)
  function_fits (inr s) = λ others new. as_spelled (λ us h. inr h) (def_back known values others f s.rest (sound_rest s.front s.rest ws s.parts sound) (omega (arith, few, ap length s.parts, length-append s.front s.rest)) new s.rest_spells)

function_new : (known : Known) (values : List Name) (f : Function Name TypeV ConstantV) (ws : List TokenV) → a_function known values f ws → name_among f.name values ≡ false
function_new known values f ws (inl s) = declared_new values f s.rest s.rest_spells
function_new known values f ws (inr s) = defined_new known values f s.rest s.rest_spells

-- ---- all items

-- The globals are new behind what was seen, and the functions behind what was seen and the globals.
pub record Walked (known : Known) (s : SoFar) (items : List Item) : Type 0 where
  pub globals : (seen : List Name) → ((x : Name) → name_among x s.values ≡ false → name_among x seen ≡ false) → New seen (global_names (globals_of items))
  pub functions : (seen : List Name) → ((x : Name) → name_among x s.values ≡ false → name_among x (global_names (globals_of items)) ≡ false → name_among x seen ≡ false)
      → New seen (function_names (functions_of items))
  pub sizes : GlobalsFit known s.size (globals_of items)
  pub printed : All (FunctionFits known) (functions_of items)

module _ (names : NamesFit) (types_back : TypesReadBack) (constants_back : ConstantsReadBack) (decl_back : DeclarationsReadBack) (def_back : DefinitionsReadBack) (known : Known) where
  with_global : (s : SoFar) (g : GlobalV Name TypeV ConstantV) (size : ℕ) (items : List Item) → name_among g.name s.values ≡ false → size_of known g.of ≡ size → GlobalFits known s.size g
      → Walked known (with_item s (GlobalItem g size)) items → Walked known s (GlobalItem g size ∷ items)
  with_global s g size items new is fits r = record {
    globals = λ seen within. (within g.name new, r.globals (with_name seen g.name) (λ x e. let p = not_before x s.values g.name e in not_with x seen g.name (within x p.0) p.1));
    functions = λ seen within. r.functions seen (λ x a b. let p = not_before x s.values g.name a in within x p.0 (or_from (same_name x g.name) (name_among x (global_names (globals_of items))) p.1 b));
    sizes = (fits, subst (λ (n : ℕ). GlobalsFit known (s.size + n) (globals_of items)) (sym is) r.sizes);
    printed = r.printed;
  }

  with_function : (s : SoFar) (f : Function Name TypeV ConstantV) (items : List Item) → name_among f.name s.values ≡ false → FunctionFits known f
      → Walked known (with_item s (FunctionItem f)) items → Walked known s (FunctionItem f ∷ items)
  with_function s f items new fits r =
      let apart = new_apart (with_name s.values f.name) (global_names (globals_of items)) f.name (r.globals (with_name s.values f.name) (λ x e. e)) (now_among s.values f.name) in
      record {
        globals = λ seen within. r.globals seen (λ x e. within x (not_before x s.values f.name e).0);
        functions = λ seen within. (within f.name new apart, r.functions (with_name seen f.name) (λ x a b. let p = not_before x s.values f.name a in not_with x seen f.name (within x p.0 b) p.1));
        sizes = r.sizes;
        printed = All-cons (FunctionFits known) f (functions_of items) fits r.printed;
      }

  pub walked : (s : SoFar) (items : List Item) (ws : List TokenV) → AreSound ws → length ws < 2 ^ 62 → each_under (an_item known) with_item s items ws → Walked known s items
  walked s [] ws sound few b = record { globals = λ seen within. tt; functions = λ seen within. tt; sizes = tt; printed = All-nil (FunctionFits known) }
  walked s (TypeItem t ∷ items) ws sound few b =
      let r = walked (with_item s (TypeItem t)) items b.rest (sound_rest b.front b.rest ws b.parts sound) (omega (arith, few, ap length b.parts, length-append b.front b.rest)) b.rest_spells in
      record { globals = r.globals; functions = r.functions; sizes = r.sizes; printed = r.printed }
  walked s (GlobalItem g size ∷ items) ws sound few b =
      let r = walked (with_item s (GlobalItem g size)) items b.rest (sound_rest b.front b.rest ws b.parts sound) (omega (arith, few, ap length b.parts, length-append b.front b.rest)) b.rest_spells in
      let here = b.first_spells in
      with_global s g size items (new_name s.values g.name here.0.front here.0.first_spells) here.1 (global_fits names types_back constants_back known s.values s.size g b.front (sound_front b.front b.rest ws b.parts sound) here.0) r
  walked s (FunctionItem f ∷ items) ws sound few b =
      let r = walked (with_item s (FunctionItem f)) items b.rest (sound_rest b.front b.rest ws b.parts sound) (omega (arith, few, ap length b.parts, length-append b.front b.rest)) b.rest_spells in
      let here : a_function known s.values f b.front = b.first_spells in
      with_function s f items (function_new known s.values f b.front here)
      (function_fits decl_back def_back known s.values f b.front (sound_front b.front b.rest ws b.parts sound) (omega (arith, few, ap length b.parts, length-append b.front b.rest)) here) r
  walked s (PassedItem ∷ items) ws sound few b =
      let r = walked s items b.rest (sound_rest b.front b.rest ws b.parts sound) (omega (arith, few, ap length b.parts, length-append b.front b.rest)) b.rest_spells in
      record { globals = r.globals; functions = r.functions; sizes = r.sizes; printed = r.printed }
