-- What reading items keeps.
use Rattle.std.proofs.Common.{◌≡◌, ℕ, ◌+◌, ◌≤◌, Bool, true, false, cond, List, [], ◌∷◌, ◌++◌, length, Option, Some, None, Ok, refl, sym, ap, ◌∙◌, map, arith, append_assoc}
use Rattle.std.specs.Prelude.{◌||◌, fold, is_some, sum_by, codes}
use Rattle.std.specs.List.{list_all, AllByRecursion}
use Rattle.std.proofs.lemmas.Bool.{leb-true}
use Rattle.std.proofs.lemmas.List.{map-append}
use Rattle.std.proofs.lemmas.List.Folds.{list_any-append, list_all-append}
use Rattle.std.proofs.lemmas.List.Sums.{sum_by_push}
use Rattle.pv_base.specs.declared.name.Name.{Name}
use Rattle.pv_base.specs.Limits.{live_limit}
use Rattle.ir_lex.specs.declared.token.Cause.TheVariants as causes
use Rattle.ir_tree.specs.declared.items.NamedType.{NamedType}
use Rattle.ir_tree.specs.declared.layout.Layout.{Layout}
use Rattle.ir_tree.specs.Layouts.{layout_with, layout_of, named_layout}
use Rattle.ir_tree.specs.Table.{same_name, name_among, with_name}
use Rattle.ir_tree.specs.Trees.{TypeV}
use Rattle.ir_text.specs.declared.fault.Fault.TheVariants.{At, Ended}
use Rattle.ir_text.specs.Tokens.{TokenV, is_word, blamed}
use Rattle.ir_text.specs.Reading.{Outcome, wrong, token_by}
use Rattle.ir_text.specs.Constants.{width_of}
use Rattle.ir_text.specs.Leaves.{mark_at}
use Rattle.ir_text.specs.MemoryTypes.{named_layouts, memory_type_at}
use Rattle.ir_text.specs.Operands.{constant_at}
use Rattle.ir_text.specs.Passed.{words_at, stops}
use Rattle.ir_text.specs.Tails.{notes_at, tails_at}
use Rattle.ir_text.specs.Types.{Known}
use Rattle.ir_text.proofs.ConstantFuel.{constant_laws}
use Rattle.ir_text.proofs.LaidOut.{layouts_by}
use Rattle.ir_instr.specs.Words.{worded}
use Rattle.ir_grammar.specs.Bodies.{body_at}
use Rattle.ir_grammar.specs.Headers.{new_global, header_at, scope_of}
use Rattle.ir_grammar.specs.PassedItems.{to_string, attributes_at, metadata_at, comdat_at, attached_at}
use Rattle.ir_grammar.specs.Items.{words_behind, before_global, global_words, bytes_of, fits_globals, global_type_at, global_at, declaration_at, definition_at, named_type_at, passing, type_item_at, global_item_at, declaration_item_at, definition_item_at, worded_item_at, marked_item_at, item_at, any_token, items_at}
use Rattle.ir_grammar.specs.Items as items
use Rattle.ir_grammar.specs.Modules.{Item, TypeItem, GlobalItem, FunctionItem, PassedItem, SoFar, nothing_so_far, with_item}
use Rattle.ir_rules.specs.Reading.{all_differ, names_differ, has_layout, constant_stands, size_of}
use Rattle.ir_rules.specs.Seen.{FunctionV, GlobalV}
use Rattle.instr_laws.proofs.MemoryLaws.{memory_type_laws}
use Rattle.read_laws.specs.Describing.{Describes}
use Rattle.read_laws.specs.Functions.{FunctionStands}
use Rattle.read_laws.specs.Modules.{AllItemsStand}
use Rattle.read_laws.proofs.Constants.{spelled_constant}
use Rattle.read_laws.proofs.Functions.{declarations_stand, definitions_stand}
use Rattle.read_laws.proofs.Heads.{global_new, header_is}
use Rattle.read_laws.proofs.Scopes.{differ_insert, differ_push, pushed}
use Rattle.read_laws.proofs.Steps.{Gives, gives, faulty, then, either, token_read, Each, Done, Then, each_read}

module _ (known : Known) (types : List (NamedType Name TypeV)) (describes : Describes known types) where
  layout_same : (of : TypeV) → layout_with (named_layouts known) of ≡ layout_of types of
  layout_same of = layouts_by (named_layouts known) (named_layout (length types) types) describes.layouts of

  -- ---- globals

  -- a type with a layout, with which so many bytes are not too many
  record Laid (size : ℕ) (x : TypeV × List TokenV) : Type 0 where
    laid_out : has_layout types x.0 ≡ true
    fits : size + items.size_of known x.0 ≤ live_limit

  fitted : (size : ℕ) (t : TokenV) (of : TypeV × List TokenV) (b : Bool) → fits_globals (size + items.size_of known of.0) ≡ b → has_layout types of.0 ≡ true → Gives (Laid size) (cond b (Ok of) (wrong t causes.Layout))
  fitted size t of true is laid = gives (Laid size) of (record { laid_out = laid; fits = leb-true (size + items.size_of known of.0) live_limit is })
  fitted size t of false is laid = faulty (Laid size) _

  type_laid : (size : ℕ) (ts : List TokenV) → Gives (Laid size) (global_type_at known size ts)
  unfolding global_type_at
  type_laid size [] = faulty (Laid size) Ended
  type_laid size (t ∷ rest) =
      then (Laid size) (memory_type_at known (t ∷ rest)) _ (λ of e.
      let m = (memory_type_laws 0 known).sound (t ∷ rest) of e in
      fitted size t of (fits_globals (size + items.size_of known of.0)) refl (ap is_some (sym (layout_same of.0)) ∙ m.spelled.laid_out))

  record GlobalIs (values : List Name) (size : ℕ) (g : GlobalV) : Type 0 where
    name : name_among g.name values ≡ false
    laid_out : has_layout types g.of ≡ true
    fits : size + items.size_of known g.of ≤ live_limit
    initialiser : constant_stands types g.init ≡ true

  abbrev GlobalGiven : List Name → ℕ → GlobalV × List TokenV → Type 0
  GlobalGiven values size x = GlobalIs values size x.0

  global_is : (values : List Name) (size : ℕ) (ts : List TokenV) → Gives (GlobalGiven values size) (global_at known values size ts)
  global_is values size ts =
      then (GlobalGiven values size) (token_by (new_global values) ts) _ (λ name a. then (GlobalGiven values size) (mark_at 61 name.1) _ (λ equals b. then (GlobalGiven values size) (words_at before_global equals.1) _ (λ words c.
      then (GlobalGiven values size) (token_by (worded global_words) words.1) _ (λ constant d. then (GlobalGiven values size) (global_type_at known size constant.1) _ (λ of e.
      let laid = (type_laid size constant.1).holds of e in
      then (GlobalGiven values size) (constant_at known (width_of of.0) of.1) _ (λ init f. then (GlobalGiven values size) (tails_at init.1) _ (λ passed g. gives (GlobalGiven values size) _ (record {
        name = let t = token_read (new_global values) ts name a in global_new values t.token name.0 t.is;
        laid_out = laid.laid_out;
        fits = laid.fits;
        initialiser = let k = (constant_laws known 0 (width_of of.0)).sound of.1 init f in spelled_constant known types describes (width_of of.0) init.0 k.front k.spelled;
      }))))))))

  -- ---- items

  abbrev ItemIs : SoFar → Item → Type 0
  ItemIs s (TypeItem t) = Unit {0}
  ItemIs s (GlobalItem g size) = GlobalIs s.values s.size g × (size ≡ items.size_of known g.of)
  ItemIs s (FunctionItem f) = (name_among f.name s.values ≡ false) × FunctionStands types f
  ItemIs s PassedItem = Unit {0}

  abbrev ItemGiven : SoFar → Item × List TokenV → Type 0
  ItemGiven s x = ItemIs s x.0

  passing_is : (s : SoFar) (read : Outcome (Unit {0})) → Gives (ItemGiven s) (passing read)
  passing_is s read = then (ItemGiven s) read _ (λ x e. gives (ItemGiven s) _ tt)

  type_is : (s : SoFar) (ts : List TokenV) → Gives (ItemGiven s) (type_item_at known s ts)
  type_is s ts = then (ItemGiven s) (named_type_at known s.types ts) _ (λ t e. gives (ItemGiven s) _ tt)

  global_item_is : (s : SoFar) (ts : List TokenV) → Gives (ItemGiven s) (global_item_at known s ts)
  global_item_is s ts = then (ItemGiven s) (global_at known s.values s.size ts) _ (λ g e. gives (ItemGiven s) _ ((global_is s.values s.size ts).holds g e, refl))

  abbrev NameNew : List Name → FunctionV × List TokenV → Type 0
  NameNew values x = name_among x.0.name values ≡ false

  declared_new : (values : List Name) (ts : List TokenV) → Gives (NameNew values) (declaration_at values ts)
  declared_new values ts =
      then (NameNew values) (notes_at ts) _ (λ notes a. then (NameNew values) (header_at true values notes.1) _ (λ header b. then (NameNew values) (words_behind header.1) _ (λ words c. then (NameNew values) (attached_at words.1) _ (λ attached d.
      gives (NameNew values) _ ((header_is true values notes.1).holds header b).name))))

  defined_new : (values : List Name) (ts : List TokenV) → Gives (NameNew values) (definition_at known values ts)
  defined_new values ts =
      then (NameNew values) (header_at false values ts) _ (λ header a. then (NameNew values) (words_at (stops [] false) header.1) _ (λ words b. then (NameNew values) (notes_at words.1) _ (λ notes c. then (NameNew values) (mark_at 123 notes.1) _ (λ brace d.
      then (NameNew values) (body_at known (scope_of header.0.params) brace.1) _ (λ blocks g. gives (NameNew values) _ ((header_is false values ts).holds header a).name)))))

  declaration_is : (s : SoFar) (ts : List TokenV) → Gives (ItemGiven s) (declaration_item_at known s ts)
  declaration_is s ts = then (ItemGiven s) (declaration_at s.values ts) _ (λ f e. gives (ItemGiven s) _ ((declared_new s.values ts).holds f e, declarations_stand types s.values ts f.1 f.0 e))

  definition_is : (s : SoFar) (ts : List TokenV) → Gives (ItemGiven s) (definition_item_at known s ts)
  definition_is s ts = then (ItemGiven s) (definition_at known s.values ts) _ (λ f e. gives (ItemGiven s) _ ((defined_new s.values ts).holds f e, definitions_stand known types s.values ts f.1 f.0 describes e))

  worded_is : (s : SoFar) (ts : List TokenV) → Gives (ItemGiven s) (worded_item_at known s ts)
  unfolding worded_item_at
  worded_is s [] = faulty (ItemGiven s) Ended
  worded_is s (t ∷ rest) =
      either (ItemGiven s) (is_word (codes "define") t) _ _ (definition_is s rest)
      (either (ItemGiven s) (is_word (codes "declare") t) _ _ (declaration_is s rest)
      (either (ItemGiven s) (is_word (codes "source_filename") t) _ _ (passing_is s (to_string rest))
      (either (ItemGiven s) (is_word (codes "target") t) _ _ (passing_is s (to_string rest))
      (either (ItemGiven s) (is_word (codes "attributes") t) _ _ (passing_is s (attributes_at rest)) (faulty (ItemGiven s) (At t.line (blamed t causes.Instruction)))))))

  marked_is : (s : SoFar) (ts : List TokenV) → Gives (ItemGiven s) (marked_item_at known s ts)
  marked_is s ts = either (ItemGiven s) _ _ _ (passing_is s (metadata_at ts)) (either (ItemGiven s) _ _ _ (passing_is s (comdat_at ts)) (worded_is s ts))

  item_is : (s : SoFar) (ts : List TokenV) → Gives (ItemGiven s) (item_at known s ts)
  item_is s ts = either (ItemGiven s) _ _ _ (type_is s ts) (either (ItemGiven s) _ _ _ (global_item_is s ts) (marked_is s ts))

  -- ---- all items

  abbrev global_names_of : List GlobalV → List Name
  global_names_of gs = map (λ g. g.name) gs

  abbrev function_names_of : List FunctionV → List Name
  function_names_of fs = map (λ f. f.name) fs

  abbrev bytes : List GlobalV → ℕ
  bytes gs = sum_by (λ g. size_of (layout_of types g.of)) gs

  record SoFarIs (gs : List GlobalV) (fs : List FunctionV) (values : List Name) (size : ℕ) : Type 0 where
    differ : names_differ (global_names_of gs ++ function_names_of fs) ≡ true
    same : (name : Name) → name_among name values ≡ name_among name (global_names_of gs ++ function_names_of fs)
    layouts : list_all (λ g. has_layout types g.of) gs ≡ true
    initialisers : list_all (λ g. constant_stands types g.init) gs ≡ true
    takes : bytes gs ≡ size
    fits : size ≤ live_limit
    functions : AllByRecursion (FunctionStands types) fs

  shuffle : (p q r : Bool) → ((p || q) || (r || false)) ≡ (p || (r || q))
  shuffle true q r = refl
  shuffle false true true = refl
  shuffle false true false = refl
  shuffle false false true = refl
  shuffle false false false = refl

  among_insert : (name x : Name) (xs ys values : List Name) → name_among name values ≡ name_among name (xs ++ ys) → name_among name (values ++ x ∷ []) ≡ name_among name (xs ++ x ∷ ys)
  among_insert name x xs ys values same =
      list_any-append (same_name name) values (x ∷ [])
      ∙ ap (λ (b : Bool). b || (same_name name x || false)) (same ∙ list_any-append (same_name name) xs ys)
      ∙ shuffle (name_among name xs) (name_among name ys) (same_name name x)
      ∙ sym (list_any-append (same_name name) xs (x ∷ ys))

  push_all : {A : Type 0} (p : A → Bool) (all : List A) (a : A) → list_all p all ≡ true → p a ≡ true → list_all p (all ++ a ∷ []) ≡ true
  push_all p all a others here = list_all-append p all (a ∷ []) ∙ rw (others, here) refl

  push_each : {A : Type 0} (P : A → Type 0) (all : List A) (a : A) → AllByRecursion P all → P a → AllByRecursion P (all ++ a ∷ [])
  push_each P [] a others here = (here, tt)
  push_each P (x ∷ all) a others here = (others.0, push_each P all a others.1 here)

  names_pushed : (gs : List GlobalV) (g : GlobalV) (ys : List Name) → global_names_of (gs ++ g ∷ []) ++ ys ≡ global_names_of gs ++ g.name ∷ ys
  names_pushed [] g ys = refl
  names_pushed (x ∷ gs) g ys = ap (λ (l : List Name). x.name ∷ l) (names_pushed gs g ys)

  functions_pushed : (xs : List Name) (fs : List FunctionV) (f : FunctionV) → xs ++ function_names_of (fs ++ f ∷ []) ≡ (xs ++ function_names_of fs) ++ f.name ∷ []
  functions_pushed xs fs f = ap (λ (l : List Name). xs ++ l) (map-append (λ (x : FunctionV). x.name) fs (f ∷ [])) ∙ sym (append_assoc xs (function_names_of fs) (f.name ∷ []))

  size_same : (of : TypeV) → items.size_of known of ≡ size_of (layout_of types of)
  size_same of = ap bytes_of (layout_same of) ∙ by_layout (layout_of types of)
    where
      by_layout : (l : Option Layout) → bytes_of l ≡ size_of l
      by_layout (Some l) = refl
      by_layout None = refl

  with_global : (gs : List GlobalV) (fs : List FunctionV) (values : List Name) (size more : ℕ) (g : GlobalV) → SoFarIs gs fs values size → GlobalIs values size g → more ≡ items.size_of known g.of
      → SoFarIs (gs ++ g ∷ []) fs (with_name values g.name) (size + more)
  with_global gs fs values size more g s is e =
      let new : name_among g.name (global_names_of gs ++ function_names_of fs) ≡ false = sym (s.same g.name) ∙ is.name in
      let joined = names_pushed gs g (function_names_of fs) in
      record {
        differ = ap names_differ joined ∙ differ_insert (global_names_of gs) (function_names_of fs) g.name s.differ new;
        same = λ name. ap (name_among name) (pushed values g.name is.name) ∙ among_insert name g.name (global_names_of gs) (function_names_of fs) values (s.same name) ∙ ap (name_among name) (sym joined);
        layouts = push_all (λ (x : GlobalV). has_layout types x.of) gs g s.layouts is.laid_out;
        initialisers = push_all (λ (x : GlobalV). constant_stands types x.init) gs g s.initialisers is.initialiser;
        takes = sum_by_push (λ (x : GlobalV). size_of (layout_of types x.of)) gs g ∙ rw (s.takes) (ap (λ (n : ℕ). size + n) (sym (size_same g.of) ∙ sym e));
        fits = let f = is.fits in rw e f;
        functions = s.functions;
      }

  with_function : (gs : List GlobalV) (fs : List FunctionV) (values : List Name) (size : ℕ) (f : FunctionV) → SoFarIs gs fs values size → name_among f.name values ≡ false → FunctionStands types f
      → SoFarIs gs (fs ++ f ∷ []) (with_name values f.name) size
  with_function gs fs values size f s is_new stands =
      let new : name_among f.name (global_names_of gs ++ function_names_of fs) ≡ false = sym (s.same f.name) ∙ is_new in
      let joined = functions_pushed (global_names_of gs) fs f in
      record {
        differ = ap names_differ joined ∙ differ_push (global_names_of gs ++ function_names_of fs) f.name s.differ new;
        same = λ name.
            ap (name_among name) (pushed values f.name is_new)
            ∙ list_any-append (same_name name) values (f.name ∷ []) ∙ ap (λ (b : Bool). b || (same_name name f.name || false)) (s.same name) ∙ sym (list_any-append (same_name name) (global_names_of gs ++ function_names_of fs) (f.name ∷ []))
            ∙ ap (name_among name) (sym joined);
        layouts = s.layouts;
        initialisers = s.initialisers;
        takes = s.takes;
        fits = s.fits;
        functions = push_each (FunctionStands types) fs f s.functions stands;
      }

  abbrev Good : SoFar → Type 0
  Good s = SoFarIs s.module_so_far.globals s.module_so_far.functions s.values s.size

  with_one : (s : SoFar) (item : Item) → Good s → ItemIs s item → Good (with_item s item)
  with_one s (TypeItem t) good is = good
  with_one s (GlobalItem g size) good is = with_global s.module_so_far.globals s.module_so_far.functions s.values s.size size g good is.0 is.1
  with_one s (FunctionItem f) good is = with_function s.module_so_far.globals s.module_so_far.functions s.values s.size f good is.0 is.1
  with_one s PassedItem good is = good

  with_all : (s : SoFar) (all : List Item) → Each ItemIs with_item s all → Good s → Good (fold with_item s all)
  with_all s [] (Done r) good = good
  with_all s (item ∷ all) (Then r a rest p each) good = with_all (with_item s item) all each (with_one s item good p)

  none_good : Good nothing_so_far
  unfolding all_differ
  none_good = record { differ = refl; same = λ name. refl; layouts = refl; initialisers = refl; takes = refl; fits = omega arith; functions = tt }

  items_good : (ts : List TokenV) (x : List Item × List TokenV) → items_at known ts ≡ Ok x → Good (fold with_item nothing_so_far x.0)
  items_good ts x e = with_all nothing_so_far x.0 (each_read any_token (item_at known) with_item ItemIs (λ s us y f. (item_is s us).holds y f) nothing_so_far ts x e) none_good

pub all_items_stand : AllItemsStand
all_items_stand known types ts rest all describes e =
    let good = items_good known types describes ts (all, rest) e in
    record {
      names = good.differ;
      layouts = good.layouts;
      initialisers = good.initialisers;
      sizes = let fits = good.fits in rw (good.takes) fits;
      functions = good.functions;
    }
