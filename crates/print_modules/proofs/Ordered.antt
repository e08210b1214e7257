-- The items of a module in canonical order: types, globals and functions, as they are printed.
use Rattle.std.proofs.Common.{◌≡◌, ℕ, false, List, [], ◌∷◌, ◌++◌, map, refl, sym, ap, subst, ◌∙◌, append_assoc}
use Rattle.std.specs.Prelude.{All, fold}
use Rattle.std.proofs.lemmas.List.{append-nil}
use Rattle.std.proofs.lemmas.List.Elements.{All-head, All-tail}
use Rattle.pv_base.specs.declared.name.Name.{Name}
use Rattle.ir_tree.specs.declared.items.NamedType.{NamedType}
use Rattle.ir_tree.specs.declared.items.Global.{Global as GlobalV}
use Rattle.ir_tree.specs.declared.items.Function.{Function}
use Rattle.ir_tree.specs.Table.{name_among, with_name}
use Rattle.ir_tree.specs.Trees.{TypeV, ConstantV}
use Rattle.ir_text.specs.Tokens.{TokenV}
use Rattle.ir_text.specs.Repeated.{each_under}
use Rattle.ir_text.specs.Types.{Known}
use Rattle.ir_printer.specs.Pieces.{Piece, joined}
use Rattle.ir_printer.specs.Items.{named_pieces, global_pieces, function_pieces, items_pieces}
use Rattle.ir_grammar.specs.Modules.{Item, TypeItem, GlobalItem, FunctionItem, SoFar, nothing_so_far, with_item, ModuleV}
use Rattle.ir_grammar.specs.Items.{size_of}
use Rattle.module_laws.specs.ItemsSpelled.{an_item, some_items, module_of}
use Rattle.print_values.specs.Laws.{NamesReadBack, TypesStand, ConstantsStand}
use Rattle.print_functions.specs.Lines.{PrintedLines}
use Rattle.print_functions.proofs.Composing.{as_pieces, as_spelled, nothing_printed, in_turn}
use Rattle.print_modules.proofs.Fresh.{New}
use Rattle.print_modules.proofs.Distinct.{type_names}
use Rattle.print_modules.proofs.Bodies.{TypeFits}
use Rattle.print_modules.proofs.Lines.{GlobalFits, named_printed, global_line_printed, lines_are}
use Rattle.print_modules.proofs.Walking.{globals_of, functions_of, global_names, function_names, fold_globals, fold_functions, GlobalsFit, FunctionFits}

module _ (known : Known) where
  abbrev type_items : List (NamedType Name TypeV) → List Item
  type_items types = map TypeItem types

  -- each with the bytes that it takes
  abbrev global_items : List (GlobalV Name TypeV ConstantV) → List Item
  global_items gs = map (λ g. GlobalItem g (size_of known g.of)) gs

  abbrev function_items : List (Function Name TypeV ConstantV) → List Item
  function_items fs = map FunctionItem fs

  abbrev Each : SoFar → List Item → List TokenV → Type 0
  Each s items = each_under (an_item known) with_item s items

  -- all of them, in canonical order
  abbrev pub ordered : ModuleV → List Item
  ordered m = type_items m.types ++ (global_items m.globals ++ function_items m.functions)

  -- ---- some items, and then others

  join : (s : SoFar) (xs ys : List Item) (ws us : List TokenV) → Each s xs ws → Each (fold with_item s xs) ys us → Each s (xs ++ ys) (ws ++ us)
  join s [] ys ws us e h = subst (λ (vs : List TokenV). Each s ys (vs ++ us)) (sym e) h
  join s (x ∷ xs) ys ws us b h = record {
    front = b.front;
    rest = b.rest ++ us;
    parts = ap (λ (vs : List TokenV). vs ++ us) b.parts ∙ append_assoc b.front b.rest us;
    first_spells = b.first_spells;
    rest_spells = join (with_item s x) xs ys b.rest us b.rest_spells h;
  }

  printed_join : (s : SoFar) (xs ys : List Item) (ps qs : List Piece) → PrintedLines (Each s xs) ps → PrintedLines (Each (fold with_item s xs) ys) qs → PrintedLines (Each s (xs ++ ys)) (ps ++ qs)
  printed_join s xs ys ps qs a b = as_spelled (λ ws h. subst (Each s (xs ++ ys)) (sym h.parts) (join s xs ys h.front h.rest h.first_spells h.rest_spells)) (in_turn ps qs a b)

  -- ---- what they leave

  types_values : (s : SoFar) (types : List (NamedType Name TypeV)) → (fold with_item s (type_items types)).values ≡ s.values
  types_values s [] = refl
  types_values s (t ∷ types) = types_values (with_item s (TypeItem t)) types

  types_size : (s : SoFar) (types : List (NamedType Name TypeV)) → (fold with_item s (type_items types)).size ≡ s.size
  types_size s [] = refl
  types_size s (t ∷ types) = types_size (with_item s (TypeItem t)) types

  globals_values : (s : SoFar) (gs : List (GlobalV Name TypeV ConstantV)) → (fold with_item s (global_items gs)).values ≡ fold with_name s.values (global_names gs)
  globals_values s [] = refl
  globals_values s (g ∷ gs) = globals_values (with_item s (GlobalItem g (size_of known g.of))) gs

  -- ---- each kind

  module _ (names_back : NamesReadBack) (types_stand : TypesStand) (constants_stand : ConstantsStand) where
    types_printed : (s : SoFar) (types : List (NamedType Name TypeV)) → New s.types (type_names types) → All (TypeFits known) types → PrintedLines (Each s (type_items types)) (joined (map named_pieces types))
    types_printed s [] new fits = nothing_printed {spells = Each s []} refl
    types_printed s (t ∷ types) new fits =
        in_turn (named_pieces t) (joined (map named_pieces types)) (named_printed names_back types_stand known s.types t new.0 (All-head (TypeFits known) t types fits))
        (types_printed (with_item s (TypeItem t)) types new.1 (All-tail (TypeFits known) t types fits))

    global_item_printed : (s : SoFar) (g : GlobalV Name TypeV ConstantV) → name_among g.name s.values ≡ false → GlobalFits known s.size g → PrintedLines (an_item known s (GlobalItem g (size_of known g.of))) (global_pieces g)
    global_item_printed s g new fits = as_spelled (λ ws h. (h, refl)) (global_line_printed names_back types_stand constants_stand known s.values s.size g new fits)

    globals_printed : (s : SoFar) (gs : List (GlobalV Name TypeV ConstantV)) → New s.values (global_names gs) → GlobalsFit known s.size gs → PrintedLines (Each s (global_items gs)) (joined (map global_pieces gs))
    globals_printed s [] new fits = nothing_printed {spells = Each s []} refl
    globals_printed s (g ∷ gs) new fits =
        in_turn (global_pieces g) (joined (map global_pieces gs)) (global_item_printed s g new.0 fits.0)
        (globals_printed (with_item s (GlobalItem g (size_of known g.of))) gs new.1 fits.1)

    functions_printed : (s : SoFar) (fs : List (Function Name TypeV ConstantV)) → New s.values (function_names fs) → All (FunctionFits known) fs → PrintedLines (Each s (function_items fs)) (joined (map function_pieces fs))
    functions_printed s [] new fits = nothing_printed {spells = Each s []} refl
    functions_printed s (f ∷ fs) new fits =
        in_turn (function_pieces f) (joined (map function_pieces fs)) (All-head (FunctionFits known) f fs fits s.values new.0)
        (functions_printed (with_item s (FunctionItem f)) fs new.1 (All-tail (FunctionFits known) f fs fits))

    pub items_printed : (m : ModuleV) → New [] (type_names m.types) → All (TypeFits known) m.types → New [] (global_names m.globals) → GlobalsFit known 0 m.globals
        → New (fold with_name [] (global_names m.globals)) (function_names m.functions) → All (FunctionFits known) m.functions
        → PrintedLines (some_items known (ordered m)) (items_pieces m.types m.globals m.functions)
    items_printed m new_types types new_globals globals new_functions functions =
        let s1 = fold with_item nothing_so_far (type_items m.types) in
        let s2 = fold with_item s1 (global_items m.globals) in
        let v1 : s1.values ≡ [] = types_values nothing_so_far m.types in
        let n1 : s1.size ≡ 0 = types_size nothing_so_far m.types in
        let v2 : s2.values ≡ fold with_name [] (global_names m.globals) = globals_values s1 m.globals ∙ ap (λ (v : List Name). fold with_name v (global_names m.globals)) v1 in
        as_pieces (items_pieces m.types m.globals m.functions) (lines_are m.types m.globals m.functions)
        (printed_join nothing_so_far (type_items m.types) (global_items m.globals ++ function_items m.functions) (joined (map named_pieces m.types)) (joined (map global_pieces m.globals) ++ joined (map function_pieces m.functions))
        (types_printed nothing_so_far m.types new_types types)
        (printed_join s1 (global_items m.globals) (function_items m.functions) (joined (map global_pieces m.globals)) (joined (map function_pieces m.functions))
        (globals_printed s1 m.globals (subst (λ (v : List Name). New v (global_names m.globals)) (sym v1) new_globals) (subst (λ (n : ℕ). GlobalsFit known n m.globals) (sym n1) globals))
        (functions_printed s2 m.functions (subst (λ (v : List Name). New v (function_names m.functions)) (sym v2) new_functions) functions)))

  -- ---- the module that they make

  types_globals : (types : List (NamedType Name TypeV)) (others : List Item) → globals_of (type_items types ++ others) ≡ globals_of others
  types_globals [] others = refl
  types_globals (t ∷ types) others = types_globals types others

  types_functions : (types : List (NamedType Name TypeV)) (others : List Item) → functions_of (type_items types ++ others) ≡ functions_of others
  types_functions [] others = refl
  types_functions (t ∷ types) others = types_functions types others

  globals_globals : (gs : List (GlobalV Name TypeV ConstantV)) (others : List Item) → globals_of (global_items gs ++ others) ≡ gs ++ globals_of others
  globals_globals [] others = refl
  globals_globals (g ∷ gs) others = ap (λ (xs : List (GlobalV Name TypeV ConstantV)). g ∷ xs) (globals_globals gs others)

  globals_functions : (gs : List (GlobalV Name TypeV ConstantV)) (others : List Item) → functions_of (global_items gs ++ others) ≡ functions_of others
  globals_functions [] others = refl
  globals_functions (g ∷ gs) others = globals_functions gs others

  functions_globals : (fs : List (Function Name TypeV ConstantV)) → globals_of (function_items fs) ≡ []
  functions_globals [] = refl
  functions_globals (f ∷ fs) = functions_globals fs

  functions_functions : (fs : List (Function Name TypeV ConstantV)) → functions_of (function_items fs) ≡ fs
  functions_functions [] = refl
  functions_functions (f ∷ fs) = ap (λ (xs : List (Function Name TypeV ConstantV)). f ∷ xs) (functions_functions fs)

  order_globals : (m : ModuleV) → (fold with_item nothing_so_far (ordered m)).module_so_far.globals ≡ m.globals
  order_globals m =
      fold_globals nothing_so_far (ordered m)
      ∙ (types_globals m.types (global_items m.globals ++ function_items m.functions)
      ∙ (globals_globals m.globals (function_items m.functions) ∙ (ap (λ (xs : List (GlobalV Name TypeV ConstantV)). m.globals ++ xs) (functions_globals m.functions) ∙ append-nil m.globals)))

  order_functions : (m : ModuleV) → (fold with_item nothing_so_far (ordered m)).module_so_far.functions ≡ m.functions
  order_functions m =
      fold_functions nothing_so_far (ordered m)
      ∙ (types_functions m.types (global_items m.globals ++ function_items m.functions) ∙ (globals_functions m.globals (function_items m.functions) ∙ functions_functions m.functions))

  pub module_ordered : (m : ModuleV) → module_of m.types (ordered m) ≡ m
  module_ordered m = λ i. record { types = m.types; globals = order_globals m i; functions = order_functions m i }
