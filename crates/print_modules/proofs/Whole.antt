-- The canonical text of a module that some text spells, spells it too.
use Rattle.std.proofs.Common.{◌≡◌, ℕ, ◌<◌, ◌^◌, List, [], ◌++◌, length, Ok, refl, sym, ap, subst, ◌∙◌, arith}
use Rattle.std.specs.Prelude.{All, fold, map}
use Rattle.std.proofs.lemmas.List.Elements.{All-weaker}
use Rattle.pv_base.specs.declared.name.Name.{Name}
use Rattle.ir_tree.specs.declared.items.NamedType.{NamedType}
use Rattle.ir_tree.specs.declared.items.Global.{Global as GlobalV}
use Rattle.ir_tree.specs.declared.items.Function.{Function}
use Rattle.ir_tree.specs.Table.{with_name}
use Rattle.ir_tree.specs.Trees.{TypeV, ConstantV}
use Rattle.ir_tree.specs.Written.{ModuleV, shown_module}
use Rattle.ir_text.specs.Tokens.{TokenV}
use Rattle.ir_text.specs.Types.{Known}
use Rattle.ir_printer.specs.Pieces.{Piece, joined}
use Rattle.ir_printer.specs.Items.{global_pieces, function_pieces, items_pieces, module_text}
use Rattle.ir_grammar.specs.Modules.{Item, nothing_so_far}
use Rattle.ir_grammar.specs.NamedTypes.{definitions, bodies_read, bodies_in, types_in, known_in}
use Rattle.ir_grammar.specs.Texts.{read_tokens, read_of}
use Rattle.module_laws.specs.ItemsSpelled.{some_items, a_module}
use Rattle.module_laws.specs.TextLaws.{known_of, names_of, all_sound, SpellsModule, ReadIsSpelled, SpelledIsRead, OneModule}
use Rattle.print_tokens.specs.Laws.{ReadsAs, PiecesAreRead}
use Rattle.print_tokens.specs.Standing.{AreBytes}
use Rattle.print_tokens.specs.Tokens.{tokens_from}
use Rattle.print_values.specs.Laws.{NamesFit, NamesReadBack, TypesReadBack, ConstantsReadBack, TypesStand, ConstantsStand}
use Rattle.print_values.specs.Printed.{AreSound}
use Rattle.print_functions.specs.Laws.{DeclarationsReadBack, DefinitionsReadBack, FunctionsStand}
use Rattle.print_functions.specs.Lines.{PrintedLines}
use Rattle.print_modules.specs.Laws.{canonical, ReadsBack, SpellsNoOther, PrintsTheSame}
use Rattle.print_modules.proofs.Bodies.{TypeFits, bodies_fit, definitions_fit}
use Rattle.print_modules.proofs.Defining.{Defines, lines_define}
use Rattle.print_modules.proofs.Distinct.{type_names}
use Rattle.print_modules.proofs.Fresh.{New, fold_not}
use Rattle.print_modules.proofs.Knowing.{names_known, types_distinct, types_hold, bodies_sound, types_same, known_is}
use Rattle.print_modules.proofs.Lines.{fits_as, lines_are}
use Rattle.print_modules.proofs.Ordered.{ordered, items_printed, module_ordered}
use Rattle.print_modules.proofs.SoundTokens.{sound_tokens, few_tokens}
use Rattle.print_modules.proofs.Standing.{items_apart, others_untyped}
use Rattle.print_modules.proofs.Walking.{globals_of, functions_of, global_names, function_names, fold_globals, fold_functions, GlobalsFit, FunctionFits, Walked, walked}

-- the laws of what a module is made of
pub record Laws : Type 0 where
  pub pieces : PiecesAreRead
  pub names : NamesFit
  pub names_back : NamesReadBack
  pub types_back : TypesReadBack
  pub constants_back : ConstantsReadBack
  pub types_stand : TypesStand
  pub constants_stand : ConstantsStand
  pub functions_stand : FunctionsStand
  pub declarations_back : DeclarationsReadBack
  pub definitions_back : DefinitionsReadBack

module _ (laws : Laws) (text : List ℕ) (m : ModuleV) (bytes : AreBytes text) (short : length text < 2 ^ 32) (s : SpellsModule text m) where
  abbrev ts : List TokenV
  ts = read_tokens text

  abbrev known : Known
  known = known_of text

  abbrev items : List Item
  items = s.spelled.parts

  sound : AreSound ts
  sound = sound_tokens text bytes

  few : length ts < 2 ^ 62
  few = omega (arith, few_tokens text, short)

  seen : Walked known nothing_so_far items
  seen = walked laws.names laws.types_back laws.constants_back laws.declarations_back laws.definitions_back known nothing_so_far items ts sound few s.spelled.spelled

  -- ---- the parts of the module

  types_are : types_in ts ≡ m.types
  types_are = ap (λ (x : ModuleV). x.types) s.spelled.is

  globals_are : globals_of items ≡ m.globals
  globals_are = sym (fold_globals nothing_so_far items) ∙ ap (λ (x : ModuleV). x.globals) s.spelled.is

  functions_are : functions_of items ≡ m.functions
  functions_are = sym (fold_functions nothing_so_far items) ∙ ap (λ (x : ModuleV). x.functions) s.spelled.is

  read_bodies : bodies_read (names_of text) (definitions ts) ≡ all_sound
  unfolding bodies_in
  read_bodies = s.bodies

  types_fit : All (TypeFits (names_of text)) m.types
  types_fit =
      subst (All (TypeFits (names_of text))) types_are
      (types_hold (TypeFits (names_of text)) ts (bodies_fit laws.types_back (names_of text) (definitions ts) (definitions_fit laws.names ts sound) read_bodies))

  known_types_fit : All (TypeFits known) m.types
  known_types_fit = All-weaker (TypeFits (names_of text)) (TypeFits known) (λ n fits. fits_as (names_of text) known n (λ name. names_known ts name) fits) m.types types_fit

  new_types : New [] (type_names m.types)
  new_types = subst (λ (types : List (NamedType Name TypeV)). New [] (type_names types)) types_are (types_distinct ts)

  new_globals : New [] (global_names m.globals)
  new_globals = subst (λ (gs : List (GlobalV Name TypeV ConstantV)). New [] (global_names gs)) globals_are (seen.globals [] (λ x e. refl))

  globals_fit : GlobalsFit known 0 m.globals
  globals_fit = subst (λ (gs : List (GlobalV Name TypeV ConstantV)). GlobalsFit known 0 gs) globals_are seen.sizes

  new_functions : New (fold with_name [] (global_names m.globals)) (function_names m.functions)
  new_functions =
      subst (λ (gs : List (GlobalV Name TypeV ConstantV)). New (fold with_name [] (global_names gs)) (function_names m.functions)) globals_are
      (subst (λ (fs : List (Function Name TypeV ConstantV)). New (fold with_name [] (global_names (globals_of items))) (function_names fs)) functions_are
      (seen.functions (fold with_name [] (global_names (globals_of items))) (λ x a b. fold_not [] (global_names (globals_of items)) x a b)))

  functions_fit : All (FunctionFits known) m.functions
  functions_fit = subst (All (FunctionFits known)) functions_are seen.printed

  -- ---- the canonical text

  abbrev pieces : List Piece
  pieces = items_pieces m.types m.globals m.functions

  abbrev others : List Piece
  others = joined (map global_pieces m.globals) ++ joined (map function_pieces m.functions)

  lines : PrintedLines (some_items known (ordered known m)) pieces
  lines = items_printed known laws.names_back laws.types_stand laws.constants_stand m new_types known_types_fit new_globals globals_fit new_functions functions_fit

  reads : ReadsAs pieces
  reads = laws.pieces pieces lines.fits (items_apart laws.types_stand laws.constants_stand laws.functions_stand m.types m.globals m.functions)

  abbrev us : List TokenV
  us = tokens_from 1 pieces

  defines : Defines (names_of text) (definitions us) (types_in ts)
  defines =
      subst (λ (ns : List (NamedType Name TypeV)). Defines (names_of text) (definitions us) ns) (sym types_are)
      (subst (λ (ps : List Piece). Defines (names_of text) (definitions (tokens_from 1 ps)) m.types) (lines_are m.types m.globals m.functions)
      (lines_define laws.names_back laws.types_stand (names_of text) others (others_untyped laws.types_stand laws.constants_stand laws.functions_stand m.types m.globals m.functions) m.types 1 types_fit))

  module_spelled : a_module m.types known m us
  module_spelled = record { parts = ordered known m; is = module_ordered known m; spelled = lines.spelled 1 }

  as_read : a_module (types_in us) (known_in us) m us
  as_read =
      subst (λ (k : Known). a_module (types_in us) k m us) (sym (known_is ts us s.bodies defines))
      (subst (λ (types : List (NamedType Name TypeV)). a_module types known m us) (sym (types_same ts us s.bodies defines ∙ types_are)) module_spelled)

  pub canonical_spells : SpellsModule (canonical m) m
  canonical_spells = record {
    lexical = reads.lexical;
    bodies = ap bodies_in reads.tokens ∙ bodies_sound ts us s.bodies defines;
    spelled = subst (λ (vs : List TokenV). a_module (types_in vs) (known_in vs) m vs) (sym reads.tokens) as_read;
  }

-- ---- what is read of it

module _ (laws : Laws) (is_spelled : ReadIsSpelled) (is_read : SpelledIsRead) (one : OneModule) where
  spells_back : (text : List ℕ) (m : ModuleV) → AreBytes text → length text < 2 ^ 32 → read_of text ≡ Ok m → SpellsModule (canonical m) m
  spells_back text m bytes short e = canonical_spells laws text m bytes short (is_spelled text m e)

  pub reads_back : ReadsBack
  reads_back text m bytes short e = is_read (canonical m) m (spells_back text m bytes short e)

  pub spells_no_other : SpellsNoOther
  spells_no_other text m other bytes short e s = one (canonical m) other m s (spells_back text m bytes short e)

  pub prints_the_same : PrintsTheSame
  prints_the_same text printed read bytes short e again =
      let back : read_of (module_text printed) ≡ Ok (shown_module printed) = reads_back text (shown_module printed) bytes short e in
      let same : shown_module read ≡ shown_module printed = (let both = sym again ∙ back in cc) in
      ap canonical same
