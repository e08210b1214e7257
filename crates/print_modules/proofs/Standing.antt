-- The lines of a module stand apart, and only those of named types have the word `type`.
use Rattle.std.proofs.Common.{◌≡◌, Bool, true, false, not, List, [], ◌∷◌, ◌++◌, map, refl, sym, subst, append_assoc}
use Rattle.std.proofs.lemmas.Bool.{and_parts, and_from}
use Rattle.std.proofs.lemmas.List.{append-nil}
use Rattle.pv_base.specs.declared.name.Name.{Name}
use Rattle.ir_tree.specs.declared.items.NamedType.{NamedType}
use Rattle.ir_tree.specs.declared.items.Global.{Global as GlobalV}
use Rattle.ir_tree.specs.declared.items.Function.{Function}
use Rattle.ir_tree.specs.Trees.{TypeV, ConstantV}
use Rattle.ir_printer.specs.Pieces.{Piece, Blank, LineEnd, Word, Mark, Global, joined}
use Rattle.ir_printer.specs.Operands.{type_pieces, constant_pieces}
use Rattle.ir_printer.specs.Items.{named_pieces, global_word, global_pieces, function_pieces, items_pieces}
use Rattle.print_tokens.specs.Standing.{is_type_word, apart, Inline}
use Rattle.print_values.specs.Laws.{TypesStand, ConstantsStand}
use Rattle.print_functions.specs.Laws.{FunctionsStand}
use Rattle.print_modules.proofs.Defining.{untyped}
use Rattle.print_modules.proofs.Lines.{global_line, line_is, lines_are}

untyped_both : (ps qs : List Piece) → untyped ps ≡ true → untyped qs ≡ true → untyped (ps ++ qs) ≡ true
untyped_both [] qs a b = b
untyped_both (p ∷ ps) qs a b =
    let u = and_parts (not (is_type_word p)) (untyped ps) a in
    and_from (not (is_type_word p)) (untyped (ps ++ qs)) u.0 (untyped_both ps qs u.1 b)

-- ---- the end of a line, and what follows

line_stands : (ps : List Piece) → Inline ps → (qs : List Piece) → apart qs ≡ true → apart ((ps ++ LineEnd ∷ []) ++ qs) ≡ true
line_stands ps i qs h = subst (λ (rs : List Piece). apart rs ≡ true) (sym (append_assoc ps (LineEnd ∷ []) qs)) (i.stands (LineEnd ∷ qs) refl h)

named_stands : TypesStand → (n : NamedType Name TypeV) → (qs : List Piece) → apart qs ≡ true → apart (named_pieces n ++ qs) ≡ true
named_stands types_stand n qs h = line_stands (type_pieces n.of) (types_stand n.of) qs h

global_untyped : TypesStand → ConstantsStand → (g : GlobalV Name TypeV ConstantV) → untyped (global_pieces g) ≡ true
global_untyped types_stand constants_stand g = subst (λ (ps : List Piece). untyped ps ≡ true) (line_is g) (by_word g.constant)
  where
    behind : untyped (type_pieces g.of ++ Blank ∷ (constant_pieces g.init ++ LineEnd ∷ [])) ≡ true
    behind = untyped_both (type_pieces g.of) (Blank ∷ (constant_pieces g.init ++ LineEnd ∷ [])) (types_stand g.of).untyped (untyped_both (constant_pieces g.init) (LineEnd ∷ []) (constants_stand g.init).untyped refl)

    by_word : (b : Bool) → untyped (Global g.name ∷ Blank ∷ Mark 61 ∷ Blank ∷ Word (global_word b) ∷ Blank ∷ (type_pieces g.of ++ Blank ∷ (constant_pieces g.init ++ LineEnd ∷ []))) ≡ true
    by_word true = behind
    by_word false = behind

global_stands : TypesStand → ConstantsStand → (g : GlobalV Name TypeV ConstantV) → (qs : List Piece) → apart qs ≡ true → apart (global_pieces g ++ qs) ≡ true
global_stands types_stand constants_stand g qs h =
    let last : apart ((constant_pieces g.init ++ LineEnd ∷ []) ++ qs) ≡ true = line_stands (constant_pieces g.init) (constants_stand g.init) qs h in
    let line : apart (global_line g ++ qs) ≡ true =
    subst (λ (rs : List Piece). apart rs ≡ true) (sym (append_assoc (type_pieces g.of) (Blank ∷ (constant_pieces g.init ++ LineEnd ∷ [])) qs))
    ((types_stand g.of).stands (Blank ∷ ((constant_pieces g.init ++ LineEnd ∷ []) ++ qs)) refl last) in
    subst (λ (ps : List Piece). apart (ps ++ qs) ≡ true) (line_is g) line

-- ---- many lines

module _ {A : Type 0} (pieces : A → List Piece) where
  all_stand : ((a : A) (qs : List Piece) → apart qs ≡ true → apart (pieces a ++ qs) ≡ true) → (all : List A) (qs : List Piece) → apart qs ≡ true → apart (joined (map pieces all) ++ qs) ≡ true
  all_stand stand [] qs h = h
  all_stand stand (a ∷ all) qs h =
      subst (λ (rs : List Piece). apart rs ≡ true) (sym (append_assoc (pieces a) (joined (map pieces all)) qs)) (stand a (joined (map pieces all) ++ qs) (all_stand stand all qs h))

  all_untyped : ((a : A) → untyped (pieces a) ≡ true) → (all : List A) → untyped (joined (map pieces all)) ≡ true
  all_untyped no_type [] = refl
  all_untyped no_type (a ∷ all) = untyped_both (pieces a) (joined (map pieces all)) (no_type a) (all_untyped no_type all)

-- ---- all lines

module _ (types_stand : TypesStand) (constants_stand : ConstantsStand) (functions_stand : FunctionsStand) (types : List (NamedType Name TypeV)) (globals : List (GlobalV Name TypeV ConstantV)) (functions : List (Function Name TypeV ConstantV)) where
  functions_apart : apart (joined (map function_pieces functions)) ≡ true
  functions_apart = subst (λ (rs : List Piece). apart rs ≡ true) (append-nil (joined (map function_pieces functions))) (all_stand function_pieces (λ f qs h. (functions_stand f).stand qs h) functions [] refl)

  pub items_apart : apart (items_pieces types globals functions) ≡ true
  items_apart =
      subst (λ (ps : List Piece). apart ps ≡ true) (lines_are types globals functions)
      (all_stand named_pieces (named_stands types_stand) types (joined (map global_pieces globals) ++ joined (map function_pieces functions))
      (all_stand global_pieces (global_stands types_stand constants_stand) globals (joined (map function_pieces functions)) functions_apart))

  -- behind the named types
  pub others_untyped : untyped (joined (map global_pieces globals) ++ joined (map function_pieces functions)) ≡ true
  others_untyped =
      untyped_both (joined (map global_pieces globals)) (joined (map function_pieces functions)) (all_untyped global_pieces (global_untyped types_stand constants_stand) globals)
      (all_untyped function_pieces (λ f. (functions_stand f).untyped) functions)
