-- Printed functions are whole lines, which stand apart.
use Rattle.std.proofs.Common.{◌≡◌, ℕ, Bool, true, false, List, [], ◌∷◌, ◌++◌, Option, Some, None, refl, sym, ap, subst, ◌∙◌, append_assoc}
use Rattle.std.specs.Prelude.{not, map, codes, if◌then◌else◌}
use Rattle.std.specs.List.{list_all}
use Rattle.std.proofs.lemmas.Bool.{and_from}
use Rattle.std.proofs.lemmas.List.Folds.{list_all-append}
use Rattle.pv_base.specs.declared.name.Name.{Name}
use Rattle.ir_tree.specs.declared.instruction.Instruction.{Instruction}
use Rattle.ir_tree.specs.declared.items.Param.{Param}
use Rattle.ir_tree.specs.declared.items.Block.{Block}
use Rattle.ir_tree.specs.declared.items.Function.{Function}
use Rattle.ir_tree.specs.Trees.{TypeV, ConstantV}
use Rattle.ir_printer.specs.Pieces.{Piece, Blank, LineEnd, Word, Mark, Global, joined, led, separated}
use Rattle.ir_printer.specs.Operands.{type_pieces}
use Rattle.ir_printer.specs.Items.{param_name, param_pieces, variadic_param, params_pieces, head_pieces, instruction_line, block_pieces, declared_pieces, defined_pieces, function_pieces}
use Rattle.print_tokens.specs.Standing.{is_line_end, is_type_word, begins_end, apart, Inline}
use Rattle.print_values.specs.Laws.{TypesStand}
use Rattle.print_instrs.specs.Laws.{InstructionsStand}
use Rattle.print_functions.specs.Lines.{AreLines}
use Rattle.print_functions.specs.Laws.{FunctionsStand}
use Rattle.print_functions.proofs.Heads.{gathered}

-- ---- parts of a line

-- pieces that begin with what ends a token, or are none
abbrev Begins : List Piece → Type 0
Begins ps = (qs : List Piece) → begins_end qs ≡ true → begins_end (ps ++ qs) ≡ true

all_both : (p : Piece → Bool) (ps qs : List Piece) → list_all p ps ≡ true → list_all p qs ≡ true → list_all p (ps ++ qs) ≡ true
all_both p ps qs h k = list_all-append p ps qs ∙ and_from (list_all p ps) (list_all p qs) h k

-- some pieces, and then others that begin with what ends a token
inline_both : (ps qs : List Piece) → Inline ps → Begins qs → Inline qs → Inline (ps ++ qs)
inline_both ps qs s begins t = record {
  one_line = all_both (λ p. not (is_line_end p)) ps qs s.one_line t.one_line;
  untyped = all_both (λ p. not (is_type_word p)) ps qs s.untyped t.untyped;
  stands = λ rest b a. ap apart (append_assoc ps qs rest) ∙ s.stands (qs ++ rest) (begins rest b) (t.stands rest b a);
}

no_pieces : Inline []
no_pieces = record { one_line = refl; untyped = refl; stands = λ qs b a. a }

-- ---- heads

param_name_stands : (o : Option Name) → Inline (param_name o)
param_name_stands None = no_pieces
param_name_stands (Some name) = record { one_line = refl; untyped = refl; stands = λ qs b a. rw (b, a) refl }

param_name_begins : (o : Option Name) → Begins (param_name o)
param_name_begins None qs b = b
param_name_begins (Some name) qs b = refl

led_begins : (all : List (List Piece)) → Begins (led all)
led_begins [] qs b = b
led_begins (ps ∷ all) qs b = refl

-- each of them stands inside a line
abbrev EachStands : List (List Piece) → Type 0
EachStands [] = Unit {0}
EachStands (ps ∷ all) = Inline ps × EachStands all

behind_comma : (ps : List Piece) → Inline ps → Inline (Mark 44 ∷ Blank ∷ ps)
behind_comma ps s = record { one_line = s.one_line; untyped = s.untyped; stands = s.stands }

led_stands : (all : List (List Piece)) → EachStands all → Inline (led all)
led_stands [] each = no_pieces
led_stands (ps ∷ all) each = behind_comma (ps ++ led all) (inline_both ps (led all) each.0 (led_begins all) (led_stands all each.1))

separated_stands : (all : List (List Piece)) → EachStands all → Inline (separated all)
separated_stands [] each = no_pieces
separated_stands (ps ∷ all) each = inline_both ps (led all) each.0 (led_begins all) (led_stands all each.1)

-- `@name(` and what stands behind it, with the closing parenthesis
named_stands : (name : Name) (ps : List Piece) → Inline ps → Inline (Blank ∷ Global name ∷ Mark 40 ∷ ps)
named_stands name ps s = record { one_line = s.one_line; untyped = s.untyped; stands = s.stands }

closing : Inline (Mark 41 ∷ [])
closing = record { one_line = refl; untyped = refl; stands = λ qs b a. a }

opening : Inline (Blank ∷ Mark 123 ∷ [])
opening = record { one_line = refl; untyped = refl; stands = λ qs b a. a }

-- ---- lines

no_lines : AreLines []
no_lines = record { untyped = refl; stand = λ qs a. a }

lines_both : (ps qs : List Piece) → AreLines ps → AreLines qs → AreLines (ps ++ qs)
lines_both ps qs s t = record {
  untyped = all_both (λ p. not (is_type_word p)) ps qs s.untyped t.untyped;
  stand = λ rest a. ap apart (append_assoc ps qs rest) ∙ s.stand (qs ++ rest) (t.stand rest a);
}

-- what stands inside a line, and its end
whole_line : (ps : List Piece) → Inline ps → AreLines (ps ++ LineEnd ∷ [])
whole_line ps s = record {
  untyped = all_both (λ p. not (is_type_word p)) ps (LineEnd ∷ []) s.untyped refl;
  stand = λ rest a. ap apart (append_assoc ps (LineEnd ∷ []) rest) ∙ s.stands (LineEnd ∷ rest) refl a;
}

joined_lines : {A : Type 0} (pieces : A → List Piece) → ((a : A) → AreLines (pieces a)) → (all : List A) → AreLines (joined (map pieces all))
joined_lines pieces each [] = no_lines
joined_lines pieces each (a ∷ all) = lines_both (pieces a) (joined (map pieces all)) (each a) (joined_lines pieces each all)

one_of : (b : Bool) (ps qs : List Piece) → AreLines ps → AreLines qs → AreLines (if b then ps else qs)
one_of true ps qs s t = s
one_of false ps qs s t = t

word_before : (text : List ℕ) (ps : List Piece) → is_type_word (Word text) ≡ false → Inline ps → Inline (Word text ∷ Blank ∷ ps)
word_before text ps other s = record { one_line = s.one_line; untyped = rw other s.untyped; stands = s.stands }

module _ (types_stand : TypesStand) where
  params_stand : (params : List (Param Name TypeV)) (variadic : Bool) → EachStands (map param_pieces params ++ variadic_param variadic)
  params_stand [] false = tt
  params_stand [] true = (record { one_line = refl; untyped = refl; stands = λ qs b a. rw (b, a) refl }, tt)
  params_stand (p ∷ params) variadic = (inline_both (type_pieces p.of) (param_name p.name) (types_stand p.of) (param_name_begins p.name) (param_name_stands p.name), params_stand params variadic)

  head_stands : (f : Function Name TypeV ConstantV) → Inline (head_pieces f)
  head_stands f =
      let params = params_pieces f.params f.variadic in
      let behind = inline_both params (Mark 41 ∷ []) (separated_stands _ (params_stand f.params f.variadic)) (λ qs b. refl) closing in
      subst Inline (sym (gathered (type_pieces f.result) (Blank ∷ []) (Global f.name ∷ []) (Mark 40 ∷ []) params (Mark 41 ∷ [])))
      (inline_both (type_pieces f.result) (Blank ∷ Global f.name ∷ Mark 40 ∷ (params ++ Mark 41 ∷ [])) (types_stand f.result) (λ qs b. refl) (named_stands f.name (params ++ Mark 41 ∷ []) behind))

  module _ (instructions_stand : InstructionsStand) where
    instruction_lines : (i : Instruction Name TypeV ConstantV) → AreLines (instruction_line i)
    instruction_lines i = let s = instructions_stand i in whole_line (Blank ∷ Blank ∷ _) (record { one_line = s.one_line; untyped = s.untyped; stands = s.stands })

    block_lines : (b : Block Name TypeV ConstantV) → AreLines (block_pieces b)
    block_lines b = let s = joined_lines instruction_line instruction_lines b.instructions in record { untyped = s.untyped; stand = s.stand }

    declared_stands : (f : Function Name TypeV ConstantV) → AreLines (declared_pieces f)
    declared_stands f = whole_line (Word (codes "declare") ∷ Blank ∷ head_pieces f) (word_before (codes "declare") (head_pieces f) refl (head_stands f))

    -- the line of a definition's head
    first_line : (f : Function Name TypeV ConstantV) → AreLines ((Word (codes "define") ∷ Blank ∷ head_pieces f) ++ (Blank ∷ Mark 123 ∷ LineEnd ∷ []))
    first_line f =
        let named = Word (codes "define") ∷ Blank ∷ head_pieces f in
        let all = inline_both named (Blank ∷ Mark 123 ∷ []) (word_before (codes "define") (head_pieces f) refl (head_stands f)) (λ qs b. refl) opening in
        subst AreLines (append_assoc named (Blank ∷ Mark 123 ∷ []) (LineEnd ∷ [])) (whole_line (named ++ Blank ∷ Mark 123 ∷ []) all)

    defined_stands : (f : Function Name TypeV ConstantV) → AreLines (defined_pieces f)
    defined_stands f =
        lines_both ((Word (codes "define") ∷ Blank ∷ head_pieces f) ++ (Blank ∷ Mark 123 ∷ LineEnd ∷ []) ++ joined (map block_pieces f.blocks)) (Mark 125 ∷ LineEnd ∷ [])
        (lines_both ((Word (codes "define") ∷ Blank ∷ head_pieces f) ++ (Blank ∷ Mark 123 ∷ LineEnd ∷ [])) (joined (map block_pieces f.blocks)) (first_line f) (joined_lines block_pieces block_lines f.blocks))
        (record { untyped = refl; stand = λ qs a. a })

    pub functions_stand : FunctionsStand
    unfolding function_pieces
    functions_stand f = one_of f.declared (declared_pieces f) (defined_pieces f) (declared_stands f) (defined_stands f)
