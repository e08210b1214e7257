-- The printed lines of named types and globals.
use Rattle.std.proofs.Common.{◌≡◌, ℕ, ◌+◌, ◌≤◌, Bool, true, false, cond, ◌&&◌, nat_le, List, [], ◌∷◌, ◌++◌, Ok, refl, sym, ap, ◌∙◌, leb-true, arith, append_assoc, map}
use Rattle.std.specs.Prelude.{codes, is_some}
use Rattle.std.proofs.lemmas.Bool.{and_parts}
use Rattle.pv_base.specs.declared.name.Name.{Name}
use Rattle.ir_lex.specs.declared.token.TokenKind.TheVariants as kind
use Rattle.ir_lex.specs.Classes.{is_letter, is_digit, is_word_start, is_word_byte}
use Rattle.ir_lex.specs.Cut.{IsRun}
use Rattle.ir_tree.specs.declared.items.NamedType.{NamedType}
use Rattle.ir_tree.specs.declared.items.Global.{Global as GlobalV}
use Rattle.ir_tree.specs.declared.items.Function.{Function}
use Rattle.ir_tree.specs.Table.{name_among}
use Rattle.ir_tree.specs.Trees.{TypeV, IntV, PtrV, VoidV, ArrayV, StructV, NamedV, ConstantV}
use Rattle.ir_text.specs.Constants.{width_of}
use Rattle.ir_text.specs.MemoryTypes.{has_layout}
use Rattle.ir_text.specs.Operands.{a_constant}
use Rattle.ir_text.specs.Passed.{skips, some_words}
use Rattle.ir_text.specs.Spelled.{Spelling, one_token}
use Rattle.ir_text.specs.Tails.{some_tails}
use Rattle.ir_text.specs.Types.{Known}
use Rattle.ir_text.specs.TypeSpelled.{a_mark, a_word, a_type}
use Rattle.ir_printer.specs.Pieces.{Piece, Blank, LineEnd, Word, Mark, Global, Local, joined}
use Rattle.ir_printer.specs.Operands.{type_pieces, constant_pieces}
use Rattle.ir_printer.specs.Items.{named_pieces, global_word, global_pieces, function_pieces, items_pieces}
use Rattle.ir_instr.specs.Words.{meaning_of, worded}
use Rattle.ir_grammar.specs.Headers.{unique, new_global, new_local}
use Rattle.ir_grammar.specs.Items.{global_words, before_global, size_of, fits_globals}
use Rattle.module_laws.specs.ItemsSpelled.{a_named_body, a_named_type, a_global_type, a_global}
use Rattle.print_tokens.specs.Standing.{NameFits, is_plain_mark, PieceFits}
use Rattle.print_values.specs.Laws.{NamesReadBack, TypesStand, ConstantsStand}
use Rattle.print_values.specs.Printed.{Printed}
use Rattle.print_values.proofs.Composing.{printed_one, printed_as}
use Rattle.print_functions.specs.Lines.{PrintedLines}
use Rattle.print_functions.proofs.Composing.{inside, behind_blank, behind_end, before_end, as_pieces, nothing_printed, in_turn}
use Rattle.print_modules.proofs.Bodies.{TypeFits}
use Rattle.print_modules.proofs.KnownNames.{type_same}

-- ---- marks, words and names

mark_run : PieceFits (Mark 61)
unfolding is_plain_mark
mark_run = refl

equals_printed : PrintedLines (a_mark 61) (Mark 61 ∷ [])
equals_printed = inside refl (printed_one (Mark 61) kind.Punct refl mark_run (λ line. refl))

type_run : IsRun is_word_start is_word_byte (codes "type")
unfolding is_word_start is_word_byte is_letter is_digit
type_run = record { head = 116; tail = codes "ype"; is = refl; begins = refl; goes_on = (refl, (refl, (refl, tt))) }

type_printed : PrintedLines (a_word (codes "type")) (Word (codes "type") ∷ [])
type_printed = inside refl (printed_one (Word (codes "type")) kind.Word refl type_run (λ line. refl))

kind_run : (constant : Bool) → IsRun is_word_start is_word_byte (global_word constant)
unfolding is_word_start is_word_byte is_letter is_digit
kind_run true = record { head = 99; tail = codes "onstant"; is = refl; begins = refl; goes_on = (refl, (refl, (refl, (refl, (refl, (refl, (refl, tt))))))) }
kind_run false = record { head = 103; tail = codes "lobal"; is = refl; begins = refl; goes_on = (refl, (refl, (refl, (refl, (refl, tt))))) }

kind_is : (constant : Bool) (line : ℕ) → worded global_words (record { kind = kind.Word; text = global_word constant; line = line }) ≡ Ok constant
unfolding meaning_of
kind_is true line = refl
kind_is false line = refl

kind_printed : (constant : Bool) → PrintedLines (one_token (worded global_words) constant) (Word (global_word constant) ∷ [])
kind_printed constant = inside refl (printed_one (Word (global_word constant)) kind.Word refl (kind_run constant) (λ line. kind_is constant line))

unique_new : (others : List Name) (name : Name) → name_among name others ≡ false → unique others name ≡ Ok name
unique_new others name e = rw e refl

module _ (names_back : NamesReadBack) where
  local_printed : (others : List Name) (name : Name) → NameFits name → name_among name others ≡ false → PrintedLines (one_token (new_local others) name) (Local name ∷ [])
  local_printed others name fits new =
      inside refl (printed_one (Local name) kind.LocalName refl fits (λ line. ap (unique others) ((names_back name fits).local line) ∙ unique_new others name new))

  global_printed : (others : List Name) (name : Name) → NameFits name → name_among name others ≡ false → PrintedLines (one_token (new_global others) name) (Global name ∷ [])
  global_printed others name fits new =
      inside refl (printed_one (Global name) kind.GlobalName refl fits (λ line. ap (unique others) ((names_back name fits).global line) ∙ unique_new others name new))

none_passed : {A : Type 0} (item : Spelling A) → skips item tt []
none_passed item = record { value = []; front = []; rest = []; parts = refl; first_spells = refl; rest_spells = (refl, refl) }

-- ---- named types

pub fits_as : (names known : Known) (n : NamedType Name TypeV) → ((name : Name) → is_some (names name) ≡ is_some (known name)) → TypeFits names n → TypeFits known n
fits_as names known n same fits = record {
  name = fits.name;
  printed = printed_as (type_pieces n.of) (λ ws s. type_same names known same n.of ws s) fits.printed;
  opens = λ ws s. fits.opens ws (type_same known names (λ name. sym (same name)) n.of ws s);
}

body_printed : (known : Known) (n : NamedType Name TypeV) → TypeFits known n → Printed (a_named_body known n.of) (type_pieces n.of)
body_printed known n fits = record { spelled = λ line. let s = fits.printed.spelled line in (s, fits.opens _ s); fits = fits.printed.fits }

pub named_printed : NamesReadBack → TypesStand → (known : Known) (others : List Name) (n : NamedType Name TypeV) → name_among n.name others ≡ false → TypeFits known n → PrintedLines (a_named_type known others n) (named_pieces n)
named_printed names_back types_stand known others n new fits =
    let last : PrintedLines (a_named_body known n.of) (type_pieces n.of ++ LineEnd ∷ []) = before_end (inside (types_stand n.of).one_line (body_printed known n fits)) in
    let behind_word = in_turn (Word (codes "type") ∷ []) (Blank ∷ (type_pieces n.of ++ LineEnd ∷ [])) type_printed (behind_blank last) in
    let behind_mark = in_turn (Mark 61 ∷ []) (Blank ∷ Word (codes "type") ∷ Blank ∷ (type_pieces n.of ++ LineEnd ∷ [])) equals_printed (behind_blank behind_word) in
    in_turn (Local n.name ∷ []) (Blank ∷ Mark 61 ∷ Blank ∷ Word (codes "type") ∷ Blank ∷ (type_pieces n.of ++ LineEnd ∷ [])) (local_printed names_back others n.name fits.name new) (behind_blank behind_mark)

-- ---- globals

-- a global that is printed behind so many bytes of globals
pub record GlobalFits (known : Known) (size : ℕ) (g : GlobalV Name TypeV ConstantV) : Type 0 where
  pub name : NameFits g.name
  pub type : Printed (a_type known g.of) (type_pieces g.of)
  pub layout : has_layout known g.of ≡ true
  pub room : fits_globals (size + size_of known g.of) ≡ true
  pub init : Printed (a_constant known (width_of g.of) g.init) (constant_pieces g.init)

pub width_within : (of : TypeV) → (1 ≤ width_of of) × (width_of of ≤ 64)
width_within (IntV w) = by_test (nat_le 1 w && nat_le w 64) refl
  where
    by_test : (b : Bool) → (nat_le 1 w && nat_le w 64) ≡ b → (1 ≤ cond b w 64) × (cond b w 64 ≤ 64)
    by_test true e = let p = and_parts (nat_le 1 w) (nat_le w 64) e in (leb-true 1 w p.0, leb-true w 64 p.1)
    by_test false e = (omega arith, omega arith)
width_within PtrV = (omega arith, omega arith)
width_within VoidV = (omega arith, omega arith)
width_within (ArrayV n of) = (omega arith, omega arith)
width_within (StructV packed fields) = (omega arith, omega arith)
width_within (NamedV name) = (omega arith, omega arith)

room_printed : (known : Known) (size : ℕ) (g : GlobalV Name TypeV ConstantV) → GlobalFits known size g → Printed (a_global_type known size g.of) (type_pieces g.of)
room_printed known size g fits = record { spelled = λ line. ((fits.type.spelled line, fits.layout), fits.room); fits = fits.type.fits }

-- its pieces, each before all that stands behind it
abbrev pub global_line : GlobalV Name TypeV ConstantV → List Piece
global_line g = Global g.name ∷ Blank ∷ Mark 61 ∷ Blank ∷ Word (global_word g.constant) ∷ Blank ∷ (type_pieces g.of ++ Blank ∷ (constant_pieces g.init ++ LineEnd ∷ []))

pub line_is : (g : GlobalV Name TypeV ConstantV) → global_line g ≡ global_pieces g
line_is g =
    ap (λ (ps : List Piece). Global g.name ∷ Blank ∷ Mark 61 ∷ Blank ∷ Word (global_word g.constant) ∷ Blank ∷ ps)
    (sym (append_assoc (type_pieces g.of ++ Blank ∷ []) (constant_pieces g.init) (LineEnd ∷ []) ∙ append_assoc (type_pieces g.of) (Blank ∷ []) (constant_pieces g.init ++ LineEnd ∷ [])))

pub global_line_printed : NamesReadBack → TypesStand → ConstantsStand → (known : Known) (others : List Name) (size : ℕ) (g : GlobalV Name TypeV ConstantV) → name_among g.name others ≡ false → GlobalFits known size g
    → PrintedLines (a_global known others size g) (global_pieces g)
global_line_printed names_back types_stand constants_stand known others size g new fits =
    let tails : PrintedLines (some_tails tt) (LineEnd ∷ []) = behind_end (nothing_printed (none_passed _)) in
    let init = in_turn (constant_pieces g.init) (LineEnd ∷ []) (inside (constants_stand g.init).one_line fits.init) tails in
    let type = in_turn (type_pieces g.of) (Blank ∷ (constant_pieces g.init ++ LineEnd ∷ [])) (inside (types_stand g.of).one_line (room_printed known size g fits)) (behind_blank init) in
    let behind_type = Blank ∷ (type_pieces g.of ++ Blank ∷ (constant_pieces g.init ++ LineEnd ∷ [])) in
    let constant = in_turn (Word (global_word g.constant) ∷ []) behind_type (kind_printed g.constant) (behind_blank type) in
    let no_words : PrintedLines (some_words before_global tt) [] = nothing_printed (none_passed _) in
    let words = in_turn [] (Word (global_word g.constant) ∷ behind_type) no_words constant in
    let equals = in_turn (Mark 61 ∷ []) (Blank ∷ Word (global_word g.constant) ∷ behind_type) equals_printed (behind_blank words) in
    as_pieces (global_pieces g) (line_is g)
    (in_turn (Global g.name ∷ []) (Blank ∷ Mark 61 ∷ Blank ∷ Word (global_word g.constant) ∷ behind_type) (global_printed names_back others g.name fits.name new) (behind_blank equals))

-- ---- all lines

pub lines_are : (types : List (NamedType Name TypeV)) (globals : List (GlobalV Name TypeV ConstantV)) (functions : List (Function Name TypeV ConstantV))
    → joined (map named_pieces types) ++ (joined (map global_pieces globals) ++ joined (map function_pieces functions)) ≡ items_pieces types globals functions
lines_are types globals functions = sym (append_assoc (joined (map named_pieces types)) (joined (map global_pieces globals)) (joined (map function_pieces functions)))
