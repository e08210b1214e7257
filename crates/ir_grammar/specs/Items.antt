-- The items of a module's text.
use Rattle.std.specs.Prelude.{ℕ, ◌+◌, Bool, true, false, ◌||◌, nat_le, if◌then◌else◌, List, [], ◌∷◌, Option, Some, None, Result, Ok, Err, codes}
use Rattle.pv_base.specs.declared.name.Name.{Name}
use Rattle.pv_base.specs.Limits.{live_limit}
use Rattle.ir_lex.specs.declared.token.TokenKind.{TokenKind}
use Rattle.ir_lex.specs.declared.token.TokenKind.TheVariants as kind
use Rattle.ir_lex.specs.declared.token.Cause.{Cause}
use Rattle.ir_lex.specs.declared.token.Cause.TheVariants as causes
use Rattle.ir_tree.specs.declared.layout.Layout.{Layout}
use Rattle.ir_tree.specs.declared.items.NamedType.{NamedType}
use Rattle.ir_tree.specs.declared.items.Global.{Global}
use Rattle.ir_tree.specs.declared.items.Function.{Function}
use Rattle.ir_tree.specs.Layouts.{layout_with}
use Rattle.ir_tree.specs.Trees.{TypeV, ConstantV}
use Rattle.ir_text.specs.declared.fault.Fault.TheVariants.{Ended}
use Rattle.ir_text.specs.Tokens.{TokenV, is_mark, is_word}
use Rattle.ir_text.specs.Reading.{Outcome, Reader, ◌>>=◌, wrong, token_by}
use Rattle.ir_text.specs.Choice.{choose}
use Rattle.ir_text.specs.Constants.{width_of}
use Rattle.ir_text.specs.Leaves.{mark_at, word_at}
use Rattle.ir_text.specs.MemoryTypes.{named_layouts, memory_type_at}
use Rattle.ir_text.specs.Operands.{constant_at, is_local}
use Rattle.ir_text.specs.Passed.{words_at, stops}
use Rattle.ir_text.specs.Repeated.{repeated_under}
use Rattle.ir_text.specs.Tails.{notes_at, tails_at}
use Rattle.ir_text.specs.Types.{Known, simple, type_at}
use Rattle.ir_instr.specs.Words.{worded}
use Rattle.ir_grammar.specs.Headers.{Header, header_at, scope_of, new_global, new_local}
use Rattle.ir_grammar.specs.Bodies.{body_at}
use Rattle.ir_grammar.specs.Modules.{Item, TypeItem, GlobalItem, FunctionItem, PassedItem, SoFar, nothing_so_far, with_item}
use Rattle.ir_grammar.specs.PassedItems.{to_string, attributes_at, metadata_at, comdat_at, attached_at}

-- ---- named types

abbrev pub no_body_by : Result TypeV Cause → Cause
no_body_by (Ok of) = causes.Operand
no_body_by (Err cause) = cause

-- why a token begins no body of a named type: another type is no operand here
abbrev pub no_body : Known → TokenV → Cause
no_body known t = if is_mark 91 t then causes.Operand else no_body_by (simple known t)

abbrev pub begins_body : TokenV → Bool
begins_body t = is_mark 123 t || is_mark 60 t

-- { T, .. } or <{ T, .. }>
unfoldable pub named_body_at : Known → Reader TypeV
named_body_at known [] = Err Ended
named_body_at known (t ∷ rest) = if begins_body t then type_at known (t ∷ rest) else wrong t (no_body known t)

-- %name = type BODY, where these names of types were given before
abbrev pub named_type_at : Known → List Name → Reader (NamedType Name TypeV)
named_type_at known types ts = do
  name ← token_by (new_local types) ts
  equals ← mark_at 61 name.1
  word ← word_at (codes "type") equals.1
  of ← named_body_at known word.1
  Ok (record { name = name.0; of = of.0 }, of.1)

-- ---- globals

-- whether a global is constant
abbrev pub global_words : List (List ℕ × Bool)
global_words = (codes "global", false) ∷ (codes "constant", true) ∷ []

-- the words at which the words before them end
abbrev pub before_global : TokenV → Bool
before_global = stops (codes "global" ∷ codes "constant" ∷ []) false

abbrev pub bytes_of : Option Layout → ℕ
bytes_of (Some l) = l.size
bytes_of None = 0

-- how many bytes a type takes
abbrev pub size_of : Known → TypeV → ℕ
size_of known of = bytes_of (layout_with (named_layouts known) of)

-- the globals of a module take at most so many bytes
abbrev pub fits_globals : ℕ → Bool
fits_globals size = nat_le size live_limit

-- a type with a layout, with which so many bytes of globals are not too many
unfoldable pub global_type_at : Known → ℕ → Reader TypeV
global_type_at known size [] = Err Ended
global_type_at known size (t ∷ rest) = memory_type_at known (t ∷ rest) >>= λ of. if fits_globals (size + size_of known of.0) then Ok of else wrong t causes.Layout

-- @name = WORDS global|constant T INIT, and what is passed over behind it
abbrev pub global_at : Known → List Name → ℕ → Reader (Global Name TypeV ConstantV)
global_at known values size ts = do
  name ← token_by (new_global values) ts
  equals ← mark_at 61 name.1
  words ← words_at before_global equals.1
  constant ← token_by (worded global_words) words.1
  of ← global_type_at known size constant.1
  init ← constant_at known (width_of of.0) of.1
  passed ← tails_at init.1
  Ok (record { name = name.0; of = of.0; constant = constant.0; init = init.0 }, passed.1)

-- ---- functions

-- the words that begin items
abbrev pub item_words : List (List ℕ)
item_words = codes "declare" ∷ codes "define" ∷ codes "source_filename" ∷ codes "target" ∷ codes "attributes" ∷ []

abbrev pub declared_function : Header → Function Name TypeV ConstantV
declared_function h = record { name = h.name; result = h.result; params = h.params.params; variadic = h.params.variadic; blocks = []; declared = true }

-- the words behind a declaration, up to one that begins an item
abbrev pub words_behind : Reader (Unit {0})
words_behind = words_at (stops item_words false)

-- behind `declare`
abbrev pub declaration_at : List Name → Reader (Function Name TypeV ConstantV)
declaration_at values ts = do
  notes ← notes_at ts
  header ← header_at true values notes.1
  words ← words_behind header.1
  attached ← attached_at words.1
  Ok (declared_function header.0, attached.1)

-- behind `define`
abbrev pub definition_at : Known → List Name → Reader (Function Name TypeV ConstantV)
definition_at known values ts = do
  header ← header_at false values ts
  words ← words_at (stops [] false) header.1
  notes ← notes_at words.1
  brace ← mark_at 123 notes.1
  blocks ← body_at known (scope_of header.0.params) brace.1
  Ok (record { name = header.0.name; result = header.0.result; params = header.0.params.params; variadic = header.0.params.variadic; blocks = blocks.0; declared = false }, blocks.1)

-- ---- all items

abbrev pub kind_is_global : TokenKind → Bool
kind_is_global kind.GlobalName = true
kind_is_global _ = false

abbrev pub is_global : TokenV → Bool
is_global t = kind_is_global t.kind

abbrev pub passing : Outcome (Unit {0}) → Outcome Item
passing read = read >>= λ x. Ok (PassedItem, x.1)

module _ (known : Known) (s : SoFar) where
  abbrev pub type_item_at : Reader Item
  type_item_at ts = named_type_at known s.types ts >>= λ t. Ok (TypeItem t.0, t.1)

  abbrev pub global_item_at : Reader Item
  global_item_at ts = global_at known s.values s.size ts >>= λ g. Ok (GlobalItem g.0 (size_of known g.0.of), g.1)

  abbrev pub declaration_item_at : Reader Item
  declaration_item_at ts = declaration_at s.values ts >>= λ f. Ok (FunctionItem f.0, f.1)

  abbrev pub definition_item_at : Reader Item
  definition_item_at ts = definition_at known s.values ts >>= λ f. Ok (FunctionItem f.0, f.1)

  -- an item that begins with a word
  unfoldable pub worded_item_at : Reader Item
  worded_item_at [] = Err Ended
  worded_item_at (t ∷ rest) =
      if is_word (codes "define") t then definition_item_at rest
      else (if is_word (codes "declare") t then declaration_item_at rest
      else (if is_word (codes "source_filename") t then passing (to_string rest)
      else (if is_word (codes "target") t then passing (to_string rest)
      else (if is_word (codes "attributes") t then passing (attributes_at rest)
      else wrong t causes.Instruction))))

  abbrev pub marked_item_at : Reader Item
  marked_item_at = choose (is_mark 33) (λ ts. passing (metadata_at ts)) (choose (is_mark 36) (λ ts. passing (comdat_at ts)) worded_item_at)

  -- an item behind those so far
  abbrev pub item_at : Reader Item
  item_at = choose is_local type_item_at (choose is_global global_item_at marked_item_at)

-- all items
abbrev pub any_token : TokenV → Bool
any_token t = true

abbrev pub items_at : Known → Reader (List Item)
items_at known = repeated_under any_token (item_at known) with_item nothing_so_far
