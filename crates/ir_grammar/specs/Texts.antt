-- A module's text: its module, or its first fault.
use Rattle.std.specs.Prelude.{ℕ, ◌+◌, ◌-◌, ◌==◌, ◌&&◌, Bool, true, false, if◌then◌else◌, fold, length, take, count_by, List, [], ◌∷◌, ◌++◌, Option, Some, None, Result, Ok, Err, codes}
use Rattle.std.specs.Option.{option_or}
use Rattle.pv_base.specs.declared.name.Name.{Name}
use Rattle.ir_lex.specs.declared.token.Token.{Token}
use Rattle.ir_lex.specs.declared.token.Cause.TheVariants as causes
use Rattle.ir_lex.specs.declared.token.ReadError.{ReadError}
use Rattle.ir_lex.specs.Lexing.{lexed}
use Rattle.ir_tree.specs.declared.items.NamedType.{NamedType}
use Rattle.ir_tree.specs.Trees.{TypeV}
use Rattle.ir_text.specs.declared.fault.Fault.{Fault}
use Rattle.ir_text.specs.declared.fault.Fault.TheVariants.{At, Ended}
use Rattle.ir_text.specs.Tokens.{TokenV, token_of, tokens_of, same, is_mark}
use Rattle.ir_text.specs.Reading.{Outcome, Reader, ◌>>=◌}
use Rattle.ir_text.specs.Passed.{is_any_word}
use Rattle.ir_text.specs.Types.{Known}
use Rattle.ir_grammar.specs.Modules.{ModuleV, nothing_so_far, with_item}
use Rattle.ir_grammar.specs.Items.{items_at}
use Rattle.ir_grammar.specs.NamedTypes.{definitions, named_only, bodies_read, types_in, bodies_in, known_in}

-- ---- lines that are passed over

-- a word that begins with dbg_
abbrev pub is_record_word : TokenV → Bool
is_record_word t = is_any_word t && same (take 4 t.text) (codes "dbg_")

-- `#`, and at once such a word
abbrev pub begins_record : List ℕ → List Token → Bool
begins_record text [] = false
begins_record text (t ∷ []) = false
begins_record text (t ∷ u ∷ rest) = is_mark 35 (token_of text t) && (u.from == t.to) && is_record_word (token_of text u)

-- whether the line of a token is passed over, behind a token of this line, which was or was not
abbrev pub is_over : List ℕ → ℕ → Bool → List Token → Bool
is_over text line passed [] = passed
is_over text line passed (t ∷ rest) = if t.line == line then passed else begins_record text (t ∷ rest)

-- the tokens of lines that do not begin with `#dbg_`
unfoldable pub kept_from : List ℕ → ℕ → Bool → List Token → List Token
kept_from text line passed [] = []
kept_from text line passed (t ∷ rest) =
    if is_over text line passed (t ∷ rest) then kept_from text t.line true rest else t ∷ kept_from text t.line false rest

abbrev pub without_records : List ℕ → List Token → List Token
without_records text tokens = kept_from text 0 false tokens

-- ---- the whole text

-- the line of the last byte: a newline at the end belongs to the line that it ends
abbrev pub last_line : List ℕ → ℕ
last_line text = 1 + count_by (λ b. b == 10) (take (length text - 1) text)

-- the tokens end here: at the lexical fault, if there is one, or at the end of the text
abbrev pub end_of : ℕ → Option ReadError → ReadError
end_of last None = record { line = last; cause = causes.End }
end_of last (Some e) = e

abbrev pub unless_fault : {A : Type 0} → Option ReadError → A → Result A ReadError
unless_fault None a = Ok a
unless_fault (Some e) a = Err e

abbrev pub settled : {A : Type 0} → ℕ → Option ReadError → Outcome A → Result A ReadError
settled last fault (Ok x) = unless_fault fault x.0
settled last fault (Err (At line cause)) = Err (record { line = line; cause = cause })
settled last fault (Err Ended) = Err (end_of last fault)

-- the module of these named types, whose bodies are read so, and of all items
abbrev pub module_at : List (NamedType Name TypeV) → Outcome (Unit {0}) → Known → Reader ModuleV
module_at types bodies known ts = do
  all ← items_at known ts
  sound ← bodies
  Ok (record (fold with_item nothing_so_far all.0).module_so_far { types = types }, all.1)

-- ---- which fault is the first

-- the fault with which a reading ends at a token, if it does
abbrev pub token_fault : {A : Type 0} → Outcome A → Option Fault
token_fault (Err (At line cause)) = Some (At line cause)
token_fault _ = None

-- What is wrong at a token of these, where these names are types and this is known of them: in an item, or else in the body
-- of a definition, wherever it stands.
unfoldable pub wrong_among : Known → Known → List TokenV → Option Fault
wrong_among names known ts = option_or (token_fault (items_at known ts)) (token_fault (bodies_read names (definitions ts)))

-- what is wrong in the fewest tokens, from these on
unfoldable pub first_wrong : (List TokenV → Option Fault) → List TokenV → List TokenV → Option Fault
first_wrong wrong front [] = wrong front
first_wrong wrong front (t ∷ rest) = option_or (wrong front) (first_wrong wrong (front ++ t ∷ []) rest)

abbrev pub unless_wrong : {A : Type 0} → Option Fault → Outcome A → Outcome A
unless_wrong (Some fault) read = Err fault
unless_wrong None read = read

-- the tokens that are read
unfoldable pub read_tokens : List ℕ → List TokenV
read_tokens text = tokens_of text (without_records text (lexed text).tokens)

-- the first fault at a token: the one that is met in the fewest tokens
abbrev pub first_fault : List TokenV → Option Fault
first_fault ts = first_wrong (wrong_among (named_only (definitions ts)) (known_in ts)) [] ts

-- the module of these tokens: its items, and the bodies of all definitions
abbrev pub module_in : List TokenV → Outcome ModuleV
module_in ts = module_at (types_in ts) (bodies_in ts) (known_in ts) ts

-- The module of a text, or the line and the cause of its first fault by place. The named types of the whole text are its
-- types, and are known at each place of it.
unfoldable pub read_of : List ℕ → Result ModuleV ReadError
read_of text = settled (last_line text) (lexed text).fault (unless_wrong (first_fault (read_tokens text)) (module_in (read_tokens text)))
