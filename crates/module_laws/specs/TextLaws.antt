-- What is said of whole texts.
use Rattle.std.specs.Prelude.{◌≡◌, ℕ, List, [], ◌∷◌, ◌++◌, Option, Some, None, Ok, Err}
use Rattle.std.proofs.Common.{◌⊎◌}
use Rattle.pv_base.specs.declared.name.Name.{Name}
use Rattle.ir_lex.specs.declared.token.ReadError.{ReadError}
use Rattle.ir_lex.specs.Lexing.{lexed}
use Rattle.ir_tree.specs.declared.items.NamedType.{NamedType}
use Rattle.ir_tree.specs.Trees.{TypeV}
use Rattle.ir_text.specs.Tokens.{TokenV}
use Rattle.ir_text.specs.Reading.{Outcome, Reader}
use Rattle.ir_text.specs.declared.fault.Fault.{Fault}
use Rattle.ir_text.specs.declared.fault.Fault.TheVariants.{At}
use Rattle.ir_text.specs.Lawful.{OnLine}
use Rattle.ir_text.specs.Types.{Known}
use Rattle.ir_grammar.specs.Modules.{ModuleV}
use Rattle.ir_grammar.specs.Items.{items_at}
use Rattle.ir_grammar.specs.NamedTypes.{definitions, named_only, bodies_read, types_in, bodies_in, known_in}
use Rattle.ir_grammar.specs.Texts.{end_of, last_line, module_at, token_fault, wrong_among, read_tokens, read_of}
use Rattle.module_laws.specs.ItemsSpelled.{a_module}

-- the named types that a text defines
abbrev pub types_of : List ℕ → List (NamedType Name TypeV)
types_of text = types_in (read_tokens text)

-- what a text says of its named types
abbrev pub known_of : List ℕ → Known
known_of text = known_in (read_tokens text)

-- which names a text defines as types
abbrev pub names_of : List ℕ → Known
names_of text = named_only (definitions (read_tokens text))

-- the bodies of definitions are read
abbrev pub all_sound : Outcome (Unit {0})
all_sound = Ok (tt, [])

-- the module of these named types and all items, where the bodies of all definitions are read
abbrev pub items_module_at : List (NamedType Name TypeV) → Known → Reader ModuleV
items_module_at types known = module_at types all_sound known

-- the module of a text's items, where the bodies of all definitions are read
abbrev pub items_of : List ℕ → Reader ModuleV
items_of text = items_module_at (types_of text) (known_of text)

-- The text spells the module: its tokens do, with the named types that it defines, the body of each definition is read, and
-- there is no lexical fault.
pub record SpellsModule (text : List ℕ) (m : ModuleV) : Type 0 where
  pub lexical : (lexed text).fault ≡ None
  pub bodies : bodies_in (read_tokens text) ≡ all_sound
  pub spelled : a_module (types_of text) (known_of text) m (read_tokens text)

-- what is read of a text is spelled by it
abbrev pub ReadIsSpelled : Type 0
ReadIsSpelled = (text : List ℕ) (m : ModuleV) → read_of text ≡ Ok m → SpellsModule text m

-- what is spelled by a text is read of it
abbrev pub SpelledIsRead : Type 0
SpelledIsRead = (text : List ℕ) (m : ModuleV) → SpellsModule text m → read_of text ≡ Ok m

-- a text spells at most one module
abbrev pub OneModule : Type 0
OneModule = (text : List ℕ) (a b : ModuleV) → SpellsModule text a → SpellsModule text b → a ≡ b

-- what is wrong in an item stays so, whatever stands behind
abbrev pub ItemsStayWrong : Type 0
ItemsStayWrong = (known : Known) (ts more : List TokenV) (fault : Fault) → token_fault (items_at known ts) ≡ Some fault → token_fault (items_at known (ts ++ more)) ≡ Some fault

-- and so does what is wrong in the body of a definition
abbrev pub BodiesStayWrong : Type 0
BodiesStayWrong =
    (names : Known) (ts more : List TokenV) (fault : Fault)
    → token_fault (bodies_read names (definitions ts)) ≡ Some fault → token_fault (bodies_read names (definitions (ts ++ more))) ≡ Some fault

-- what is wrong at a token of these, where the named types are those of the text
abbrev pub wrong_in : List ℕ → List TokenV → Option Fault
wrong_in text = wrong_among (names_of text) (known_of text)

-- The fault stands at a token of the text: nothing is wrong before it, and no text avoids it that begins alike through that
-- token and defines the same named types with the same bodies.
pub record FirstFault (text : List ℕ) (found : ReadError) : Type 0 where
  pub front : List TokenV
  pub token : TokenV
  pub rest : List TokenV
  pub parts : read_tokens text ≡ front ++ token ∷ rest
  pub before : wrong_in text front ≡ None
  pub here : wrong_in text (front ++ token ∷ []) ≡ Some (At found.line found.cause)
  pub on_line : OnLine found.line (front ++ token ∷ [])
  pub met : (other : List ℕ) (more : List TokenV) → read_tokens other ≡ front ++ token ∷ more → ((name : Name) → known_of other name ≡ known_of text name) → read_of other ≡ Err found

-- a text has at most one first fault: its line, its cause and its place are the same
abbrev pub OneFault : Type 0
OneFault =
    (text : List ℕ) (found other : ReadError) (a : FirstFault text found) (b : FirstFault text other)
    → (found ≡ other) × (a.front ≡ b.front) × (a.token ≡ b.token)

-- Nothing is wrong at a token of the text. They end at a lexical fault, or inside an item or a body: the fault is where they end.
pub record FaultAtEnd (text : List ℕ) (found : ReadError) : Type 0 where
  pub nothing_wrong : wrong_in text (read_tokens text) ≡ None
  pub is : found ≡ end_of (last_line text) (lexed text).fault

-- a text of no module has a first fault at a token, or its fault is where its tokens end
abbrev pub FaultIsFirst : Type 0
FaultIsFirst = (text : List ℕ) (found : ReadError) → read_of text ≡ Err found → FirstFault text found ⊎ FaultAtEnd text found

-- and not both
abbrev pub FaultsApart : Type 0
FaultsApart = (text : List ℕ) (found other : ReadError) → FirstFault text found → FaultAtEnd text other → ⊥
