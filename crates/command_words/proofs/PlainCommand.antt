-- A command of an app, on plain command lines.
use Rattle.std.proofs.Common.{◌≡◌, ◌∙◌, ap, refl, Bool, true, false, ◌||◌, List, [], ◌∷◌, Some, find, unwrap_or, option_map, subst, arith, length}
use Rattle.std.specs.Prelude.{nat_lt}
use Rattle.std.proofs.lemmas.Bool.{lt-ltb}
use Rattle.std.specs.Bool.{if◌then◌else◌}
use Rattle.std.specs.Str.{bytes_eq}
use Rattle.clap.specs.Words.{App, Text, Row, first_of}
use Rattle.clap.specs.Simple.{Shape, names_of, entered, label_of}
use Rattle.clap.specs.Walk.{answers_to, nothing_held, stop_after}
use Rattle.clap.specs.Faults.{built_fault}
use Rattle.command_words.specs.Texts.{are_texts, are_words}
use Rattle.command_words.specs.Plain.{Item, words_of, pairs_of, value_in, has_name, ArePlain}
use Rattle.command_words.specs.PlainLines.{IsPlainLine, text_or}
use Rattle.command_words.specs.Requests.{Commands, asked_at, asked_of_texts, asked_in, option_or, faults, matches}
use Rattle.command_words.proofs.PlainWalk.{IsPlainShape, lacks, rows_for, plain_rows, plain_faults, first_value_in}
use Rattle.command_words.proofs.Entered.{Enters, enters_rows, enters_faults}

-- the app reads the words behind the program's name as this built one
pub record ReadsAs (app b : App) : Type 0 where
  pub faults_after : (program : Text) (words : List Text) → faults app (program ∷ words) ≡ built_fault b nothing_held words
  pub matches_after : (program : Text) (words : List Text) → matches app (program ∷ words) ≡ entered b (stop_after b.top.rules (names_of b) words)

-- the subcommand of a name
abbrev pub sub_in : App → Text → Shape
sub_in b name = unwrap_or (find (λ (x : Shape). answers_to name (label_of x)) b.subs) b.top

asked_after : (app : App) (commands : Commands) (words : List Text) (name : Text) (rows : List Row) → faults app words ≡ [] → matches app words ≡ Some (name, rows)
    → asked_of_texts app commands words ≡ asked_in commands name rows
asked_after app commands words name rows f m = rw (f, m) refl

text_asked : (app b : App) (commands : Commands) (program name : Text) (s : Shape) (options names : List Text) (items : List Item)
    → ReadsAs app b → Enters b name s → IsPlainShape s options names → ArePlain options names items [] → lacks s (pairs_of names items) ≡ false
    → asked_of_texts app commands (program ∷ name ∷ words_of items) ≡ asked_in commands name (rows_for (pairs_of names items))
text_asked app b commands program name s options names items reads enters plain fine given =
    asked_after app commands _ _ _ (reads.faults_after program (name ∷ words_of items) ∙ enters_faults b name s (words_of items) enters (plain_faults s options names items plain fine given))
    (reads.matches_after program (name ∷ words_of items) ∙ enters_rows b name s (words_of items) enters ∙ ap (λ (r : List Row). Some (name, r)) (plain_rows s options names items plain fine))

texts_asked : (app : App) (commands : Commands) (words : List Text) (program : Text) (rest : List Text) → words ≡ program ∷ rest → are_texts words ≡ true
    → asked_at app commands words ≡ asked_of_texts app commands (program ∷ rest)
texts_asked app commands words program rest e text =
    let texts : are_texts (program ∷ rest) ≡ true = subst (λ (ws : List Text). are_texts ws ≡ true) e text in
    let some : nat_lt 0 (length (program ∷ rest)) ≡ true = lt-ltb 0 (length (program ∷ rest)) (omega arith) in
    let both : are_words (program ∷ rest) ≡ true = rw (some, texts) refl in
    ap (asked_at app commands) e ∙ rw both refl

-- a plain command line asks what its command's reader takes from the pairs of its items
pub plain_command : (app b : App) (commands : Commands) (name : Text) (s : Shape) (options names needed : List Text) (items : List Item) (words : List Text)
    → ReadsAs app b → Enters b name s → IsPlainShape s options names → IsPlainLine name names options needed items words → lacks s (pairs_of names items) ≡ false
    → asked_at app commands words ≡ asked_in commands name (rows_for (pairs_of names items))
plain_command app b commands name s options names needed items words reads enters plain line given =
    texts_asked app commands words line.program _ line.is line.texts
    ∙ text_asked app b commands line.program name s options names items reads enters plain line.fine given

-- a name that is there has a value
named_value : (name : Text) (pairs : List (Text × Text)) → has_name name pairs ≡ true → value_in pairs name ≡ Some (unwrap_or (value_in pairs name) [])
named_value name [] e = (cc)
named_value name (q ∷ pairs) e = by_test (bytes_eq q.0 name) (named_value name pairs) e
  where
    by_test : (b : Bool) → (has_name name pairs ≡ true → value_in pairs name ≡ Some (unwrap_or (value_in pairs name) [])) → (b || has_name name pairs) ≡ true
        → option_map (λ (x : Text × Text). x.1) (if b then Some q else find (λ (x : Text × Text). bytes_eq x.0 name) pairs)
        ≡ Some (unwrap_or (option_map (λ (x : Text × Text). x.1) (if b then Some q else find (λ (x : Text × Text). bytes_eq x.0 name) pairs)) [])
    by_test true h e = refl
    by_test false h e = h e

-- the first value of a name in the rows of the pairs
pub value_is : (name : Text) (pairs : List (Text × Text)) → has_name name pairs ≡ true → first_of name (rows_for pairs) ≡ Some (unwrap_or (value_in pairs name) [])
value_is name pairs e = first_value_in name pairs ∙ named_value name pairs e

-- an option that may be left out
pub option_is : (name default : Text) (names : List Text) (items : List Item) → option_or name default (rows_for (pairs_of names items)) ≡ text_or default names items name
option_is name default names items = rw first_value_in refl
