-- Plain command lines, and what they ask.
use Rattle.std.specs.Prelude.{◌≡◌, true, List, [], ◌∷◌, Option, codes, unwrap_or, option_map}
use Rattle.std.specs.Borrow.{Bor}
use Rattle.clap.specs.Words.{Text}
use Rattle.command_words.specs.Texts.{are_texts}
use Rattle.command_words.specs.Plain.{Item, words_of, pairs_of, value_in, ArePlain, AllNamed}
use Rattle.command_words.specs.Requests.{Asked, asked_run, check}

-- the words are a program's name, this command, and then items that are plain for its positional names and its options, of
-- which the needed ones are there; each word is UTF-8
pub record IsPlainLine (command : Text) (names options needed : List Text) (items : List Item) (words : List Text) : Type 0 where
  pub program : Text
  pub is : words ≡ program ∷ command ∷ words_of items
  pub texts : are_texts words ≡ true
  pub fine : ArePlain options names items []
  pub given : AllNamed needed (pairs_of names items)

-- the text that the items give to a name, or what stands for it where they give none
abbrev pub text_or : Text → List Text → List Item → Text → Text
text_or default names items name = unwrap_or (value_in (pairs_of names items) name) default

-- the text that the items give to a name
abbrev pub text_in : List Text → List Item → Text → Text
text_in names items name = text_or [] names items name

abbrev pub run_names : List Text
run_names = codes "MODULE" ∷ codes "INPUT" ∷ []

abbrev pub run_options : List Text
run_options = codes "budget" ∷ []

abbrev pub check_names : List Text
check_names = codes "MODULE" ∷ []

-- the words of a plain command line are read as they stand: the command, its positional texts and the values of its options
pub record ReadsPlain (words : List Text) (asked : Asked) : Type 0 where
  pub run : (items : List Item) → IsPlainLine (codes "run") run_names run_options run_options items words
      → asked ≡ asked_run (text_in run_names items (codes "MODULE")) (text_in run_names items (codes "INPUT")) (text_in run_names items (codes "budget"))
  pub check : (items : List Item) → IsPlainLine (codes "check") check_names [] [] items words
      → asked ≡ check (text_in check_names items (codes "MODULE"))

abbrev pub now_of : Option (Bor Text) → Option Text
now_of = option_map (λ s. s.now)
