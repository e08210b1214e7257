-- What the words of a command line ask, as `clap` reads them.
use Rattle.std.specs.Prelude.{◌≡◌, ℕ, List, [], ◌∷◌, Option, Some, None, Result, Ok, Err, codes, if◌then◌else◌, unwrap_or, string_bytes, ⊤}
use Rattle.std.specs.Str.{bytes_eq}
use Rattle.clap.specs.Words.{App, Row, Text, subcommand_of, subcommand_rows_of, first_of, Kinds, fault_of}
use Rattle.clap.specs.declared.ArgMatches.{ArgMatches}
use Rattle.command_words.specs.Texts.{are_words}
use Rattle.command_words.specs.Usage.{usage_words}
use Rattle.command_words.specs.Numbers.{Numeral, numeral, numbers_of}
use Rattle.command_words.specs.CommandLine.{whole_app}
use Rattle.command_words.specs.declared.request.Request.{Request}
use Rattle.command_words.specs.declared.request.Request.TheVariants as request

-- the kinds of error that `clap` has for the words, at this command line; empty where it takes them
unfoldable pub faults : App → List Text → Kinds
faults app words = fault_of app words

-- the command that the words name, with its matches
unfoldable pub matches : App → List Text → Option (Text × List Row)
matches app words = subcommand_of app words

-- `clap` takes the words, with these matches
pub record IsTaken (app : App) (words : List Text) (m : ArgMatches) : Type 0 where
  pub fine : faults app words ≡ []
  pub same : subcommand_rows_of m ≡ matches app words

-- what is asked
pub data Asked : Type 0 where
  -- the words are refused, with this line
  usage : Text → Asked
  -- `clap` refuses the words, or they ask it for help; the text is its own
  refused : Asked
  -- the matches lack what the command needs, which no parse gives; it is answered by want of memory alone
  lacking : Asked
  -- the run of a module on an input, with a budget
  run : Text → Text → ℕ → Asked
  -- the check of a module
  check : Text → Asked

-- the most steps that a budget may allow
abbrev pub budget_limit : ℕ
budget_limit = 1000000000000

abbrev pub numbers_then : (List ℕ → Asked) → Result (List ℕ) Text → Asked
numbers_then next (Ok values) = next values
numbers_then next (Err line) = usage line

-- what is asked with the numbers of these texts, or the line that refuses the first text that is none within its limits
abbrev pub with_numbers : List Numeral → (List ℕ → Asked) → Asked
with_numbers ns next = numbers_then next (numbers_of ns)

-- what is asked with the numbers of a run
abbrev pub run_with : Text → Text → List ℕ → Asked
run_with code input (budget ∷ []) = run code input budget
run_with code input _ = lacking

-- the run of these texts: the budget is a number from 1 on
abbrev pub asked_run : Text → Text → Text → Asked
asked_run code input budget = with_numbers (numeral (codes "--budget") 1 budget_limit budget ∷ []) (run_with code input)

abbrev pub run_of : Option Text → Option Text → Option Text → Asked
run_of (Some code) (Some input) (Some budget) = asked_run code input budget
run_of _ _ _ = lacking

abbrev pub check_of : Option Text → Asked
check_of (Some code) = check code
check_of None = lacking

-- the value of an option, or what stands for it where it is not given
abbrev pub option_or : Text → Text → List Row → Text
option_or name default rows = unwrap_or (first_of name rows) default

-- what the matches of each command ask, by the first value of each of its words
abbrev pub run_in : List Row → Asked
run_in rows = run_of (first_of (codes "MODULE") rows) (first_of (codes "INPUT") rows) (first_of (codes "budget") rows)

abbrev pub check_in : List Row → Asked
check_in rows = check_of (first_of (codes "MODULE") rows)

-- commands: the name of each, and what its matches ask
abbrev pub Commands : Type 0
Commands = List (Text × (List Row → Asked))

-- the commands of the whole command line
abbrev pub whole_commands : Commands
whole_commands = (codes "run", run_in) ∷ (codes "check", check_in) ∷ []

-- what the command of this name asks
abbrev pub asked_in : Commands → Text → List Row → Asked
asked_in [] name rows = lacking
asked_in (c ∷ commands) name rows = if bytes_eq name c.0 then c.1 rows else asked_in commands name rows

abbrev pub asked_of_matches : Commands → Option (Text × List Row) → Asked
asked_of_matches commands (Some m) = asked_in commands m.0 m.1
asked_of_matches commands None = lacking

abbrev pub asked_by : Commands → Kinds → Option (Text × List Row) → Asked
asked_by commands [] m = asked_of_matches commands m
asked_by commands (k ∷ ks) m = refused

-- what words of text ask
abbrev pub asked_of_texts : App → Commands → List Text → Asked
asked_of_texts app commands words = asked_by commands (faults app words) (matches app words)

-- what the words ask, at this command line; no word, or one that is not UTF-8, is refused before `clap` sees any
abbrev pub asked_at : App → Commands → List Text → Asked
asked_at app commands words = if are_words words then asked_of_texts app commands words else usage usage_words

-- what the words ask, at the whole command line
abbrev pub asked_of : List Text → Asked
asked_of words = asked_at whole_app whole_commands words

-- what a request of the code asks
abbrev pub asks : Request → Asked
asks (request.Usage line) = usage line
asks (request.Refused text) = refused
asks (request.Run code input budget) = run (string_bytes code) (string_bytes input) budget
asks (request.Check code) = check (string_bytes code)

-- what an answer is there for: no parse of words gives less than a command needs
abbrev pub IsAnswered : Asked → Type 0
IsAnswered lacking = ⊥
IsAnswered _ = ⊤
