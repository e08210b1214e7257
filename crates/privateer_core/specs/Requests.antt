-- What is answered to what words ask.
use Rattle.std.specs.Prelude.{ℕ, Option, [], ⊤}
use Rattle.pv_base.specs.Outside.{Text}
use Rattle.command_words.specs.Requests.{Asked, usage, refused, lacking, run, check}
use Rattle.plain_commands.specs.Status as exit
use Rattle.plain_commands.specs.Answers.{gives, refuses}
use Rattle.plain_commands.specs.Texts.{Texts, Answers}
use Rattle.plain_commands.specs.Commands.{wanted_run, wanted_check, TellsRun, TellsCheck, RunReads, CheckReads}
use Rattle.plain_commands.specs.declared.answer.Answer.{Answer}

-- words that are refused
abbrev pub IsUsage : Asked → Type 0
IsUsage (usage line) = ⊤
IsUsage refused = ⊤
IsUsage _ = ⊥

-- What the texts determine, and the words with a text by which `clap` refuses some. What lacks a word is answered by nothing,
-- but for want of memory.
abbrev pub wanted_of : Texts → Text → Asked → Answer
wanted_of texts help (usage line) = refuses exit.usage line
wanted_of texts help refused = refuses exit.usage help
wanted_of texts help lacking = gives exit.ended [] []
wanted_of texts help (run code input budget) = wanted_run texts code input budget
wanted_of texts help (check code) = wanted_check texts code

-- the texts are what the files tell of the names that the words give
abbrev pub TellsTexts : (Text → Option Text) → Asked → Texts → Type 0
TellsTexts content (run code input budget) texts = TellsRun content code input texts
TellsTexts content (check code) texts = TellsCheck content code texts
TellsTexts content _ texts = ⊤

-- A read of this name may fail: it is MODULE's, or INPUT's where the module is accepted.
abbrev pub FaultAt : Asked → Texts → Text → Type 0
FaultAt (run code input budget) texts name = RunReads code input texts name
FaultAt (check code) texts name = CheckReads code texts name
FaultAt _ texts name = ⊥

-- what is answered to words, with a text of `clap`
pub record AnswersWords (content : Text → Option Text) (asked : Asked) (before after : ℕ) (a : Answer) : Type 0 where
  pub help : Text
  pub answers : Answers (TellsTexts content asked) (λ t. wanted_of t help asked) (FaultAt asked) before after a
