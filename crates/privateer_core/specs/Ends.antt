-- How the top call ends, as it is seen of the files and the sinks.
use Rattle.std.specs.Prelude.{◌≡◌, ◌≢◌, ◌≤◌, ◌⊎◌, ℕ, Option}
use Rattle.pv_base.specs.Outside.{Text}
use Rattle.command_words.specs.Requests.{Asked, IsAnswered}
use Rattle.plain_commands.specs.Status as exit
use Rattle.plain_commands.specs.Answers.{IsGiven}
use Rattle.plain_commands.specs.Texts.{Texts}
use Rattle.plain_commands.specs.declared.answer.Answer.{Answer}
use Rattle.privateer_core.specs.Delivering.{SinkSeen, Delivers}
use Rattle.privateer_core.specs.Requests.{wanted_of, TellsTexts, FaultAt}

-- what is seen of the files: the content of each name that they tell, and their count of faults
pub record FilesSeen : Type 0 where
  pub content : Text → Option Text
  pub faults : ℕ

-- what is seen of the files and of both sinks
pub record Seen : Type 0 where
  pub files : FilesSeen
  pub out : SinkSeen
  pub report : SinkSeen

abbrev pub files_seen : (Text → Option Text) → ℕ → FilesSeen
files_seen content faults = record { content = content; faults = faults }

abbrev pub seen : FilesSeen → SinkSeen → SinkSeen → Seen
seen files out report = record { files = files; out = out; report = report }

-- Texts stand for what the files hold, where they tell it and where they do not. Of these, what is given is a function.
pub record TopEnds (asked : Asked) (before after : Seen) (end : ℕ) : Type 0 where
  -- the text of the module and that of the input: where the files tell the content of a name that the words give, it is this
  pub texts : Texts
  pub told : TellsTexts before.files.content asked texts
  -- a text by which `clap` refuses words
  pub help : Text
  -- what is given is what words and texts determine, with no read that failed, or the line of the one that did
  pub given : Answer
  pub is_given : end ≢ exit.memory → IsGiven (wanted_of texts help asked) (FaultAt asked texts) before.files.faults after.files.faults given
  -- it is put out and reported, unless a write failed
  pub delivered : end ≢ exit.memory → Delivers given end before.out after.out before.report after.report
  -- want of memory puts nothing
  pub memory : end ≡ exit.memory → (after.out ≡ before.out) × (after.report ≡ before.report)
  -- what no parse of words gives is answered by want of memory alone
  pub answered : (end ≡ exit.memory) ⊎ IsAnswered asked
  pub content : after.files.content ≡ before.files.content
  pub later : before.files.faults ≤ after.files.faults
