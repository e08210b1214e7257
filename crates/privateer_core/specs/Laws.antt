-- What follows from how the top call ends, over any files and sinks.
use Rattle.std.specs.Prelude.{◌≡◌, ◌≢◌, ◌<◌, ◌≤◌, ◌⊎◌, ℕ, length, Some, ⊤}
use Rattle.pv_base.specs.Outside.{Text, Rose, AppendsFront, appended}
use Rattle.command_words.specs.Requests.{Asked, run, check}
use Rattle.pv_base.specs.Limits.{file_limit}
use Rattle.plain_commands.specs.Status as exit
use Rattle.plain_commands.specs.Answers.{IsQuiet, fault_line, too_long_line}
use Rattle.plain_commands.specs.Texts.{Texts}
use Rattle.plain_commands.specs.Commands.{IsTaken}
use Rattle.plain_commands.specs.Loading.{refusal_of}
use Rattle.plain_commands.specs.declared.answer.Answer.{Answer}
use Rattle.privateer_core.specs.Delivering.{Delivers}
use Rattle.privateer_core.specs.Requests.{IsUsage, wanted_of, FaultAt}
use Rattle.privateer_core.specs.Ends.{Seen, TopEnds}

-- a status with which no answer was given, or not whole
abbrev pub IsFaulty : ℕ → Type 0
IsFaulty end = (end ≡ exit.read_fault) ⊎ (end ≡ exit.write_fault) ⊎ (end ≡ exit.memory)

-- words that ask for a check
abbrev pub IsCheck : Asked → Type 0
IsCheck (check code) = ⊤
IsCheck _ = ⊥

-- the text of a module is refused with this line
abbrev pub IsRefused : Text → Text → Type 0
IsRefused text line = (length text ≤ file_limit) × (refusal_of text ≡ Some line)

-- the module that is asked for is refused with this line
abbrev pub RefusedBy : Asked → Texts → Text → Type 0
RefusedBy (run code input budget) texts line = IsRefused texts.code line
RefusedBy (check code) texts line = IsRefused texts.code line
RefusedBy _ texts line = ⊥

-- the file of this name is too long: that of MODULE, or that of INPUT where the module is accepted
abbrev pub TooLong : Asked → Texts → Text → Type 0
TooLong (run code input budget) texts name =
    ((name ≡ code) × (file_limit < length texts.code)) ⊎ ((name ≡ input) × IsTaken texts.code × (file_limit < length texts.input))
TooLong (check code) texts name = (name ≡ code) × (file_limit < length texts.code)
TooLong _ texts name = ⊥

-- a line was put behind what the report held
abbrev pub Reports : Seen → Seen → Text → Type 0
Reports before after line = after.report.held ≡ appended before.report.held line

-- no count of faults rose
pub record Calm (before after : Seen) : Type 0 where
  pub files : ¬ Rose before.files.faults after.files.faults
  pub out : ¬ Rose before.out.faults after.out.faults
  pub report : ¬ Rose before.report.faults after.report.faults

-- the statuses, each with what it tells
pub record TopSays (asked : Asked) (before after : Seen) (end : ℕ) (texts : Texts) (wanted : Answer) : Type 0 where
  pub statuses : end ≤ exit.too_long
  -- a check never answers that a run trapped or that its budget was spent
  pub checked : IsCheck asked → (end ≢ exit.trapped) × (end ≢ exit.spent)
  -- a module is refused exactly where its text is, and with its line
  pub refused : end ≡ exit.refused → (line : Text) × RefusedBy asked texts line × Reports before after line
  pub refused_is_told : (line : Text) → RefusedBy asked texts line → (end ≡ exit.refused) ⊎ IsFaulty end
  -- words are refused exactly where they are to be; no read can fail then
  pub usage : end ≡ exit.usage → IsUsage asked
  pub usage_is_told : IsUsage asked → (end ≡ exit.usage) ⊎ (end ≡ exit.write_fault) ⊎ (end ≡ exit.memory)
  -- a read failed, of a file that was to be read
  pub read_fault : end ≡ exit.read_fault → Rose before.files.faults after.files.faults
  pub read_fault_line : end ≡ exit.read_fault → (name : Text) × FaultAt asked texts name × Reports before after (fault_line name)
  pub read_told : before.files.faults < after.files.faults → IsFaulty end
  -- each file by itself may be too long
  pub too_long : end ≡ exit.too_long → (name : Text) × TooLong asked texts name × Reports before after (too_long_line name)
  pub too_long_is_told : (name : Text) → TooLong asked texts name → (end ≡ exit.too_long) ⊎ IsFaulty end
  -- what the output holds then
  pub quiet : IsQuiet end → after.out.held ≡ before.out.held
  -- what is wanted is delivered, unless a read failed whose line could not be put
  pub delivers : end ≢ exit.read_fault → end ≢ exit.memory → ((end ≡ exit.write_fault) × (after.out.held ≡ before.out.held))
      ⊎ Delivers wanted end before.out after.out before.report after.report
  -- a write failed
  pub write_fault : end ≡ exit.write_fault → Rose before.out.faults after.out.faults ⊎ Rose before.report.faults after.report.faults
  pub write_told : (before.out.faults < after.out.faults) ⊎ (before.report.faults < after.report.faults) → end ≡ exit.write_fault
  -- after a write that failed, the report holds a front of what it would have held
  pub report_front : ¬ Rose before.files.faults after.files.faults → end ≢ exit.memory → AppendsFront before.report.held after.report.held wanted.report
  -- with no fault, the status is that of what is wanted, or that of want of memory
  pub complete : Calm before after → (end ≡ exit.memory) ⊎ (end ≡ wanted.status)
  -- no count falls, and what a sink has room for stays
  pub later : (before.out.faults ≤ after.out.faults) × (before.report.faults ≤ after.report.faults)
  pub rooms : (after.out.room ≡ before.out.room) × (after.report.room ≡ before.report.room)

-- what each end of a top call says
abbrev pub TopLaws : Type 0
TopLaws = (asked : Asked) → (before after : Seen) → (end : ℕ) → (ends : TopEnds asked before after end)
    → TopSays asked before after end ends.texts (wanted_of ends.texts ends.help asked)
