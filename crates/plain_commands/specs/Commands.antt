-- The commands: what is answered, as a function of the text of the module, of the input and of the budget.
use Rattle.std.specs.Prelude.{◌≡◌, ◌≤◌, ◌⊎◌, ℕ, [], length, Option, Some, None, Result, Ok, Err}
use Rattle.pv_base.specs.Outside.{Text}
use Rattle.ir_lex.specs.declared.token.ReadError.{ReadError}
use Rattle.ir_grammar.specs.Modules.{ModuleV, shown_module}
use Rattle.ir_grammar.specs.Texts.{read_of}
use Rattle.ir_rules.specs.declared.fault.CheckError.{CheckError}
use Rattle.ir_rules.specs.Faults.{first_fault}
use Rattle.seq_machine.specs.declared.state.End.{End}
use Rattle.seq_machine.specs.declared.state.End.TheVariants.{Ended, Trapped, Spent}
use Rattle.seq_machine.specs.declared.state.Outcome.{Outcome}
use Rattle.run_report.specs.Report.{report_text}
use Rattle.run_report.specs.Refusals.{refused_module, refused_check, accepted_text}
use Rattle.code_laws.specs.Runs.{module_outcome}
use Rattle.pv_base.specs.Limits.{file_limit}
use Rattle.plain_commands.specs.Status as exit
use Rattle.plain_commands.specs.Answers.{gives, refuses, with_file, IsGiven}
use Rattle.plain_commands.specs.Loading.{refusal_of}
use Rattle.plain_commands.specs.Texts.{Texts, Tells}
use Rattle.plain_commands.specs.declared.answer.Answer.{Answer}
use Rattle.plain_commands.specs.declared.loading.Loaded.{Loaded}
use Rattle.plain_commands.specs.declared.loading.Loaded.TheVariants.{Accepted, Refused as RefusedBy}

abbrev pub status_of : End → ℕ
status_of (Ended v) = exit.ended
status_of (Trapped t site) = exit.trapped
status_of Spent = exit.spent

-- the answer of a run: what it printed, and its report
abbrev pub ran : ModuleV → Outcome → Answer
ran v o = gives (status_of o.end) o.output (report_text v o)

-- the answer to a module that is accepted: how many functions it defines, how many globals and how many instructions it has
abbrev pub accepted : ModuleV → Answer
accepted v = gives exit.ended (accepted_text v) []

-- the answer to a module: the refusal by its first fault, or what follows where it has none
abbrev pub unless_fault : ModuleV → Option CheckError → Answer → Answer
unless_fault v (Some e) next = refuses exit.refused (refused_check v e)
unless_fault v None next = next

-- the answer to what was read of a text: the refusal by its first fault, or what follows for a module that breaks no rule
abbrev pub answer_of : Result ModuleV ReadError → (ModuleV → Answer) → Answer
answer_of (Err e) next = refuses exit.refused (refused_module e)
answer_of (Ok v) next = unless_fault v (first_fault v) (next v)

-- the run of a module on the text of an input, which has this name
abbrev pub run_module : Text → Text → ℕ → ModuleV → Answer
run_module text name budget v = with_file file_limit text name (ran v (module_outcome v text budget))

-- `run`: the names of the module and of the input, and the budget
abbrev pub wanted_run : Texts → Text → Text → ℕ → Answer
wanted_run texts code input budget = with_file file_limit texts.code code (answer_of (read_of texts.code) (run_module texts.input input budget))

-- `check`: the name of the module
abbrev pub wanted_check : Texts → Text → Answer
wanted_check texts code = with_file file_limit texts.code code (answer_of (read_of texts.code) accepted)

-- ---- which files are read

-- the text of a module that is accepted
abbrev pub IsTaken : Text → Type 0
IsTaken text = (length text ≤ file_limit) × (refusal_of text ≡ None)

-- the texts of a run are what the files tell of its names
abbrev pub TellsRun : (Text → Option Text) → Text → Text → Texts → Type 0
TellsRun content code input texts = Tells content code texts.code × Tells content input texts.input

abbrev pub TellsCheck : (Text → Option Text) → Text → Texts → Type 0
TellsCheck content code texts = Tells content code texts.code

-- a run reads its module, and its input where the module is accepted
abbrev pub RunReads : Text → Text → Texts → Text → Type 0
RunReads code input texts name = (name ≡ code) ⊎ ((name ≡ input) × IsTaken texts.code)

abbrev pub CheckReads : Text → Texts → Text → Type 0
CheckReads code texts name = name ≡ code

-- ---- on the way

-- what is answered to the run of a module
pub record RunsModule (content : Text → Option Text) (input : Text) (budget : ℕ) (v : ModuleV) (before after : ℕ) (a : Answer) : Type 0 where
  pub text : Text
  pub told : Tells content input text
  pub is : IsGiven (run_module text input budget v) (λ n. n ≡ input) before after a

-- what is answered to a run of what a module was taken for
abbrev pub RunsLoaded : (Text → Option Text) → Text → ℕ → Loaded → ℕ → ℕ → Answer → Type 0
RunsLoaded content input budget (RefusedBy line) before after a = (after ≡ before) × (a ≡ refuses exit.refused line)
RunsLoaded content input budget (Accepted m) before after a = RunsModule content input budget (shown_module m) before after a

-- what is answered to its check
abbrev pub ChecksLoaded : Loaded → Answer → Type 0
ChecksLoaded (RefusedBy line) a = a ≡ refuses exit.refused line
ChecksLoaded (Accepted m) a = a ≡ accepted (shown_module m)
