-- What is answered to words.
use Rattle.std.proofs.Common.{◌≡◌, ℕ, [], refl, inl, Option, Result, Ok, Err, IfOk}
use Rattle.pv_base.specs.Outside.{Text}
use Rattle.pv_base.specs.declared.want.Memory.{Memory}
use Rattle.command_words.specs.Requests.{usage, refused, run, check}
use Rattle.plain_commands.specs.Status as exit
use Rattle.plain_commands.specs.Answers.{refuses}
use Rattle.plain_commands.specs.Texts.{Texts, Answers}
use Rattle.plain_commands.specs.Commands.{wanted_run, wanted_check, TellsRun, TellsCheck, RunReads, CheckReads}
use Rattle.plain_commands.specs.declared.answer.Answer.{Answer}
use Rattle.privateer_core.specs.Requests.{AnswersWords}

no_texts : Texts
no_texts = record { code = []; input = [] }

-- the answer to words that are refused with a line
pub usage_answered : (content : Text → Option Text) (line : Text) (count : ℕ) (a : Answer) → a ≡ refuses exit.usage line → AnswersWords content (usage line) count count a
usage_answered content line count a is = record { help = []; answers = record { texts = no_texts; told = tt; is = inl (refl, is) } }

-- the answer to words that `clap` refuses
pub help_answered : (content : Text → Option Text) (text : Text) (count : ℕ) (a : Answer) → a ≡ refuses exit.usage text → AnswersWords content refused count count a
help_answered content text count a is = record { help = text; answers = record { texts = no_texts; told = tt; is = inl (refl, is) } }

-- the answer to a run is what its words ask
pub run_asked : (content : Text → Option Text) (code input : Text) (budget before after : ℕ) (r : Result Answer Memory)
    → IfOk r (Answers (TellsRun content code input) (λ t. wanted_run t code input budget) (RunReads code input) before after)
    → IfOk r (AnswersWords content (run code input budget) before after)
run_asked content code input budget before after (Err e) h = tt
run_asked content code input budget before after (Ok a) h = record { help = []; answers = record { texts = h.texts; told = h.told; is = h.is } }

-- and so is the answer to a check
pub check_asked : (content : Text → Option Text) (code : Text) (before after : ℕ) (r : Result Answer Memory)
    → IfOk r (Answers (TellsCheck content code) (λ t. wanted_check t code) (CheckReads code) before after)
    → IfOk r (AnswersWords content (check code) before after)
check_asked content code before after (Err e) h = tt
check_asked content code before after (Ok a) h = record { help = []; answers = record { texts = h.texts; told = h.told; is = h.is } }
