-- What is wanted of words, by the texts of the files.
use Rattle.std.proofs.Common.{◌≡◌, ◌≢◌, ◌<◌, ◌≤◌, ◌⊎◌, inl, inr, ℕ, refl, sym, ◌∙◌, ap, subst, [], length, Option, Some, None, arith}
use Rattle.pv_base.specs.Outside.{Text}
use Rattle.command_words.specs.Requests.{Asked, usage, refused, lacking, run, check}
use Rattle.pv_base.specs.Limits.{file_limit}
use Rattle.plain_commands.specs.Status as exit
use Rattle.plain_commands.specs.Answers.{refuses, too_long_line, IsAnswer, IsQuiet}
use Rattle.plain_commands.specs.Texts.{Texts}
use Rattle.plain_commands.specs.Commands.{wanted_run, wanted_check}
use Rattle.plain_commands.specs.declared.answer.Answer.{Answer}
use Rattle.plain_commands.proofs.WantedLemmas.{RunCase, RunLong, RunRefused, InputLong, RunDone, CheckCase, CheckLong, CheckRefused, CheckDone, run_case, check_case, run_too_long, run_refused, run_input_too_long, check_too_long, check_refused}
use Rattle.privateer_core.specs.Requests.{wanted_of, IsUsage}
use Rattle.privateer_core.specs.Laws.{IsCheck, RefusedBy, TooLong}

-- what is wanted
pub data Wanted (asked : Asked) (texts : Texts) (w : Answer) : Type 0 where
  Said : IsUsage asked → (line : Text) → w ≡ refuses exit.usage line → Wanted asked texts w
  Refused : (line : Text) → RefusedBy asked texts line → w ≡ refuses exit.refused line → Wanted asked texts w
  Long : (name : Text) → TooLong asked texts name → w ≡ refuses exit.too_long (too_long_line name) → Wanted asked texts w
  Done : w.status ≤ exit.spent → (IsCheck asked → w.status ≡ exit.ended) → Wanted asked texts w

of_run : (texts : Texts) (code input : Text) (budget : ℕ) (w : Answer) → RunCase texts code input w → Wanted (run code input budget) texts w
of_run texts code input budget w (RunLong long is) = Long code (inl (refl, long)) is
of_run texts code input budget w (RunRefused line bound why is) = Refused line (bound, why) is
of_run texts code input budget w (InputLong taken long is) = Long input (inr (refl, taken, long)) is
of_run texts code input budget w (RunDone low) = Done low (λ never. absurd never)

of_check : (texts : Texts) (code : Text) (w : Answer) → CheckCase texts code w → Wanted (check code) texts w
of_check texts code w (CheckLong long is) = Long code (refl, long) is
of_check texts code w (CheckRefused line bound why is) = Refused line (bound, why) is
of_check texts code w (CheckDone none) = Done (omega (arith, none)) (λ _. none)

pub wanted_case : (asked : Asked) (texts : Texts) (help : Text) → Wanted asked texts (wanted_of texts help asked)
wanted_case (usage line) texts help = Said tt line refl
wanted_case refused texts help = Said tt help refl
wanted_case lacking texts help = Done (omega arith) (λ never. absurd never)
wanted_case (run code input budget) texts help = of_run texts code input budget (wanted_run texts code input budget) (run_case texts code input budget)
wanted_case (check code) texts help = of_check texts code (wanted_check texts code) (check_case texts code)

-- ---- each where it is to come

pub said_so : (asked : Asked) (texts : Texts) (help : Text) → IsUsage asked → (wanted_of texts help asked).status ≡ exit.usage
said_so (usage line) texts help is = refl
said_so refused texts help is = refl
said_so lacking texts help is = absurd is
said_so (run code input budget) texts help is = absurd is
said_so (check code) texts help is = absurd is

pub refused_so : (asked : Asked) (texts : Texts) (help line : Text) → RefusedBy asked texts line → wanted_of texts help asked ≡ refuses exit.refused line
refused_so (usage said) texts help line is = absurd is
refused_so refused texts help line is = absurd is
refused_so lacking texts help line is = absurd is
refused_so (run code input budget) texts help line is = run_refused texts code input budget line is.0 is.1
refused_so (check code) texts help line is = check_refused texts code line is.0 is.1

long_run : (texts : Texts) (code input : Text) (budget : ℕ) (name : Text) → TooLong (run code input budget) texts name → wanted_run texts code input budget ≡ refuses exit.too_long (too_long_line name)
long_run texts code input budget name (inl is) = run_too_long texts code input budget is.1 ∙ ap (λ (n : Text). refuses exit.too_long (too_long_line n)) (sym is.0)
long_run texts code input budget name (inr is) = run_input_too_long texts code input budget is.1 is.2 ∙ ap (λ (n : Text). refuses exit.too_long (too_long_line n)) (sym is.0)

pub long_so : (asked : Asked) (texts : Texts) (help name : Text) → TooLong asked texts name → wanted_of texts help asked ≡ refuses exit.too_long (too_long_line name)
long_so (usage said) texts help name is = absurd is
long_so refused texts help name is = absurd is
long_so lacking texts help name is = absurd is
long_so (run code input budget) texts help name is = long_run texts code input budget name is
long_so (check code) texts help name is = check_too_long texts code is.1 ∙ ap (λ (n : Text). refuses exit.too_long (too_long_line n)) (sym is.0)

-- ---- what the status tells

module _ (asked : Asked) (texts : Texts) (w : Answer) where
  pub is_answer : Wanted asked texts w → IsAnswer w.status
  is_answer (Said why line is) = inl (omega (arith, ap (λ (a : Answer). a.status) is))
  is_answer (Refused line why is) = inl (omega (arith, ap (λ (a : Answer). a.status) is))
  is_answer (Long name why is) = inr (ap (λ (a : Answer). a.status) is)
  is_answer (Done low none) = inl (omega (arith, low))

  pub is_quiet : IsQuiet w.status → Wanted asked texts w → w.out ≡ []
  is_quiet quiet (Said why line is) = ap (λ (a : Answer). a.out) is
  is_quiet quiet (Refused line why is) = ap (λ (a : Answer). a.out) is
  is_quiet quiet (Long name why is) = ap (λ (a : Answer). a.out) is
  is_quiet quiet (Done low none) = absurd (grind arith)

  pub at_four : w.status ≡ exit.usage → Wanted asked texts w → IsUsage asked
  at_four four (Said why line is) = why
  at_four four (Refused line why is) = absurd (omega (arith, four, ap (λ (a : Answer). a.status) is))
  at_four four (Long name why is) = absurd (omega (arith, four, ap (λ (a : Answer). a.status) is))
  at_four four (Done low none) = absurd (omega (arith, four, low))

  pub at_three : w.status ≡ exit.refused → Wanted asked texts w → (line : Text) × RefusedBy asked texts line × (w.report ≡ line)
  at_three three (Said why line is) = absurd (omega (arith, three, ap (λ (a : Answer). a.status) is))
  at_three three (Refused line why is) = (line, why, ap (λ (a : Answer). a.report) is)
  at_three three (Long name why is) = absurd (omega (arith, three, ap (λ (a : Answer). a.status) is))
  at_three three (Done low none) = absurd (omega (arith, three, low))

  pub at_eight : w.status ≡ exit.too_long → Wanted asked texts w → (name : Text) × TooLong asked texts name × (w.report ≡ too_long_line name)
  at_eight eight (Said why line is) = absurd (omega (arith, eight, ap (λ (a : Answer). a.status) is))
  at_eight eight (Refused line why is) = absurd (omega (arith, eight, ap (λ (a : Answer). a.status) is))
  at_eight eight (Long name why is) = (name, why, ap (λ (a : Answer). a.report) is)
  at_eight eight (Done low none) = absurd (omega (arith, eight, low))

  -- a check ends with 0 where it is neither refused nor too long
  pub of_check_only : IsCheck asked → Wanted asked texts w → (w.status ≢ exit.trapped) × (w.status ≢ exit.spent)
  of_check_only is (Said why line same) = (λ one. omega (arith, one, ap (λ (a : Answer). a.status) same), λ two. omega (arith, two, ap (λ (a : Answer). a.status) same))
  of_check_only is (Refused line why same) = (λ one. omega (arith, one, ap (λ (a : Answer). a.status) same), λ two. omega (arith, two, ap (λ (a : Answer). a.status) same))
  of_check_only is (Long name why same) = (λ one. omega (arith, one, ap (λ (a : Answer). a.status) same), λ two. omega (arith, two, ap (λ (a : Answer). a.status) same))
  of_check_only is (Done low none) = (λ one. omega (arith, one, none is), λ two. omega (arith, two, none is))
