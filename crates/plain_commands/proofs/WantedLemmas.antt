-- What the commands answer, by the texts of their files.
use Rattle.std.proofs.Common.{◌≡◌, ◌≢◌, ◌<◌, ◌≤◌, ◌⊎◌, inl, inr, ℕ, refl, sym, ◌∙◌, ap, subst, [], length, Option, Some, None, option_map, Result, Ok, Err, Bool, true, false, nat_lt, arith}
use Rattle.std.proofs.lemmas.Bool.{ltb-false}
use Rattle.pv_base.specs.Outside.{Text}
use Rattle.ir_lex.specs.declared.token.ReadError.{ReadError}
use Rattle.ir_grammar.specs.Modules.{ModuleV}
use Rattle.ir_grammar.specs.Texts.{read_of}
use Rattle.ir_rules.specs.declared.fault.CheckError.{CheckError}
use Rattle.ir_rules.specs.Faults.{first_fault}
use Rattle.seq_machine.specs.declared.state.End.{End}
use Rattle.seq_machine.specs.declared.state.End.TheVariants.{Ended, Trapped, Spent}
use Rattle.code_laws.specs.Runs.{module_outcome}
use Rattle.run_report.specs.Refusals.{refused_module, refused_check}
use Rattle.pv_base.specs.Limits.{file_limit}
use Rattle.plain_commands.specs.Status as exit
use Rattle.plain_commands.specs.Answers.{refuses, too_long_line}
use Rattle.plain_commands.specs.Texts.{Texts}
use Rattle.plain_commands.specs.Commands.{IsTaken, run_module, ran, status_of, accepted, answer_of, wanted_run, wanted_check}
use Rattle.plain_commands.specs.Loading.{refusal_by, refusal_of}
use Rattle.plain_commands.specs.declared.answer.Answer.{Answer}
use Rattle.plain_commands.proofs.FileLemmas.{with_short, with_long}
use Rattle.plain_commands.proofs.CommandLemmas.{answer_refused, answer_accepted, none_refused}

-- the text of a module is too long, is refused, or is that of a module that breaks no rule
pub data TextCase (text : Text) : Type 0 where
  LongText : file_limit < length text → TextCase text
  FaultyText : (line : Text) → length text ≤ file_limit → refusal_of text ≡ Some line → TextCase text
  TakenText : (v : ModuleV) → length text ≤ file_limit → read_of text ≡ Ok v → first_fault v ≡ None → TextCase text

bounded : (text : Text) → (file_limit < length text) ⊎ (length text ≤ file_limit)
bounded text = grind arith

short_case : (text : Text) → length text ≤ file_limit → (read : Result ModuleV ReadError) → read_of text ≡ read → TextCase text
short_case text bound (Err e) is = FaultyText (refused_module e) bound (ap refusal_by is)
short_case text bound (Ok v) is = by_fault (first_fault v) refl
  where
    by_fault : (o : Option CheckError) → first_fault v ≡ o → TextCase text
    by_fault None none = TakenText v bound is none
    by_fault (Some f) some = FaultyText (refused_check v f) bound (ap refusal_by is ∙ ap (option_map (refused_check v)) some)

pub text_case : (text : Text) → TextCase text
text_case text = elim (bounded text) [ inl long ↦ LongText long | inr bound ↦ short_case text bound (read_of text) refl ]

-- a text that is accepted is that of a module
pub record IsModule (text : Text) : Type 0 where
  pub tree : ModuleV
  pub read : read_of text ≡ Ok tree
  pub none : first_fault tree ≡ None

some_none : (A : Type 0) (x : A) (o : Option A) → o ≡ Some x → o ≡ None → ⊥
some_none A x o some none = absurd cc

taken_module : (text : Text) → IsTaken text → TextCase text → IsModule text
taken_module text is (LongText long) = absurd (omega (arith, is.0))
taken_module text is (FaultyText line bound some) = absurd (some_none Text line (refusal_of text) some is.1)
taken_module text is (TakenText v bound read none) = record { tree = v; read = read; none = none }

ended_low : (e : End) → status_of e ≤ exit.spent
ended_low (Ended v) = omega arith
ended_low (Trapped t site) = omega arith
ended_low Spent = omega arith

low_same : (w a : Answer) → w ≡ a → a.status ≤ exit.spent → w.status ≤ exit.spent
low_same w a is low = subst (λ (x : Answer). x.status ≤ exit.spent) (sym is) low

-- ---- run

-- what is wanted of a run
pub data RunCase (texts : Texts) (code input : Text) (w : Answer) : Type 0 where
  RunLong : file_limit < length texts.code → w ≡ refuses exit.too_long (too_long_line code) → RunCase texts code input w
  RunRefused : (line : Text) → length texts.code ≤ file_limit → refusal_of texts.code ≡ Some line → w ≡ refuses exit.refused line → RunCase texts code input w
  InputLong : IsTaken texts.code → file_limit < length texts.input → w ≡ refuses exit.too_long (too_long_line input) → RunCase texts code input w
  RunDone : w.status ≤ exit.spent → RunCase texts code input w

module _ (texts : Texts) (code input : Text) (budget : ℕ) where
  pub run_too_long : file_limit < length texts.code → wanted_run texts code input budget ≡ refuses exit.too_long (too_long_line code)
  run_too_long long = with_long file_limit texts.code code (answer_of (read_of texts.code) (run_module texts.input input budget)) long

  pub run_refused : (line : Text) → length texts.code ≤ file_limit → refusal_of texts.code ≡ Some line → wanted_run texts code input budget ≡ refuses exit.refused line
  run_refused line bound is =
      with_short file_limit texts.code code (answer_of (read_of texts.code) (run_module texts.input input budget)) bound
      ∙ answer_refused (read_of texts.code) (run_module texts.input input budget) line is

  run_taken : (v : ModuleV) → length texts.code ≤ file_limit → read_of texts.code ≡ Ok v → first_fault v ≡ None
      → wanted_run texts code input budget ≡ run_module texts.input input budget v
  run_taken v bound is none =
      with_short file_limit texts.code code (answer_of (read_of texts.code) (run_module texts.input input budget)) bound
      ∙ answer_accepted (read_of texts.code) (run_module texts.input input budget) v is none

  long_input : (v : ModuleV) → file_limit < length texts.input → run_module texts.input input budget v ≡ refuses exit.too_long (too_long_line input)
  long_input v long = with_long file_limit texts.input input (ran v (module_outcome v texts.input budget)) long

  pub run_input_too_long : IsTaken texts.code → file_limit < length texts.input → wanted_run texts code input budget ≡ refuses exit.too_long (too_long_line input)
  run_input_too_long is long =
      let m = taken_module texts.code is (text_case texts.code) in
      run_taken m.tree is.0 m.read m.none ∙ long_input m.tree long

  taken_case : (v : ModuleV) → length texts.code ≤ file_limit → read_of texts.code ≡ Ok v → first_fault v ≡ None
      → (file_limit < length texts.input) ⊎ (length texts.input ≤ file_limit) → RunCase texts code input (wanted_run texts code input budget)
  taken_case v bound is none (inl long) =
      InputLong (bound, none_refused (read_of texts.code) v is none) long (run_taken v bound is none ∙ long_input v long)
  taken_case v bound is none (inr short) =
      let o = module_outcome v texts.input budget in
      RunDone (low_same (wanted_run texts code input budget) (ran v o) (run_taken v bound is none ∙ with_short file_limit texts.input input (ran v o) short) (ended_low o.end))

  run_case_of : TextCase texts.code → RunCase texts code input (wanted_run texts code input budget)
  run_case_of (LongText long) = RunLong long (run_too_long long)
  run_case_of (FaultyText line bound is) = RunRefused line bound is (run_refused line bound is)
  run_case_of (TakenText v bound is none) = taken_case v bound is none (bounded texts.input)

  pub run_case : RunCase texts code input (wanted_run texts code input budget)
  run_case = run_case_of (text_case texts.code)

-- ---- check

-- what is wanted of a check
pub data CheckCase (texts : Texts) (code : Text) (w : Answer) : Type 0 where
  CheckLong : file_limit < length texts.code → w ≡ refuses exit.too_long (too_long_line code) → CheckCase texts code w
  CheckRefused : (line : Text) → length texts.code ≤ file_limit → refusal_of texts.code ≡ Some line → w ≡ refuses exit.refused line → CheckCase texts code w
  CheckDone : w.status ≡ exit.ended → CheckCase texts code w

module _ (texts : Texts) (code : Text) where
  pub check_too_long : file_limit < length texts.code → wanted_check texts code ≡ refuses exit.too_long (too_long_line code)
  check_too_long long = with_long file_limit texts.code code (answer_of (read_of texts.code) accepted) long

  pub check_refused : (line : Text) → length texts.code ≤ file_limit → refusal_of texts.code ≡ Some line → wanted_check texts code ≡ refuses exit.refused line
  check_refused line bound is =
      with_short file_limit texts.code code (answer_of (read_of texts.code) accepted) bound ∙ answer_refused (read_of texts.code) accepted line is

  check_taken : (v : ModuleV) → length texts.code ≤ file_limit → read_of texts.code ≡ Ok v → first_fault v ≡ None → wanted_check texts code ≡ accepted v
  check_taken v bound is none =
      with_short file_limit texts.code code (answer_of (read_of texts.code) accepted) bound ∙ answer_accepted (read_of texts.code) accepted v is none

  check_case_of : TextCase texts.code → CheckCase texts code (wanted_check texts code)
  check_case_of (LongText long) = CheckLong long (check_too_long long)
  check_case_of (FaultyText line bound is) = CheckRefused line bound is (check_refused line bound is)
  check_case_of (TakenText v bound is none) = CheckDone (ap (λ (a : Answer). a.status) (check_taken v bound is none))

  pub check_case : CheckCase texts code (wanted_check texts code)
  check_case = check_case_of (text_case texts.code)
