-- What the commands answer, from how the text of the module is taken.
use Rattle.std.proofs.Common.{◌≡◌, ◌≤◌, ◌⊎◌, inl, inr, ℕ, refl, sym, ◌∙◌, ap, subst, [], length, Option, Some, None, option_map, Result, Ok, Err, IfOk, true}
use Rattle.pv_base.specs.Outside.{Text}
use Rattle.pv_base.specs.declared.want.Memory.{Memory}
use Rattle.ir_lex.specs.declared.token.ReadError.{ReadError}
use Rattle.ir_tree.specs.Modules.{Items}
use Rattle.ir_tree.specs.Table.{IsTable}
use Rattle.ir_grammar.specs.Modules.{ModuleV, shown_module}
use Rattle.ir_grammar.specs.Texts.{read_of}
use Rattle.ir_rules.specs.declared.fault.CheckError.{CheckError}
use Rattle.ir_rules.specs.Faults.{first_fault}
use Rattle.ir_rules.specs.Numbering.{is_within}
use Rattle.seq_machine.specs.declared.state.Outcome.{Outcome}
use Rattle.seq_run.specs.Outcomes.{outcome_of_run}
use Rattle.run_report.specs.Report.{report_text}
use Rattle.run_report.specs.Refusals.{refused_module, refused_check, accepted_text}
use Rattle.code_laws.specs.Runs.{module_outcome}
use Rattle.code_laws.proofs.Running.{outcome_same}
use Rattle.pv_base.specs.Limits.{file_limit}
use Rattle.plain_commands.specs.Status as exit
use Rattle.plain_commands.specs.Answers.{gives, IsReadFault, ReadsFile, refuses}
use Rattle.plain_commands.specs.Texts.{Texts, Tells, Answers}
use Rattle.plain_commands.specs.Commands.{RunsModule, RunsLoaded, ChecksLoaded, IsTaken, TellsRun, TellsCheck, RunReads, CheckReads, run_module, ran, status_of, accepted, answer_of, unless_fault, wanted_run, wanted_check}
use Rattle.plain_commands.specs.Loading.{IsLoaded, refusal_by, refusal_of}
use Rattle.plain_commands.specs.declared.answer.Answer.{Answer}
use Rattle.plain_commands.specs.declared.loading.Loaded.{Loaded}
use Rattle.plain_commands.specs.declared.loading.Loaded.TheVariants.{Accepted, Refused}
use Rattle.plain_commands.proofs.FileLemmas.{with_short, with_long, some_text, long_text}

-- ---- what a text was taken for

pub answer_refused : (read : Result ModuleV ReadError) (next : ModuleV → Answer) (line : Text) → refusal_by read ≡ Some line → answer_of read next ≡ refuses exit.refused line
answer_refused (Err e) next line is = let same : refused_module e ≡ line = cc in ap (refuses exit.refused) same
answer_refused (Ok v) next line is = by_fault (first_fault v) is
  where
    by_fault : (o : Option CheckError) → option_map (refused_check v) o ≡ Some line → unless_fault v o (next v) ≡ refuses exit.refused line
    by_fault None e = absurd cc
    by_fault (Some f) e = let same : refused_check v f ≡ line = cc in ap (refuses exit.refused) same

pub answer_accepted : (read : Result ModuleV ReadError) (next : ModuleV → Answer) (v : ModuleV) → read ≡ Ok v → first_fault v ≡ None → answer_of read next ≡ next v
answer_accepted read next v is none = rw (is, none) refl

pub none_refused : (read : Result ModuleV ReadError) (v : ModuleV) → read ≡ Ok v → first_fault v ≡ None → refusal_by read ≡ None
none_refused read v is none = rw (is, none) refl

-- ---- the run of a module

module _ (content : Text → Option Text) (input : Text) (budget : ℕ) (v : ModuleV) (before after : ℕ) where
  -- an input that is not handed back
  pub input_refused : (a : Answer) → ReadsFile (content input) file_limit input before after (Err a) → RunsModule content input budget v before after a
  input_refused a (inl fault) = let t = some_text (content input) in record { text = t.text; told = t.is; is = inr fault }
  input_refused a (inr long) =
      let t = long_text file_limit (content input) long.2 in
      record {
        text = t.text;
        told = t.is;
        is = inl (long.0, long.1 ∙ sym (with_long file_limit t.text input (ran v (module_outcome v t.text budget)) t.longer));
      }

  -- an input that is run on
  pub input_read : (text given : Text) (r : Result Answer Memory) → given ≡ text → ReadsFile (content input) file_limit input before after (Ok text)
      → IfOk r (λ a. a ≡ ran v (module_outcome v given budget)) → IfOk r (RunsModule content input budget v before after)
  input_read text given (Err e) same reads is = tt
  input_read text given (Ok a) same reads is = record {
    text = text;
    told = reads.2;
    is = inl (reads.0, is ∙ ap (λ (t : Text). ran v (module_outcome v t budget)) same ∙ sym (with_short file_limit text input (ran v (module_outcome v text budget)) reads.1));
  }

-- ---- run

-- the texts of a run: that of the module, and one that the files tell of the input or any
abbrev texts_of : (Text → Option Text) → Text → Text → Texts
texts_of content input text = record { code = text; input = (some_text (content input)).text }

-- what a run answers
abbrev pub RunAnswers : (Text → Option Text) → Text → Text → ℕ → ℕ → ℕ → Answer → Type 0
RunAnswers content code input budget before after a =
    Answers (TellsRun content code input) (λ t. wanted_run t code input budget) (RunReads code input) before after a

-- what a check answers
abbrev pub CheckAnswers : (Text → Option Text) → Text → ℕ → ℕ → Answer → Type 0
CheckAnswers content code before after a =
    Answers (TellsCheck content code) (λ t. wanted_check t code) (CheckReads code) before after a

module _ (content : Text → Option Text) (code input : Text) (budget : ℕ) where
  -- a module that is not handed back
  pub code_refused : (before after : ℕ) (a : Answer) → ReadsFile (content code) file_limit code before after (Err a) → RunAnswers content code input budget before after a
  code_refused before after a (inl fault) =
      let t = some_text (content code) in
      record {
        texts = texts_of content input t.text;
        told = (t.is, (some_text (content input)).is);
        is = inr (record { name = fault.name; may = inl fault.may; is = fault.is; rose = fault.rose });
      }
  code_refused before after a (inr long) =
      let t = long_text file_limit (content code) long.2 in
      record {
        texts = texts_of content input t.text;
        told = (t.is, (some_text (content input)).is);
        is = inl (long.0, long.1 ∙ sym (with_long file_limit t.text code (answer_of (read_of t.text) (run_module (some_text (content input)).text input budget)) t.longer));
      }

  -- what is wanted of a module that is refused, and of one that is accepted
  run_refused : (text given line : Text) → length text ≤ file_limit → refusal_of text ≡ Some line
      → wanted_run (record { code = text; input = given }) code input budget ≡ refuses exit.refused line
  run_refused text given line bound is =
      with_short file_limit text code (answer_of (read_of text) (run_module given input budget)) bound ∙ answer_refused (read_of text) (run_module given input budget) line is

  run_accepted : (text given : Text) (v : ModuleV) → length text ≤ file_limit → read_of text ≡ Ok v → first_fault v ≡ None
      → wanted_run (record { code = text; input = given }) code input budget ≡ run_module given input budget v
  run_accepted text given v bound is none =
      with_short file_limit text code (answer_of (read_of text) (run_module given input budget)) bound ∙ answer_accepted (read_of text) (run_module given input budget) v is none

  -- a module that was loaded
  run_loaded : (before after : ℕ) (text : Text) (loaded : Loaded) (a : Answer) → length text ≤ file_limit → Tells content code text → IsLoaded text loaded
      → RunsLoaded content input budget loaded before after a → RunAnswers content code input budget before after a
  run_loaded before after text (Refused line) a bound tells held runs = record {
    texts = texts_of content input text;
    told = (tells, (some_text (content input)).is);
    is = inl (runs.0, runs.1 ∙ sym (run_refused text (some_text (content input)).text line bound held));
  }
  run_loaded before after text (Accepted m) a bound tells held runs =
      let same = run_accepted text runs.text (shown_module m) bound held.0 held.1 in
      record {
        texts = record { code = text; input = runs.text };
        told = (tells, runs.told);
        is = elim runs.is [
          | inl given ↦ inl (given.0, given.1 ∙ sym same)
          | inr fault ↦ inr (record {
            name = fault.name;
            may = inr (fault.may, (bound, none_refused (read_of text) (shown_module m) held.0 held.1));
            is = fault.is;
            rose = fault.rose;
          })
        ];
      }

  -- the answer of a run, behind the read of the module
  pub run_answered : (content' : Text → Option Text) (before mid after : ℕ) (text : Text) (loaded : Loaded) (r : Result Answer Memory)
      → content' ≡ content → ReadsFile (content code) file_limit code before mid (Ok text) → IsLoaded text loaded
      → IfOk r (RunsLoaded content' input budget loaded mid after) → IfOk r (RunAnswers content code input budget before after)
  run_answered content' before mid after text loaded (Err e) same reads held runs = tt
  run_answered content' before mid after text loaded (Ok a) same reads held runs =
      run_loaded before after text loaded a reads.1 reads.2 held
      (subst (λ (n : ℕ). RunsLoaded content input budget loaded n after a) reads.0
      (subst (λ (files : Text → Option Text). RunsLoaded files input budget loaded mid after a) same runs))

-- ---- check

module _ (content : Text → Option Text) (code : Text) where
  -- a module that is not handed back
  pub check_refused : (before after : ℕ) (a : Answer) → ReadsFile (content code) file_limit code before after (Err a) → CheckAnswers content code before after a
  check_refused before after a (inl fault) =
      let t = some_text (content code) in
      record { texts = record { code = t.text; input = [] }; told = t.is; is = inr fault }
  check_refused before after a (inr long) =
      let t = long_text file_limit (content code) long.2 in
      record {
        texts = record { code = t.text; input = [] };
        told = t.is;
        is = inl (long.0, long.1 ∙ sym (with_long file_limit t.text code (answer_of (read_of t.text) accepted) t.longer));
      }

  -- a module that was loaded is answered what is wanted
  check_wanted : (text : Text) (loaded : Loaded) (a : Answer) → IsLoaded text loaded → ChecksLoaded loaded a → a ≡ answer_of (read_of text) accepted
  check_wanted text (Accepted m) a held checks = checks ∙ sym (answer_accepted (read_of text) accepted (shown_module m) held.0 held.1)
  check_wanted text (Refused line) a held checks = checks ∙ sym (answer_refused (read_of text) accepted line held)

  -- the answer of a check, behind the read of the module
  pub check_answered : (before after : ℕ) (text : Text) (loaded : Loaded) (r : Result Answer Memory)
      → ReadsFile (content code) file_limit code before after (Ok text) → IsLoaded text loaded
      → IfOk r (ChecksLoaded loaded) → IfOk r (CheckAnswers content code before after)
  check_answered before after text loaded (Err e) reads held checks = tt
  check_answered before after text loaded (Ok a) reads held checks = record {
    texts = record { code = text; input = [] };
    told = reads.2;
    is = inl (reads.0, check_wanted text loaded a held checks ∙ sym (with_short file_limit text code (answer_of (read_of text) accepted) reads.1));
  }

-- the answer to the check of an accepted module
pub checks_is : (loaded : Loaded) (m n : Items) (out report : Text) → loaded ≡ Accepted m → n ≡ m → out ≡ accepted_text (shown_module n) → report ≡ []
    → ChecksLoaded loaded (gives exit.ended out report)
checks_is loaded m n out report is same told none = rw (is, told, same, none) refl

-- the answer of a run, over the module written out
pub ran_is : (m n : Items) (input : Text) (budget status : ℕ) (o : Outcome) (report : Text) → IsTable m.names → is_within m ≡ true → o ≡ outcome_of_run m input budget → status ≡ status_of o.end
    → n ≡ m → report ≡ report_text (shown_module n) o → gives status o.output report ≡ ran (shown_module m) (module_outcome (shown_module m) input budget)
ran_is m n input budget status o report table within is ends same told =
    let left : o ≡ module_outcome (shown_module m) input budget = is ∙ outcome_same m input budget table within in
    rw (ends, told, same) (ap (ran (shown_module m)) left)
