-- What follows from how the top call ends.
use Rattle.std.proofs.Common.{◌≡◌, ◌≢◌, ◌<◌, ◌≤◌, ◌⊎◌, inl, inr, ℕ, refl, sym, ◌∙◌, ap, subst, [], Option, arith}
use Rattle.pv_base.specs.Outside.{Text, Rose, AppendsFront, appended}
use Rattle.command_words.specs.Requests.{Asked, usage, refused, lacking, run, check, IsAnswered}
use Rattle.plain_commands.specs.Status as exit
use Rattle.plain_commands.specs.Answers.{gives, IsAnswer, IsQuiet, IsGiven, IsReadFault, fault_line, too_long_line}
use Rattle.plain_commands.specs.Texts.{Texts}
use Rattle.plain_commands.specs.declared.answer.Answer.{Answer}
use Rattle.plain_commands.proofs.FileLemmas.{some_text}
use Rattle.privateer_core.specs.Delivering.{SinkSeen, Delivers, IsReported}
use Rattle.privateer_core.specs.Requests.{AnswersWords, IsUsage, wanted_of, TellsTexts, FaultAt}
use Rattle.privateer_core.specs.Ends.{Seen, TopEnds}
use Rattle.privateer_core.specs.Laws.{IsFaulty, IsCheck, RefusedBy, TooLong, Reports, Calm, TopSays, TopLaws}
use Rattle.privateer_core.proofs.DeliverLemmas.{same_after_none}
use Rattle.privateer_core.proofs.WantedLemmas.{Wanted, wanted_case, said_so, refused_so, long_so, is_answer, is_quiet, at_four, at_three, at_eight, of_check_only}

no_answer : (end : ℕ) → IsAnswer end → IsFaulty end → ⊥
no_answer end answer is = grind arith

reported_of : (end : ℕ) → IsAnswer end → IsReported end
reported_of end answer = grind arith

below_nine : (end : ℕ) → IsAnswer end → end ≤ exit.too_long
below_nine end answer = grind arith

apart : (n : ℕ) → (n ≡ 7) ⊎ ((n < 7) ⊎ (7 < n))
apart n = grind arith

-- a number is 7 or is not
seven_or : (n : ℕ) → (n ≡ 7) ⊎ (n ≢ 7)
seven_or n = elim (apart n) [ inl seven ↦ inl seven | inr other ↦ inr (λ seven. elim other [ inl less ↦ omega arith | inr more ↦ omega arith ]) ]

quiet_not : (end : ℕ) → IsQuiet end → (end ≡ exit.write_fault) ⊎ (end ≡ exit.memory) → ⊥
quiet_not end quiet is = grind arith

-- words that are refused read no file
no_read : (asked : Asked) (texts : Texts) (name : Text) → IsUsage asked → FaultAt asked texts name → ⊥
no_read (usage line) texts name is may = may
no_read refused texts name is may = may
no_read lacking texts name is may = may
no_read (run code input budget) texts name is may = is
no_read (check code) texts name is may = is

-- ---- what holds at the end of the call

-- texts that are what the files tell
record SomeTexts (content : Text → Option Text) (asked : Asked) : Type 0 where
  pub texts : Texts
  pub told : TellsTexts content asked texts

no_texts : Texts
no_texts = record { code = []; input = [] }

some_texts : (content : Text → Option Text) (asked : Asked) → SomeTexts content asked
some_texts content (usage line) = record { texts = no_texts; told = tt }
some_texts content refused = record { texts = no_texts; told = tt }
some_texts content lacking = record { texts = no_texts; told = tt }
some_texts content (run code input budget) =
    let c = some_text (content code) in
    let i = some_text (content input) in
    record { texts = record { code = c.text; input = i.text }; told = (c.is, i.is) }
some_texts content (check code) =
    let c = some_text (content code) in
    record { texts = record { code = c.text; input = [] }; told = c.is }

given_status : (asked : Asked) (texts : Texts) (help : Text) (before after : ℕ) (a : Answer)
    → IsGiven (wanted_of texts help asked) (FaultAt asked texts) before after a → IsAnswer a.status ⊎ (a.status ≡ exit.read_fault)
given_status asked texts help before after a (inl given) =
    inl (subst (λ (x : Answer). IsAnswer x.status) (sym given.1) (is_answer asked texts (wanted_of texts help asked) (wanted_case asked texts help)))
given_status asked texts help before after a (inr fault) = inr (ap (λ (x : Answer). x.status) fault.is)

is_neither : (status : ℕ) → IsAnswer status ⊎ (status ≡ exit.read_fault) → (status ≡ exit.write_fault) ⊎ (status ≡ exit.memory) → ⊥
is_neither status is other = grind arith

-- what is given is neither the status of a write that failed nor that of want of memory
pub not_six : (content : Text → Option Text) (asked : Asked) (before after : ℕ) (a : Answer) → AnswersWords content asked before after a → a.status ≢ exit.write_fault
not_six content asked before after a h six = is_neither a.status (given_status asked h.answers.texts h.help before after a h.answers.is) (inl six)

not_seven : (content : Text → Option Text) (asked : Asked) (before after end : ℕ) (a : Answer) → AnswersWords content asked before after a
    → (end ≡ a.status) ⊎ (end ≡ exit.write_fault) → end ≢ exit.memory
not_seven content asked before after end a h (inl same) seven =
    is_neither a.status (given_status asked h.answers.texts h.help before after a h.answers.is) (inr (sym same ∙ seven))
not_seven content asked before after end a h (inr six) seven = omega arith

-- an answer that is delivered ends the call
pub ends_given : (asked : Asked) (before after : Seen) (end : ℕ) (a : Answer)
    → AnswersWords before.files.content asked before.files.faults after.files.faults a → Delivers a end before.out after.out before.report after.report
    → IsAnswered asked → after.files.content ≡ before.files.content → before.files.faults ≤ after.files.faults → TopEnds asked before after end
ends_given asked before after end a given delivers answered content later = record {
  texts = given.answers.texts;
  told = given.answers.told;
  help = given.help;
  given = a;
  is_given = λ never. given.answers.is;
  delivered = λ never. delivers;
  memory = λ seven. absurd (not_seven before.files.content asked before.files.faults after.files.faults end a given delivers.status seven);
  answered = inr answered;
  content = content;
  later = later;
}

-- and so does want of memory, where nothing was put
pub ends_without : (asked : Asked) (before after : Seen) → after.out ≡ before.out → after.report ≡ before.report
    → after.files.content ≡ before.files.content → before.files.faults ≤ after.files.faults → TopEnds asked before after exit.memory
ends_without asked before after out report content later =
    let some = some_texts before.files.content asked in
    record {
      texts = some.texts;
      told = some.told;
      help = [];
      given = gives exit.memory [] [];
      is_given = λ never. absurd (never refl);
      delivered = λ never. absurd (never refl);
      memory = λ _. (out, report);
      answered = inl refl;
      content = content;
      later = later;
    }

-- ---- the laws

module _ (asked : Asked) (before after : Seen) (end : ℕ) (h : TopEnds asked before after end) where
  abbrev wanted : Answer
  wanted = wanted_of h.texts h.help asked

  abbrev IsFault : Type 0
  IsFault = IsReadFault (FaultAt asked h.texts) before.files.faults after.files.faults h.given

  abbrev Is : Type 0
  Is = IsGiven (wanted_of h.texts h.help asked) (FaultAt asked h.texts) before.files.faults after.files.faults h.given

  the_case : Wanted asked h.texts (wanted_of h.texts h.help asked)
  the_case = wanted_case asked h.texts h.help

  fault_status : IsFault → h.given.status ≡ exit.read_fault
  fault_status fault = ap (λ (a : Answer). a.status) fault.is

  -- an end that is an answer is that of what is wanted
  by_given : IsAnswer end → (end ≡ h.given.status) ⊎ (end ≡ exit.write_fault) → Is → (h.given ≡ wanted) × (end ≡ wanted.status)
  by_given answer (inl e) (inl given) = (given.1, e ∙ ap (λ (a : Answer). a.status) given.1)
  by_given answer (inl e) (inr fault) = absurd (no_answer end answer (inl (e ∙ fault_status fault)))
  by_given answer (inr six) is = absurd (no_answer end answer (inr (inl six)))

  never_seven : IsAnswer end → end ≢ exit.memory
  never_seven answer seven = no_answer end answer (inr (inr seven))

  is_wanted : IsAnswer end → (h.given ≡ wanted) × (end ≡ wanted.status)
  is_wanted answer = by_given answer (h.delivered (never_seven answer)).status (h.is_given (never_seven answer))

  reports : IsAnswer end → (line : Text) → wanted.report ≡ line → Reports before after line
  reports answer line is =
      (h.delivered (never_seven answer)).report (reported_of end answer)
      ∙ ap (λ (a : Answer). appended before.report.held a.report) (is_wanted answer).0 ∙ ap (appended before.report.held) is

  -- where one status is wanted, it comes, but for faults
  ends_by : (k : ℕ) → wanted.status ≡ k → (end ≡ h.given.status) ⊎ (end ≡ exit.write_fault) → Is → (end ≡ k) ⊎ IsFaulty end
  ends_by k is (inl e) (inl given) = inl (e ∙ ap (λ (a : Answer). a.status) given.1 ∙ is)
  ends_by k is (inl e) (inr fault) = inr (inl (e ∙ fault_status fault))
  ends_by k is (inr six) given = inr (inr (inl six))

  ends_as : (k : ℕ) → wanted.status ≡ k → (end ≡ k) ⊎ IsFaulty end
  ends_as k is = elim (seven_or end) [
    | inl seven ↦ inr (inr (inr seven))
    | inr never ↦ ends_by k is (h.delivered never).status (h.is_given never)
  ]

  at_most : (end ≡ h.given.status) ⊎ (end ≡ exit.write_fault) → Is → end ≤ exit.too_long
  at_most (inl e) (inl given) = below_nine end (subst IsAnswer (sym (e ∙ ap (λ (a : Answer). a.status) given.1)) (is_answer asked h.texts wanted the_case))
  at_most (inl e) (inr fault) = omega (arith, e, fault_status fault)
  at_most (inr six) is = omega arith

  statuses : end ≤ exit.too_long
  statuses = elim (seven_or end) [ inl seven ↦ omega arith | inr never ↦ at_most (h.delivered never).status (h.is_given never) ]

  refuses_so : end ≡ exit.refused → (line : Text) × RefusedBy asked h.texts line × Reports before after line
  refuses_so three =
      let answer : IsAnswer end = inl (omega arith) in
      let t = at_three asked h.texts wanted (sym (is_wanted answer).1 ∙ three) the_case in
      (t.0, t.1, reports answer t.0 t.2)

  too_long_so : end ≡ exit.too_long → (name : Text) × TooLong asked h.texts name × Reports before after (too_long_line name)
  too_long_so eight =
      let answer : IsAnswer end = inr eight in
      let t = at_eight asked h.texts wanted (sym (is_wanted answer).1 ∙ eight) the_case in
      (t.0, t.1, reports answer (too_long_line t.0) t.2)

  usage_so : end ≡ exit.usage → IsUsage asked
  usage_so four = at_four asked h.texts wanted (sym (is_wanted (inl (omega arith))).1 ∙ four) the_case

  checked_one : IsCheck asked → end ≢ exit.trapped
  checked_one is one = (of_check_only asked h.texts wanted is the_case).0 (sym (is_wanted (inl (omega arith))).1 ∙ one)

  checked_two : IsCheck asked → end ≢ exit.spent
  checked_two is two = (of_check_only asked h.texts wanted is the_case).1 (sym (is_wanted (inl (omega arith))).1 ∙ two)

  -- the read that failed
  fault_by : end ≡ exit.read_fault → (end ≡ h.given.status) ⊎ (end ≡ exit.write_fault) → Is → IsFault
  fault_by five (inl e) (inl given) =
      absurd (no_answer end (subst IsAnswer (sym (e ∙ ap (λ (a : Answer). a.status) given.1)) (is_answer asked h.texts wanted the_case)) (inl five))
  fault_by five (inl e) (inr fault) = fault
  fault_by five (inr six) is = absurd (omega arith)

  five_not : end ≡ exit.read_fault → end ≢ exit.memory
  five_not five seven = omega arith

  the_fault : end ≡ exit.read_fault → IsFault
  the_fault five = fault_by five (h.delivered (five_not five)).status (h.is_given (five_not five))

  fault_reports : end ≡ exit.read_fault → (name : Text) × FaultAt asked h.texts name × Reports before after (fault_line name)
  fault_reports five =
      let fault = the_fault five in
      (fault.name, fault.may, (h.delivered (five_not five)).report (inl (omega arith)) ∙ ap (λ (a : Answer). appended before.report.held a.report) fault.is)

  told_by : before.files.faults < after.files.faults → (end ≡ h.given.status) ⊎ (end ≡ exit.write_fault) → Is → IsFaulty end
  told_by rose (inl e) (inl given) = absurd (omega (arith, rose, given.0))
  told_by rose (inl e) (inr fault) = inl (e ∙ fault_status fault)
  told_by rose (inr six) is = inr (inl six)

  read_told : before.files.faults < after.files.faults → IsFaulty end
  read_told rose = elim (seven_or end) [ inl seven ↦ inr (inr seven) | inr never ↦ told_by rose (h.delivered never).status (h.is_given never) ]

  said_by : IsUsage asked → (end ≡ exit.usage) ⊎ IsFaulty end → (end ≡ exit.usage) ⊎ (end ≡ exit.write_fault) ⊎ (end ≡ exit.memory)
  said_by is (inl four) = inl four
  said_by is (inr (inl five)) = let fault = the_fault five in absurd (no_read asked h.texts fault.name is fault.may)
  said_by is (inr (inr other)) = inr other

  usage_told : IsUsage asked → (end ≡ exit.usage) ⊎ (end ≡ exit.write_fault) ⊎ (end ≡ exit.memory)
  usage_told is = said_by is (ends_as exit.usage (said_so asked h.texts h.help is))

  -- an answer that puts nothing out leaves the output
  quiet_by : IsQuiet end → (end ≡ h.given.status) ⊎ (end ≡ exit.write_fault) → Is → h.given.out ≡ []
  quiet_by quiet (inl e) (inl given) =
      ap (λ (a : Answer). a.out) given.1 ∙ is_quiet asked h.texts wanted (subst IsQuiet (e ∙ ap (λ (a : Answer). a.status) given.1) quiet) the_case
  quiet_by quiet (inl e) (inr fault) = ap (λ (a : Answer). a.out) fault.is
  quiet_by quiet (inr six) is = absurd (quiet_not end quiet (inl six))

  quiet_leaves : IsQuiet end → after.out.held ≡ before.out.held
  quiet_leaves quiet =
      let never : end ≢ exit.memory = λ seven. quiet_not end quiet (inr seven) in
      same_after_none before.out.held after.out.held h.given.out (quiet_by quiet (h.delivered never).status (h.is_given never)) (h.delivered never).out_front

  abbrev DeliversThis : Answer → Type 0
  DeliversThis a = Delivers a end before.out after.out before.report after.report

  delivers_by : end ≢ exit.read_fault → DeliversThis h.given → Is → ((end ≡ exit.write_fault) × (after.out.held ≡ before.out.held)) ⊎ DeliversThis wanted
  delivers_by five d (inl given) = inr (subst (λ (a : Answer). DeliversThis a) given.1 d)
  delivers_by five d (inr fault) = elim d.status [
    | inl e ↦ absurd (five (e ∙ fault_status fault))
    | inr six ↦ inl (six, same_after_none before.out.held after.out.held h.given.out (ap (λ (a : Answer). a.out) fault.is) d.out_front)
  ]

  front_by : ¬ Rose before.files.faults after.files.faults → DeliversThis h.given → Is → AppendsFront before.report.held after.report.held wanted.report
  front_by calm d (inl given) = subst (λ (a : Answer). AppendsFront before.report.held after.report.held a.report) given.1 d.report_front
  front_by calm d (inr fault) = absurd (calm fault.rose)

  six_not : end ≡ exit.write_fault → end ≢ exit.memory
  six_not six seven = omega arith

  write_fault : end ≡ exit.write_fault → Rose before.out.faults after.out.faults ⊎ Rose before.report.faults after.report.faults
  write_fault six = (h.delivered (six_not six)).fault six

  same_counts : end ≡ exit.memory → (before.out.faults ≡ after.out.faults) × (before.report.faults ≡ after.report.faults)
  same_counts seven = (sym (ap (λ (s : SinkSeen). s.faults) (h.memory seven).0), sym (ap (λ (s : SinkSeen). s.faults) (h.memory seven).1))

  write_told : (before.out.faults < after.out.faults) ⊎ (before.report.faults < after.report.faults) → end ≡ exit.write_fault
  write_told rose = elim (seven_or end) [
    | inl seven ↦ absurd (elim rose [ inl less ↦ omega (arith, (same_counts seven).0) | inr less ↦ omega (arith, (same_counts seven).1) ])
    | inr never ↦ (h.delivered never).told rose
  ]

  later : (before.out.faults ≤ after.out.faults) × (before.report.faults ≤ after.report.faults)
  later = elim (seven_or end) [
    | inl seven ↦ (omega (arith, (same_counts seven).0), omega (arith, (same_counts seven).1))
    | inr never ↦ (h.delivered never).later
  ]

  rooms : (after.out.room ≡ before.out.room) × (after.report.room ≡ before.report.room)
  rooms = elim (seven_or end) [
    | inl seven ↦ (ap (λ (s : SinkSeen). s.room) (h.memory seven).0, ap (λ (s : SinkSeen). s.room) (h.memory seven).1)
    | inr never ↦ (h.delivered never).rooms
  ]

  no_write : Calm before after → end ≢ exit.write_fault
  no_write calm six = elim (write_fault six) [ inl rose ↦ calm.out rose | inr rose ↦ calm.report rose ]

  complete_by : Calm before after → (end ≡ h.given.status) ⊎ (end ≡ exit.write_fault) → Is → end ≡ wanted.status
  complete_by calm (inl e) (inl given) = e ∙ ap (λ (a : Answer). a.status) given.1
  complete_by calm (inl e) (inr fault) = absurd (calm.files fault.rose)
  complete_by calm (inr six) is = absurd (no_write calm six)

  completes : Calm before after → (end ≡ exit.memory) ⊎ (end ≡ wanted.status)
  completes calm = elim (seven_or end) [ inl seven ↦ inl seven | inr never ↦ inr (complete_by calm (h.delivered never).status (h.is_given never)) ]

  the_laws : TopSays asked before after end h.texts wanted
  the_laws = record {
    statuses = statuses;
    checked = λ is. (checked_one is, checked_two is);
    refused = refuses_so;
    refused_is_told = λ line is. ends_as exit.refused (ap (λ (a : Answer). a.status) (refused_so asked h.texts h.help line is));
    usage = usage_so;
    usage_is_told = usage_told;
    read_fault = λ five. (the_fault five).rose;
    read_fault_line = fault_reports;
    read_told = read_told;
    too_long = too_long_so;
    too_long_is_told = λ name is. ends_as exit.too_long (ap (λ (a : Answer). a.status) (long_so asked h.texts h.help name is));
    quiet = quiet_leaves;
    delivers = λ five seven. delivers_by five (h.delivered seven) (h.is_given seven);
    report_front = λ calm seven. front_by calm (h.delivered seven) (h.is_given seven);
    complete = completes;
    write_fault = write_fault;
    write_told = write_told;
    later = later;
    rooms = rooms;
  }

pub says : TopLaws
says asked before after end h = the_laws asked before after end h
