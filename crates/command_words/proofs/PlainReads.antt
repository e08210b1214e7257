-- The commands, on plain command lines.
use Rattle.std.proofs.Common.{◌≡◌, ◌∙◌, refl, true, false, List, [], codes}
use Rattle.clap.specs.Words.{App, Text}
use Rattle.clap.specs.Simple.{built}
use Rattle.clap.proofs.OnLiterals.{clap_on_literals}
use Rattle.command_words.specs.CommandLine.{whole_app, whole_literal}
use Rattle.command_words.specs.Plain.{Item, pairs_of, AllNamed}
use Rattle.command_words.specs.PlainLines.{IsPlainLine, ReadsPlain, text_in, run_names, run_options, check_names}
use Rattle.command_words.specs.Requests.{asked_of, asked_run, whole_commands, check, faults, matches}
use Rattle.command_words.proofs.PlainWalk.{IsPlainShape, IsOption, lacks, given_name, places_named}
use Rattle.command_words.proofs.Entered.{Enters}
use Rattle.command_words.proofs.PlainCommand.{ReadsAs, sub_in, plain_command, value_is}

abbrev whole_built : App
whole_built = built whole_literal

whole_reads : ReadsAs whole_app whole_built
unfolding faults matches whole_app
whole_reads = record { faults_after = λ program words. refl; matches_after = λ program words. refl }

-- ---- run

run_enters : Enters whole_built (codes "run") (sub_in whole_built (codes "run"))
unfolding clap_on_literals
run_enters = record { met = refl; fine = refl; found = refl; named = refl; no_defaults = refl; nothing_asked = refl }

budget_option : IsOption (sub_in whole_built (codes "run")).rules (codes "budget")
unfolding clap_on_literals
budget_option = record {
  required = true;
  one = record { by_id = refl; same = refl };
  by_long = refl;
  no_dashes = refl;
  spaced_name = refl;
  joined_no_dashes = λ v. refl;
  joined_name = λ v. refl;
}

run_plain : IsPlainShape (sub_in whole_built (codes "run")) run_options run_names
unfolding clap_on_literals
run_plain = record {
  opts = (budget_option, tt);
  places = (record { required = true; one = record { by_id = refl; same = refl }; by_index = refl }, (record { required = true; one = record { by_id = refl; same = refl }; by_index = refl }, tt));
  defaults = (refl, (refl, (refl, (refl, tt))));
  no_help = refl;
  no_subcommand = refl;
}

run_given : (pairs : List (Text × Text)) → AllNamed run_names pairs → AllNamed run_options pairs → lacks (sub_in whole_built (codes "run")) pairs ≡ false
unfolding clap_on_literals
run_given pairs all budget = rw (given_name (codes "MODULE") pairs, given_name (codes "INPUT") pairs, given_name (codes "budget") pairs, all.0, all.1.0, budget.0) refl

pub plain_run : (words : List Text) (items : List Item) → IsPlainLine (codes "run") run_names run_options run_options items words
    → asked_of words ≡ asked_run (text_in run_names items (codes "MODULE")) (text_in run_names items (codes "INPUT")) (text_in run_names items (codes "budget"))
plain_run words items line =
    let pairs = pairs_of run_names items in
    let all = places_named run_options items run_names [] line.fine in
    plain_command whole_app whole_built whole_commands (codes "run") _ run_options run_names run_options items words whole_reads run_enters run_plain line (run_given pairs all line.given)
    ∙ rw (value_is (codes "MODULE") pairs all.0, value_is (codes "INPUT") pairs all.1.0, value_is (codes "budget") pairs line.given.0) refl

-- ---- check

check_enters : Enters whole_built (codes "check") (sub_in whole_built (codes "check"))
unfolding clap_on_literals
check_enters = record { met = refl; fine = refl; found = refl; named = refl; no_defaults = refl; nothing_asked = refl }

check_plain : IsPlainShape (sub_in whole_built (codes "check")) [] check_names
unfolding clap_on_literals
check_plain = record {
  opts = tt;
  places = (record { required = true; one = record { by_id = refl; same = refl }; by_index = refl }, tt);
  defaults = (refl, (refl, tt));
  no_help = refl;
  no_subcommand = refl;
}

check_given : (pairs : List (Text × Text)) → AllNamed check_names pairs → lacks (sub_in whole_built (codes "check")) pairs ≡ false
unfolding clap_on_literals
check_given pairs all = rw (given_name (codes "MODULE") pairs, all.0) refl

pub plain_check : (words : List Text) (items : List Item) → IsPlainLine (codes "check") check_names [] [] items words
    → asked_of words ≡ check (text_in check_names items (codes "MODULE"))
plain_check words items line =
    let pairs = pairs_of check_names items in
    let all = places_named [] items check_names [] line.fine in
    plain_command whole_app whole_built whole_commands (codes "check") _ [] check_names [] items words whole_reads check_enters check_plain line (check_given pairs all)
    ∙ rw (value_is (codes "MODULE") pairs all.0) refl

pub reads_plain : (words : List Text) → ReadsPlain words (asked_of words)
reads_plain words = record { run = plain_run words; check = plain_check words }
