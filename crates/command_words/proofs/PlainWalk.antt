-- The walk of `clap` over plain words.
use Rattle.std.proofs.Common.{◌≡◌, ◌++◌, ◌∙◌, ◌&&◌, ◌||◌, ◌==◌, ◌+◌, min, inl, inr, sym, ap, refl, not, ℕ, Bool, true, false, List, [], ◌∷◌, Option, Some, None, find, option_map, option_and_then, slice_get, map, subst, eq-eqb, append-nil, append_assoc, fold}
use Rattle.std.proofs.lemmas.List.{map-append}
use Rattle.std.specs.List.{list_any}
use Rattle.std.specs.Str.{bytes_eq}
use Rattle.std.specs.Bool.{if◌then◌else◌}
use Rattle.std.specs.Option.{option_map_or}
use Rattle.clap.specs.Words.{Text, Row, Rule, first_of}
use Rattle.clap.specs.Takes.{is_given}
use Rattle.clap.specs.Facts.{explicit_source}
use Rattle.clap.specs.Lexer.{long_of, short_of, usize_max}
use Rattle.clap.specs.Simple.{Shape}
use Rattle.clap.specs.Walk.{Walk, idle, walked, settled_rows, used, at_row, without, more_values, has_row, arg_by_id, arg_by_index, arg_by_long, with_default, rows_after, nothing_held}
use Rattle.clap.specs.Faults.{walk_fault, turn_fault, settle_fault, defaults_fault, level_fault}
use Rattle.clap.specs.declared.builder.ArgAction.TheVariants.{Set}
use Rattle.clap.specs.declared.parser.matches.ValueSource.TheVariants.{CommandLine}
use Rattle.clap.specs.declared.builder.value_parser.Reading.TheVariants.{AsWritten}
use Rattle.clap.specs.declared.builder.value_parser.ValueParser.TheVariants as vp
use Rattle.command_words.specs.Plain.{is_plain_text, Item, positional, spaced, joined, words_of, pairs_of, has_name, value_in, Among, ArePlain, AllNamed}

-- how many names help has for the value: an option has one
abbrev pub shown_names : Option Text → ℕ
shown_names None = 0
shown_names (Some name) = 1

-- a rule with one value, as building leaves it
abbrev pub one_rule : Text → Option Text → Option ℕ → Bool → Rule
one_rule id long index required = record {
  id = id;
  long = long;
  aliases = [];
  short = None;
  short_aliases = [];
  index = index;
  action = Some Set;
  range = Some (record { start_inclusive = 1; end_inclusive = 1 });
  value_names = shown_names long;
  defaults = [];
  missing = [];
  trailing_var_arg = false;
  parser = Some vp.String;
  ignore_case = false;
  required = required;
  is_simple = true;
  is_free = true;
}

abbrev pub row_for : Text × Text → Row
row_for q = record { id = q.0; values = q.1 ∷ []; count = None; source = Some CommandLine; reading = AsWritten }

abbrev pub rows_for : List (Text × Text) → List Row
rows_for = map row_for

-- the walk between two items
abbrev pub at : List Row → Option (Text × List Text) → ℕ → Walk
at rows p n = record {
  held = record { rows = rows; pending = p; skip = 0 };
  waiting = idle;
  position = n;
  is_trailing = false;
  stopped = None;
}

-- ---- words

is_false : (b : Bool) → not b ≡ true → b ≡ false
is_false true e = (cc)
is_false false e = refl

both_false : (a b : Bool) → (a || b) ≡ false → (a ≡ false) × (b ≡ false)
both_false true b e = (cc)
both_false false b e = (refl, e)

plain_no_dashes : (t : Text) → is_plain_text t ≡ true → bytes_eq t (45 ∷ 45 ∷ []) ≡ false
plain_no_dashes [] e = (cc)
plain_no_dashes (x ∷ xs) e = let h : (x == 45) ≡ false = is_false _ e in rw h refl

plain_no_long : (t : Text) → is_plain_text t ≡ true → long_of t ≡ None
plain_no_long [] e = (cc)
plain_no_long (x ∷ xs) e = let h : (x == 45) ≡ false = is_false _ e in rw h refl

plain_no_short : (t : Text) → is_plain_text t ≡ true → short_of t ≡ None
plain_no_short [] e = (cc)
plain_no_short (x ∷ xs) e = let h : (x == 45) ≡ false = is_false _ e in rw h refl

-- ---- rows

at_missing : (id : Text) (change : Row → List Row) (missing : List Row) (pairs : List (Text × Text)) → has_name id pairs ≡ false
    → at_row id change missing (rows_for pairs) ≡ rows_for pairs ++ missing
at_missing id change missing [] e = refl
at_missing id change missing (q ∷ pairs) e =
    let h = both_false (bytes_eq q.0 id) (has_name id pairs) e in
    rw h.0 (ap (λ (rs : List Row). row_for q ∷ rs) (at_missing id change missing pairs h.1))

no_row : (id : Text) (pairs : List (Text × Text)) → has_name id pairs ≡ false → has_row id (rows_for pairs) ≡ false
no_row id [] e = refl
no_row id (q ∷ pairs) e =
    let h = both_false (bytes_eq q.0 id) (has_name id pairs) e in rw h.0 (no_row id pairs h.1)

used_once : (id : Text) (long : Option Text) (index : Option ℕ) (required : Bool) (t : Text) (pairs : List (Text × Text)) → has_name id pairs ≡ false
    → used (one_rule id long index required) (t ∷ []) (rows_for pairs) ≡ rows_for (pairs ++ (id, t) ∷ [])
used_once id long index required t pairs e =
    let gone : without id (rows_for pairs) ≡ rows_for pairs = at_missing id (λ _. []) [] pairs e ∙ append-nil _ in
    rw gone (at_missing id (more_values CommandLine (t ∷ [])) (row_for (id, t) ∷ []) pairs e ∙ sym (map-append row_for pairs ((id, t) ∷ [])))

-- ---- what is settled

-- the rule of this id takes one value
pub record IsOne (c : List Rule) (id : Text) (long : Option Text) (index : Option ℕ) (required : Bool) : Type 0 where
  pub by_id : arg_by_id c id ≡ Some (one_rule id long index required)
  pub same : bytes_eq id id ≡ true

-- what is held stands for these pairs, and can be settled
pub record Settles (c : List Rule) (again : Bool) (held : List Row) (p : Option (Text × List Text)) (pairs : List (Text × Text)) : Type 0 where
  pub rows : settled_rows c p held ≡ rows_for pairs
  pub fault : settle_fault c again (record { rows = held; pending = p; skip = 0 }) ≡ []

settles_none : (c : List Rule) (again : Bool) (pairs : List (Text × Text)) → Settles c again (rows_for pairs) None pairs
settles_none c again pairs = record { rows = refl; fault = refl }

settles_one : (c : List Rule) (again : Bool) (id : Text) (long : Option Text) (index : Option ℕ) (required : Bool) (t : Text) (pairs : List (Text × Text))
    → IsOne c id long index required → has_name id pairs ≡ false
    → Settles c again (rows_for pairs) (Some (id, t ∷ [])) (pairs ++ (id, t) ∷ [])
settles_one c again id long index required t pairs one new = record {
  rows = rw one.by_id (used_once id long index required t pairs new);
  fault = rw (one.by_id, no_row id pairs new) refl;
}

and_false : (b : Bool) → (b && false) ≡ false
and_false true = refl
and_false false = refl

-- ---- one item

pub record IsPositional (c : List Rule) (n : ℕ) (id : Text) : Type 0 where
  pub required : Bool
  pub one : IsOne c id None (Some n) required
  pub by_index : arg_by_index c n ≡ Some (one_rule id None (Some n) required)

pub record IsOption (c : List Rule) (id : Text) : Type 0 where
  pub required : Bool
  pub one : IsOne c id (Some id) None required
  pub by_long : arg_by_long c id ≡ Some (one_rule id (Some id) None required)
  pub no_dashes : bytes_eq (45 ∷ 45 ∷ id) (45 ∷ 45 ∷ []) ≡ false
  pub spaced_name : long_of (45 ∷ 45 ∷ id) ≡ Some (id, None)
  pub joined_no_dashes : (v : Text) → bytes_eq (45 ∷ 45 ∷ id ++ 61 ∷ v) (45 ∷ 45 ∷ []) ≡ false
  pub joined_name : (v : Text) → long_of (45 ∷ 45 ∷ id ++ 61 ∷ v) ≡ Some (id, Some v)

positional_step : (c : List Rule) (n : ℕ) (id t : Text) (rows : List Row) (p : Option (Text × List Text)) (pairs : List (Text × Text))
    → IsPositional c n id → is_plain_text t ≡ true → settled_rows c p rows ≡ rows_for pairs
    → walked c [] (at rows p n) t ≡ at (rows_for pairs) (Some (id, t ∷ [])) (min (n + 1) usize_max)
unfolding walked
positional_step c n id t rows p pairs is plain settled =
    rw (plain_no_dashes t plain, plain_no_long t plain, plain_no_short t plain, is.by_index, and_false, settled) refl

spaced_step : (c : List Rule) (n : ℕ) (id t : Text) (rows : List Row) (p : Option (Text × List Text)) (pairs : List (Text × Text))
    → IsOption c id → is_plain_text t ≡ true → settled_rows c p rows ≡ rows_for pairs
    → walked c [] (walked c [] (at rows p n) (45 ∷ 45 ∷ id)) t ≡ at (rows_for pairs) (Some (id, t ∷ [])) n
unfolding walked
spaced_step c n id t rows p pairs is plain settled = rw (is.no_dashes, is.spaced_name, is.by_long, plain_no_dashes t plain, plain_no_long t plain, plain_no_short t plain, is.one.by_id, settled, is.one.same) refl

joined_step : (c : List Rule) (n : ℕ) (id t : Text) (rows : List Row) (p : Option (Text × List Text)) (pairs : List (Text × Text))
    → IsOption c id → has_name id pairs ≡ false → settled_rows c p rows ≡ rows_for pairs
    → walked c [] (at rows p n) (45 ∷ 45 ∷ id ++ 61 ∷ t) ≡ at (rows_for (pairs ++ (id, t) ∷ [])) None n
unfolding walked
joined_step c n id t rows p pairs is new settled = rw (is.joined_no_dashes t, is.joined_name t, is.by_long, settled) (ap (λ (r : List Row). at r None n) (used_once id (Some id) None is.required t pairs new))

-- ---- no item is at fault

positional_fine : (s : Shape) (n : ℕ) (id t : Text) (rows : List Row) (p : Option (Text × List Text)) (pairs : List (Text × Text))
    → IsPositional s.rules n id → is_plain_text t ≡ true → Settles s.rules s.args_override_self rows p pairs
    → turn_fault s [] (at rows p n) t ≡ []
positional_fine s n id t rows p pairs is plain settles =
    rw (plain_no_dashes t plain, plain_no_long t plain, plain_no_short t plain, is.by_index, and_false) settles.fault

spaced_fine : (s : Shape) (n : ℕ) (id : Text) (rows : List Row) (p : Option (Text × List Text)) (pairs : List (Text × Text))
    → IsOption s.rules id → Settles s.rules s.args_override_self rows p pairs
    → turn_fault s [] (at rows p n) (45 ∷ 45 ∷ id) ≡ []
spaced_fine s n id rows p pairs is settles = rw (is.no_dashes, is.spaced_name, is.by_long, settles.fault) refl

value_fine : (s : Shape) (n : ℕ) (id t : Text) (rows : List Row) (p : Option (Text × List Text))
    → IsOption s.rules id → is_plain_text t ≡ true
    → turn_fault s [] (walked s.rules [] (at rows p n) (45 ∷ 45 ∷ id)) t ≡ []
unfolding walked
value_fine s n id t rows p is plain = rw (is.no_dashes, is.spaced_name, is.by_long, plain_no_dashes t plain, plain_no_long t plain, plain_no_short t plain) refl

joined_fine : (s : Shape) (n : ℕ) (id t : Text) (rows : List Row) (p : Option (Text × List Text)) (pairs : List (Text × Text))
    → IsOption s.rules id → has_name id pairs ≡ false → Settles s.rules s.args_override_self rows p pairs
    → turn_fault s [] (at rows p n) (45 ∷ 45 ∷ id ++ 61 ∷ t) ≡ []
joined_fine s n id t rows p pairs is new settles =
    rw (is.joined_no_dashes t, is.joined_name t, is.by_long, settles.fault, settles.rows, no_row id pairs new) refl

-- ---- all the items

abbrev pub AllPositional : List Rule → ℕ → List Text → Type 0
AllPositional c n [] = Unit {0}
AllPositional c n (id ∷ ids) = IsPositional c n id × AllPositional c (min (n + 1) usize_max) ids

abbrev pub AllOptions : List Rule → List Text → Type 0
AllOptions c [] = Unit {0}
AllOptions c (id ∷ ids) = IsOption c id × AllOptions c ids

option_among : (c : List Rule) (options : List Text) (id : Text) → AllOptions c options → Among id options → IsOption c id
option_among c [] id all among = absurd among
option_among c (x ∷ xs) id all (inl e) = subst (λ (y : Text). IsOption c y) (sym e) all.0
option_among c (x ∷ xs) id all (inr among) = option_among c xs id all.1 among

-- the walk ends between items, standing for the pairs, and nothing was at fault
pub record Ends (s : Shape) (w : Walk) (words : List Text) (pairs : List (Text × Text)) : Type 0 where
  pub held : List Row
  pub pending : Option (Text × List Text)
  pub place : ℕ
  pub end : fold (walked s.rules []) w words ≡ at held pending place
  pub settles : Settles s.rules s.args_override_self held pending pairs
  pub fault : walk_fault s [] w words ≡ []

-- one more word in front
more_word : (s : Shape) (w next : Walk) (word : Text) (words : List Text) (pairs : List (Text × Text))
    → turn_fault s [] w word ≡ [] → walked s.rules [] w word ≡ next → Ends s next words pairs → Ends s w (word ∷ words) pairs
unfolding walk_fault
more_word s w next word words pairs fine step ends =
    let ends' : Ends s (walked s.rules [] w word) words pairs = subst (λ (x : Walk). Ends s x words pairs) (sym step) ends in
    record {
      held = ends'.held;
      pending = ends'.pending;
      place = ends'.place;
      end = ends'.end;
      settles = ends'.settles;
      fault = rw fine ends'.fault;
    }

same_pairs : (s : Shape) (w : Walk) (words : List Text) (a b : List (Text × Text)) → a ≡ b → Ends s w words a → Ends s w words b
same_pairs s w words a b e ends = subst (λ (x : List (Text × Text)). Ends s w words x) e ends

pub plain_walk : (s : Shape) (options : List Text) → AllOptions s.rules options → (items : List Item) (names : List Text) (n : ℕ) → AllPositional s.rules n names
    → (rows : List Row) (p : Option (Text × List Text)) (pairs : List (Text × Text)) → Settles s.rules s.args_override_self rows p pairs
    → ArePlain options names items pairs → Ends s (at rows p n) (words_of items) (pairs ++ pairs_of names items)
unfolding walk_fault
plain_walk s options opts [] [] n all rows p pairs settles fine = record {
  held = rows;
  pending = p;
  place = n;
  end = refl;
  settles = subst (λ (x : List (Text × Text)). Settles s.rules s.args_override_self rows p x) (sym (append-nil pairs)) settles;
  fault = refl;
}
plain_walk s options opts [] (name ∷ names) n all rows p pairs settles fine = absurd fine
plain_walk s options opts (positional t ∷ items) [] n all rows p pairs settles fine = absurd fine
plain_walk s options opts (positional t ∷ items) (name ∷ names) n all rows p pairs settles fine =
    more_word s _ _ t _ _ (positional_fine s n name t rows p pairs all.0 fine.0 settles) (positional_step s.rules n name t rows p pairs all.0 fine.0 settles.rows)
    (same_pairs s _ _ _ _ (append_assoc pairs ((name, t) ∷ []) (pairs_of names items))
    (plain_walk s options opts items names _ all.1 (rows_for pairs) _ _
    (settles_one s.rules s.args_override_self name None (Some n) all.0.required t pairs all.0.one fine.1) fine.2))
plain_walk s options opts (spaced x t ∷ items) names n all rows p pairs settles fine =
    let is = option_among s.rules options x opts fine.1 in
    more_word s _ _ (45 ∷ 45 ∷ x) _ _ (spaced_fine s n x rows p pairs is settles) refl
    (more_word s _ _ t _ _ (value_fine s n x t rows p is fine.0) (spaced_step s.rules n x t rows p pairs is fine.0 settles.rows)
    (same_pairs s _ _ _ _ (append_assoc pairs ((x, t) ∷ []) (pairs_of names items))
    (plain_walk s options opts items names n all (rows_for pairs) _ _
    (settles_one s.rules s.args_override_self x (Some x) None is.required t pairs is.one fine.2) fine.3)))
plain_walk s options opts (joined x t ∷ items) names n all rows p pairs settles fine =
    let is = option_among s.rules options x opts fine.1 in
    more_word s _ _ (45 ∷ 45 ∷ x ++ 61 ∷ t) _ _ (joined_fine s n x t rows p pairs is fine.2 settles) (joined_step s.rules n x t rows p pairs is fine.2 settles.rows)
    (same_pairs s _ _ _ _ (append_assoc pairs ((x, t) ∷ []) (pairs_of names items))
    (plain_walk s options opts items names n all _ None _ (settles_none s.rules s.args_override_self (pairs ++ (x, t) ∷ [])) fine.3))

-- ---- after the walk

pub given_name : (id : Text) (pairs : List (Text × Text)) → is_given id (rows_for pairs) ≡ has_name id pairs
given_name id [] = refl
given_name id (q ∷ pairs) = by_test (bytes_eq q.0 id) (given_name id pairs)
  where
    by_test : (b : Bool) → is_given id (rows_for pairs) ≡ has_name id pairs → option_map_or (λ (r : Row). explicit_source r.source)
        (if b then Some (row_for q) else find (λ (r : Row). bytes_eq r.id id) (rows_for pairs)) false ≡ (b || has_name id pairs)
    by_test true h = refl
    by_test false h = h

pub first_value_in : (id : Text) (pairs : List (Text × Text)) → first_of id (rows_for pairs) ≡ value_in pairs id
first_value_in id [] = refl
first_value_in id (q ∷ pairs) = by_test (bytes_eq q.0 id) (first_value_in id pairs)
  where
    by_test : (b : Bool) → first_of id (rows_for pairs) ≡ value_in pairs id → option_and_then (λ (r : Row). slice_get r.values 0)
        (if b then Some (row_for q) else find (λ (r : Row). bytes_eq r.id id) (rows_for pairs))
        ≡ option_map (λ (x : Text × Text). x.1) (if b then Some q else find (λ (x : Text × Text). bytes_eq x.0 id) pairs)
    by_test true h = refl
    by_test false h = h

pub name_of_value : (id v : Text) (pairs : List (Text × Text)) → value_in pairs id ≡ Some v → has_name id pairs ≡ true
name_of_value id v [] e = (cc)
name_of_value id v (q ∷ pairs) e = by_test (bytes_eq q.0 id) (name_of_value id v pairs) e
  where
    by_test : (b : Bool) → (value_in pairs id ≡ Some v → has_name id pairs ≡ true) → option_map (λ (x : Text × Text). x.1) (if b then Some q else find (λ (x : Text × Text). bytes_eq x.0 id) pairs) ≡ Some v
        → (b || has_name id pairs) ≡ true
    by_test true h e = refl
    by_test false h e = h e

pub given_value : (id v : Text) (pairs : List (Text × Text)) → value_in pairs id ≡ Some v → is_given id (rows_for pairs) ≡ true
given_value id v pairs e = given_name id pairs ∙ name_of_value id v pairs e

abbrev pub NoDefaults : List Rule → Type 0
NoDefaults [] = Unit {0}
NoDefaults (a ∷ c) = (a.defaults ≡ []) × NoDefaults c

default_stays : (rows : List Row) (a : Rule) → a.defaults ≡ [] → with_default rows a ≡ rows
default_stays rows a e = rw e (by_test (has_row a.id rows))
  where
    by_test : (b : Bool) → (if b then rows else rows) ≡ rows
    by_test true = refl
    by_test false = refl

defaults_stay : (c : List Rule) (rows : List Row) → NoDefaults c → fold with_default rows c ≡ rows
defaults_stay [] rows none = refl
defaults_stay (a ∷ c) rows none = rw (default_stays rows a none.0) (defaults_stay c rows none.1)

or_true : (b : Bool) → (b || true) ≡ true
or_true true = refl
or_true false = refl

defaults_fine : (c : List Rule) (rows : List Row) → NoDefaults c → defaults_fault rows c ≡ []
unfolding defaults_fault
defaults_fine [] rows none = refl
defaults_fine (a ∷ c) rows none = rw (default_stays rows a none.0, none.0, or_true) (defaults_fine c rows none.1)

-- the command has these options and positional names, and asks for nothing else
pub record IsPlainShape (s : Shape) (options names : List Text) : Type 0 where
  pub opts : AllOptions s.rules options
  pub places : AllPositional s.rules 1 names
  pub defaults : NoDefaults s.rules
  pub no_help : s.arg_required_else_help ≡ false
  pub no_subcommand : s.subcommand_required ≡ false

abbrev pub lacks : Shape → List (Text × Text) → Bool
lacks s pairs = list_any (λ a. a.required && not (is_given a.id (rows_for pairs))) s.rules

pub plain_rows : (s : Shape) (options names : List Text) (items : List Item) → IsPlainShape s options names → ArePlain options names items []
    → rows_after s.rules [] (words_of items) ≡ rows_for (pairs_of names items)
plain_rows s options names items is fine =
    let ends = plain_walk s options is.opts items names 1 is.places [] None [] (settles_none _ _ []) fine in
    rw (ends.end, ends.settles.rows) (defaults_stay s.rules _ is.defaults)

pub plain_faults : (s : Shape) (options names : List Text) (items : List Item) → IsPlainShape s options names → ArePlain options names items []
    → lacks s (pairs_of names items) ≡ false → level_fault s [] nothing_held (words_of items) false [] ≡ []
plain_faults s options names items is fine given =
    let ends = plain_walk s options is.opts items names 1 is.places [] None [] (settles_none _ _ []) fine in
    rw (ends.fault, ends.end, ends.settles.fault, ends.settles.rows, defaults_fine s.rules (rows_for (pairs_of names items)) is.defaults, defaults_stay s.rules (rows_for (pairs_of names items)) is.defaults, is.no_help, is.no_subcommand, given, and_false) refl

-- ---- each positional name has its word

same_text : (t : Text) → bytes_eq t t ≡ true
same_text [] = refl
same_text (x ∷ xs) = rw (eq-eqb x x refl) (same_text xs)

or_more : (a b : Bool) → b ≡ true → (a || b) ≡ true
or_more true b e = refl
or_more false b e = e

named_more : (names : List Text) (q : Text × Text) (pairs : List (Text × Text)) → AllNamed names pairs → AllNamed names (q ∷ pairs)
named_more [] q pairs all = tt
named_more (name ∷ names) q pairs all = (or_more (bytes_eq q.0 name) (has_name name pairs) all.0, named_more names q pairs all.1)

pub places_named : (options : List Text) (items : List Item) (names : List Text) (seen : List (Text × Text)) → ArePlain options names items seen
    → AllNamed names (pairs_of names items)
places_named options [] [] seen fine = tt
places_named options [] (name ∷ names) seen fine = absurd fine
places_named options (positional t ∷ items) [] seen fine = absurd fine
places_named options (positional t ∷ items) (name ∷ names) seen fine =
    (rw (same_text name) refl, named_more names (name, t) _ (places_named options items names _ fine.2))
places_named options (spaced x t ∷ items) names seen fine = named_more names (x, t) _ (places_named options items names _ fine.3)
places_named options (joined x t ∷ items) names seen fine = named_more names (x, t) _ (places_named options items names _ fine.3)
