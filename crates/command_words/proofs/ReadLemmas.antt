-- What the words ask for, by the name of the command.
use Rattle.std.proofs.Common.{◌≡◌, ◌≢◌, ◌&&◌, Bool, true, false, List, [], ◌∷◌, Option, Some, None, refl, ap, option_map, inl, inr, subst, sym}
use Rattle.std.specs.Str.{bytes_eq}
use Rattle.clap.specs.Words.{Row, Text, is_simple, is_simple_and_free, Kinds, HasMatchesOf, subcommand_rows_of, subcommand_name_of, App, fault_of, HasKind, IsAmong, kind_of}
use Rattle.clap.specs.declared.Error.{Error}
use Rattle.clap.specs.declared.error.ErrorKind.TheVariants.{OutOfMemory}
use Rattle.clap.specs.declared.ArgMatches.{ArgMatches}
use Rattle.clap.proofs.OnLiterals.{clap_on_literals}
use Rattle.command_words.specs.CommandLine.{whole_app}
use Rattle.command_words.specs.Requests.{Commands, asked_in, refused, asked_of_texts, asked_of_matches, asked_by, faults, matches, IsTaken}

-- ---- the command of a name

pub named_first : (n : Text) (reader : List Row → _) (commands : Commands) (name : Text) (rows : List Row) → bytes_eq name n ≡ true
    → asked_in ((n, reader) ∷ commands) name rows ≡ reader rows
named_first n reader commands name rows e = rw e refl

pub named_later : (n : Text) (reader : List Row → _) (commands : Commands) (name : Text) (rows : List Row) → bytes_eq name n ≡ false
    → asked_in ((n, reader) ∷ commands) name rows ≡ asked_in commands name rows
named_later n reader commands name rows e = rw e refl

pub ruleset asked_lemmas = (named_first, named_later)

-- ---- the app of the whole command line

pub whole_is_free : is_simple_and_free whole_app ≡ true
unfolding whole_app clap_on_literals
whole_is_free = refl

-- so is an app that is this one
pub free_as : (app whole : App) → app ≡ whole → is_simple_and_free whole ≡ true → is_simple_and_free app ≡ true
free_as app whole is free = subst (λ (a : App). is_simple_and_free a ≡ true) (sym is) free

-- ---- from what a parse says of the words to what they ask

first_holds : (a b : Bool) → (a && b) ≡ true → a ≡ true
first_holds true b e = refl
first_holds false b e = (cc)

pub is_taken : (app : App) (ws : List Text) (m : ArgMatches) → is_simple_and_free app ≡ true → fault_of app ws ≡ [] → HasMatchesOf app ws m → IsTaken app ws m
unfolding faults matches
is_taken app ws m free fine has = record { fine = fine; same = (has (first_holds (is_simple app) _ free)).1 }

none_among : (k : _) (ks : Kinds) → IsAmong k ks → ks ≢ []
none_among k [] among e = absurd among
none_among k (x ∷ xs) among e = (cc)

pub some_fault : (app : App) (ws : List Text) (e : Error) → HasKind (fault_of app ws) e → kind_of e ≢ OutOfMemory → faults app ws ≢ []
unfolding faults
some_fault app ws e has kind = elim has [ inl memory ↦ absurd (kind memory) | inr among ↦ none_among (kind_of e) (fault_of app ws) among ]

module _ (app whole : App) (commands : Commands) (ws : List Text) (is : app ≡ whole) where
  pub words_taken : (m : ArgMatches) → IsTaken app ws m → asked_of_matches commands (subcommand_rows_of m) ≡ asked_of_texts whole commands ws
  words_taken m taken =
      subst (λ (a : App). asked_of_matches commands (subcommand_rows_of m) ≡ asked_of_texts a commands ws) is (rw taken.fine (ap (asked_of_matches commands) taken.same))

  by_kinds : (ks : Kinds) → ks ≢ [] → refused ≡ asked_by commands ks (matches app ws)
  by_kinds [] never = absurd (never refl)
  by_kinds (x ∷ xs) never = refl

  pub words_refused : faults app ws ≢ [] → refused ≡ asked_of_texts whole commands ws
  words_refused some = subst (λ (a : App). refused ≡ asked_of_texts a commands ws) is (by_kinds (faults app ws) some)

abbrev paired : {X : Type 0} → (X → Text) → (X → List Row) → X → Text × List Row
paired f g x = (f x, g x)

some_pair : {X : Type 0} (f : X → Text) (g : X → List Row) (o : Option X) (n : Text) (r : List Row)
    → Some n ≡ option_map f o → Some r ≡ option_map (λ (p : Text × List Row). p.1) (option_map (paired f g) o)
    → option_map (paired f g) o ≡ Some (n, r)
some_pair f g None n r a b = (cc)
some_pair f g (Some x) n r a b = (cc)

no_pair : {X : Type 0} (f : X → Text) (g : X → List Row) (o : Option X) → None ≡ option_map f o → option_map (paired f g) o ≡ None
no_pair f g None a = refl
no_pair f g (Some x) a = (cc)

pub none_entered : (m : ArgMatches) → None ≡ subcommand_name_of m → subcommand_rows_of m ≡ None
none_entered m a = no_pair _ _ _ a

pub entered_is : (m : ArgMatches) (n : Text) (r : List Row) → Some n ≡ subcommand_name_of m
    → Some r ≡ option_map (λ (p : Text × List Row). p.1) (subcommand_rows_of m) → subcommand_rows_of m ≡ Some (n, r)
entered_is m n r a b = some_pair _ _ _ n r a b
