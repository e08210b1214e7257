-- A refusal and the first fault.
use Rattle.std.proofs.Common.{◌≡◌, ℕ, ◌+◌, Bool, false, List, [], ◌∷◌, ◌++◌, length, None, Some, Result, Ok, Err, refl, sym, ap, ◌∙◌, inl, inr, arith}
use Rattle.std.specs.Prelude.{◌⊎◌}
use Rattle.pv_base.specs.Outside.{Text}
use Rattle.profile_lines.specs.declared.profile.ProfileCause.{ProfileCause}
use Rattle.profile_lines.specs.declared.profile.ProfileCause.TheVariants.{Head}
use Rattle.profile_lines.specs.Cuts.{Reading}
use Rattle.profile_reader.specs.declared.read.ProfileError.{ProfileError}
use Rattle.profile_reader.specs.Texts.{lines_of}
use Rattle.profile_reader.specs.Grammar.{Saying}
use Rattle.profile_reader.specs.Reading.{Said, step, is_last, go_on, said_from, headed, said_of}
use Rattle.profile_laws.specs.Laws.{Right, FirstAmong, FirstFault}

more_come : (front : List Text) (bad : Text) (rest : List Text) → is_last (front ++ bad ∷ rest) ≡ false
more_come [] bad rest = refl
more_come (t ∷ front) bad rest = refl

abbrev at : ℕ → ProfileCause → ProfileError
at line cause = record { line = line; cause = cause }

same_error : (e f : ProfileError) → ◌≡◌ {A = Result Said ProfileError} (Err e) (Err f) → e ≡ f
same_error e f h = cc

no_error : (said : Said) (e : ProfileError) → Ok said ≡ Err e → ⊥
no_error said e h = cc

one_further : (said now : Said) (n : ℕ) (text : Text) (texts : List Text) (error : ProfileError)
    → step said (is_last texts) text ≡ Ok now → FirstAmong now (n + 1) texts error → FirstAmong said n (text ∷ texts) error
one_further said now n text texts error taken first =
    let open_still : is_last texts ≡ false = ap is_last first.texts_are ∙ more_come first.front first.bad first.rest in
    let is_taken : step said false text ≡ Ok now = sym (ap (λ (l : Bool). step said l text) open_still) ∙ taken in
    let numbered : length first.front + (n + 1) ≡ length (text ∷ first.front) + n = omega arith in
    record {
      front = text ∷ first.front;
      bad = first.bad;
      rest = first.rest;
      before = first.before;
      cause = first.cause;
      texts_are = ap (λ t. text ∷ t) first.texts_are;
      right = (now, is_taken, first.right);
      wrong = first.wrong;
      error_is = first.error_is ∙ ap (λ (k : ℕ). at k first.cause) numbered;
    }

refused_here : (said : Said) (n : ℕ) (text : Text) (texts : List Text) (error : ProfileError) (cause : ProfileCause)
    → step said (is_last texts) text ≡ Err cause → error ≡ at n cause → FirstAmong said n (text ∷ texts) error
refused_here said n text texts error cause refused named =
    let numbered : n ≡ length {A = Text} [] + n = omega arith in
    record {
      front = [];
      bad = text;
      rest = texts;
      before = said;
      cause = cause;
      texts_are = refl;
      right = refl;
      wrong = refused;
      error_is = named ∙ ap (λ (k : ℕ). at k cause) numbered;
    }

first_of_step : (said : Said) (n : ℕ) (text : Text) (texts : List Text) (error : ProfileError) (r : Reading Said)
    → ((now : Said) → said_from now (n + 1) texts ≡ Err error → FirstAmong now (n + 1) texts error)
    → step said (is_last texts) text ≡ r → go_on n r (λ now. said_from now (n + 1) texts) ≡ Err error
    → FirstAmong said n (text ∷ texts) error
first_of_step said n text texts error (Ok now) later taken e = one_further said now n text texts error taken (later now e)
first_of_step said n text texts error (Err cause) later refused e =
    refused_here said n text texts error cause refused (sym (same_error _ _ e))

first_among : (said : Said) (n : ℕ) (texts : List Text) (error : ProfileError) → said_from said n texts ≡ Err error
    → FirstAmong said n texts error
first_among said n [] error e = absurd (no_error said error e)
first_among said n (text ∷ texts) error e =
    first_of_step said n text texts error (step said (is_last texts) text) (λ now. first_among now (n + 1) texts error) refl e

same_head : (e f : ProfileError) → ◌≡◌ {A = Result Saying ProfileError} (Err e) (Err f) → f ≡ e
same_head e f h = cc

not_read : (said : Saying) (e : ProfileError) → Ok said ≡ Err e → ⊥
not_read said e h = cc

first_by_end : (text : Text) (error : ProfileError) (r : Result Said ProfileError) → said_from None 1 (lines_of text) ≡ r → headed r ≡ Err error
    → FirstFault text error ⊎ (error ≡ at 1 Head)
first_by_end text error (Ok None) is e = inr (same_head _ _ e)
first_by_end text error (Ok (Some said)) is e = absurd (not_read said error e)
first_by_end text error (Err found) is e =
    inl (first_among None 1 (lines_of text) error (is ∙ ap (λ (f : ProfileError). Err f) (sym (same_head _ _ e))))

pub faults_first : (text : Text) (error : ProfileError) → said_of text ≡ Err error → FirstFault text error ⊎ (error ≡ at 1 Head)
faults_first text error e = first_by_end text error (said_from None 1 (lines_of text)) refl e

refused_after : (front : List Text) (said before : Said) (n : ℕ) (bad : Text) (rest : List Text) (cause : ProfileCause)
    → Right said front before → step before (is_last rest) bad ≡ Err cause
    → said_from said n (front ++ bad ∷ rest) ≡ Err (at (length front + n) cause)
refused_after [] said before n bad rest cause right wrong =
    let here : step said (is_last rest) bad ≡ Err cause = ap (λ (s : Said). step s (is_last rest) bad) right ∙ wrong in
    let numbered : n ≡ length {A = Text} [] + n = omega arith in
    ap (λ (r : Reading Said). go_on n r (λ now. said_from now (n + 1) rest)) here ∙ ap (λ (k : ℕ). Err (at k cause)) numbered
refused_after (text ∷ front) said before n bad rest cause right wrong =
    let taken : step said (is_last (front ++ bad ∷ rest)) text ≡ Ok right.0 =
    ap (λ (l : Bool). step said l text) (more_come front bad rest) ∙ right.1
    in
    let numbered : length front + (n + 1) ≡ length (text ∷ front) + n = omega arith in
    ap (λ (r : Reading Said). go_on n r (λ now. said_from now (n + 1) (front ++ bad ∷ rest))) taken
    ∙ refused_after front right.0 before (n + 1) bad rest cause right.2 wrong ∙ ap (λ (k : ℕ). Err (at k cause)) numbered

pub first_found : (text : Text) (error : ProfileError) → FirstFault text error → said_of text ≡ Err error
first_found text error first =
    ap (λ (t : List Text). headed (said_from None 1 t)) first.texts_are
    ∙ ap headed (refused_after first.front None first.before 1 first.bad first.rest first.cause first.right first.wrong)
    ∙ ap (λ (e : ProfileError). Err e) (sym first.error_is)
