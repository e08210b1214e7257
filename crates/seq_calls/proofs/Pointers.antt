-- The arguments whose texts are named are pointers.
use Rattle.std.proofs.Common.{◌≡◌, ℕ, List, [], ◌∷◌, ◌++◌, Option, Some, None, is_some, option_and_then, slice_get, All, if◌then◌else◌, refl, sym, subst}
use Rattle.std.proofs.lemmas.List.Elements.{All-nil, All-cons, All-append}
use Rattle.std.proofs.lemmas.Option.{none-some}
use Rattle.pv_base.specs.Outside.{Text}
use Rattle.seq_calls.specs.declared.directive.Directive.TheVariants as directive
use Rattle.seq_calls.specs.declared.directive.Piece.{Piece}
use Rattle.seq_calls.specs.declared.directive.Piece.TheVariants as piece
use Rattle.seq_calls.specs.declared.show.Arg.{Arg}
use Rattle.seq_calls.specs.declared.show.Arg.TheVariants as arg
use Rattle.seq_calls.specs.Format.{shown, pieces, text_of, next_number, text_number, texts_of, text_args, IsPointer}

taken : (o : Option Arg) (t : Text) → option_and_then (shown directive.Text) o ≡ Some t → IsPointer o
unfolding shown
taken None t h = absurd (none-some t h)
taken (Some (arg.Int n)) t h = absurd (none-some t h)
taken (Some (arg.Text u)) t h = tt
taken (Some arg.Other) t h = tt

abbrev AllPointers : List Arg → List ℕ → Type 0
AllPointers args numbers = All (λ k. IsPointer (slice_get args k)) numbers

none_of : (args : List Arg) → AllPointers args []
none_of args = All-nil (λ (k : ℕ). IsPointer (slice_get args k))

own : (p : Piece) (args : List Arg) (number : ℕ) (t : Text) → text_of p args number ≡ Some t → AllPointers args (text_number p number)
unfolding text_of
own (piece.Byte b) args number t h = none_of args
own (piece.Directive (directive.Signed w)) args number t h = none_of args
own (piece.Directive (directive.Unsigned w)) args number t h = none_of args
own (piece.Directive (directive.Hexadecimal w)) args number t h = none_of args
own (piece.Directive directive.Character) args number t h = none_of args
own (piece.Directive directive.Text) args number t h = All-cons (λ (k : ℕ). IsPointer (slice_get args k)) number [] (taken (slice_get args number) t h) (none_of args)
own piece.Wrong args number t h = none_of args

both : (p : Piece) (args : List Arg) (number : ℕ) (rest : List ℕ) (told : Option Text) → text_of p args number ≡ told → AllPointers args rest → AllPointers args (if is_some told then text_number p number ++ rest else [])
both p args number rest None h all = none_of args
both p args number rest (Some t) h all = All-append (λ (k : ℕ). IsPointer (slice_get args k)) (text_number p number) rest (own p args number t h) all

texts_are_pointers : (ps : List Piece) (args : List Arg) (number : ℕ) → AllPointers args (texts_of ps args number)
unfolding texts_of
texts_are_pointers [] args number = none_of args
texts_are_pointers (p ∷ rest) args number =
    both p args number (texts_of rest args (next_number p number)) (text_of p args number) refl (texts_are_pointers rest args (next_number p number))

pub args_are_pointers : (format : Text) (args : List Arg) → All (λ k. IsPointer (slice_get args k)) (text_args format args)
unfolding text_args
args_are_pointers format args = texts_are_pointers (pieces format) args 0

-- and so are those of an equal list
pub same_are_pointers : (format : Text) (args : List Arg) (found : List ℕ) → found ≡ text_args format args → All (λ k. IsPointer (slice_get args k)) found
same_are_pointers format args found is =
    let P : List ℕ → Type 0 = λ ks. All (λ k. IsPointer (slice_get args k)) ks in
    subst P (sym is) (args_are_pointers format args)
