-- A format, a piece at a time.
use Rattle.std.proofs.Common.{◌≡◌, ℕ, zero, suc, ◌+◌, ◌-◌, ◌<◌, ◌≤◌, List, [], ◌∷◌, ◌++◌, length, take, drop, get_or, Option, Some, None, is_some, option_map, if◌then◌else◌, refl, sym, ap, ◌∙◌, append_assoc, arith}
use Rattle.std.proofs.Math.Seq.{drop-cons, drop-nil}
use Rattle.std.proofs.Math.ListN.{drop_of_length-le}
use Rattle.std.proofs.lemmas.List.{append-nil, take_all, length-drop}
use Rattle.std.proofs.lemmas.Option.{none-some, same_Some}
use Rattle.std.specs.Fmt.{option_append}
use Rattle.pv_base.specs.Outside.{Text}
use Rattle.seq_calls.specs.declared.directive.Piece.{Piece}
use Rattle.seq_calls.specs.declared.show.Arg.{Arg}
use Rattle.seq_calls.specs.Format.{front_of, pieces_behind, text_of, next_number, text_number, printed, formatted, texts_of, text_args}

pass : (n : ℕ) (text : Text) → pieces_behind n text ≡ pieces_behind 0 (drop n text)
unfolding pieces_behind
pass zero [] = refl
pass (suc n) [] = refl
pass zero (b ∷ rest) = refl
pass (suc n) (b ∷ rest) = pass n rest

one_front : (b n : ℕ) (rest : Text) (p : Piece) → front_of (b ∷ rest) ≡ record { piece = p; length = n } → 1 ≤ n → pieces_behind 0 (b ∷ rest) ≡ p ∷ pieces_behind 0 (drop n (b ∷ rest))
unfolding pieces_behind
one_front b zero rest p is pos = absurd (omega arith)
one_front b (suc n) rest p is pos =
    let f : suc n - 1 ≡ n = omega arith in
    rw (is, f) (ap (λ (t : List Piece). p ∷ t) (pass n rest))

later : (text : Text) (at n : ℕ) → drop n (drop at text) ≡ drop (at + n) text
later [] at n = rw (drop-nil at, drop-nil (at + n)) (drop-nil n)
later (b ∷ rest) zero n = let e : 0 + n ≡ n = omega arith in rw e refl
later (b ∷ rest) (suc at) n = let e : suc at + n ≡ suc (at + n) = omega arith in rw e (later rest at n)

-- the pieces from a place on are the first of them and those behind it
step : (text : Text) (at n : ℕ) (p : Piece) → at < length text → front_of (drop at text) ≡ record { piece = p; length = n } → 1 ≤ n
    → pieces_behind 0 (drop at text) ≡ p ∷ pieces_behind 0 (drop (at + n) text)
step text at n p lt is pos =
    let d : drop at text ≡ get_or text at 0 ∷ drop (suc at) text = drop-cons text at 0 lt in
    ap (λ (t : Text). pieces_behind 0 t) d
    ∙ one_front (get_or text at 0) n (drop (suc at) text) p (ap front_of (sym d) ∙ is) pos
    ∙ ap (λ (t : Text). p ∷ pieces_behind 0 t) (ap (drop n) (sym d) ∙ later text at n)

no_pieces : (text : Text) (at : ℕ) → length text ≤ at → pieces_behind 0 (drop at text) ≡ []
unfolding pieces_behind
no_pieces text at le = ap (λ (t : Text). pieces_behind 0 t) (drop_of_length-le text le)

-- what a slice from a place on is
pub rest_is : (text : Text) (at : ℕ) → take (length text - at) (drop at text) ≡ drop at text
rest_is text at = take_all _ _ (omega (arith, length-drop at text))

-- a text in front of what is printed, if something is
abbrev pub onto : Text → Option Text → Option Text
onto out told = option_map (λ t. out ++ t) told

joined : (told rest : Option Text) (out new : Text) → onto out told ≡ Some new → onto out (option_append told rest) ≡ onto new rest
joined None rest out new h = absurd (none-some new h)
joined (Some a) None out new h = refl
joined (Some a) (Some b) out new h = ap Some (sym (append_assoc out a b) ∙ ap (λ (t : Text). t ++ b) (same_Some _ _ h))

pub format_starts : (text : Text) (args : List Arg) → onto [] (printed (pieces_behind 0 text) args 0) ≡ formatted text args
unfolding formatted
format_starts text args = whole (printed (pieces_behind 0 text) args 0)
  where
    whole : (o : Option Text) → onto [] o ≡ o
    whole None = refl
    whole (Some t) = refl

pub format_step : (text : Text) (args : List Arg) (out new : Text) (at n number : ℕ) (p : Piece) (all : Option Text)
    → at < length text → front_of (drop at text) ≡ record { piece = p; length = n } → 1 ≤ n
    → onto out (text_of p args number) ≡ Some new
    → onto out (printed (pieces_behind 0 (drop at text)) args number) ≡ all
    → onto new (printed (pieces_behind 0 (drop (at + n) text)) args (next_number p number)) ≡ all
unfolding printed
format_step text args out new at n number p all lt is pos prints so_far =
    sym (joined (text_of p args number) (printed (pieces_behind 0 (drop (at + n) text)) args (next_number p number)) out new prints)
    ∙ ap (λ (ps : List Piece). onto out (printed ps args number)) (sym (step text at n p lt is pos))
    ∙ so_far

pub format_trap : (text : Text) (args : List Arg) (out : Text) (at n number : ℕ) (p : Piece) (all : Option Text)
    → at < length text → front_of (drop at text) ≡ record { piece = p; length = n } → 1 ≤ n
    → text_of p args number ≡ None
    → onto out (printed (pieces_behind 0 (drop at text)) args number) ≡ all
    → all ≡ None
unfolding printed
format_trap text args out at n number p all lt is pos traps so_far =
    sym so_far
    ∙ ap (λ (ps : List Piece). onto out (printed ps args number)) (step text at n p lt is pos)
    ∙ ap (λ (o : Option Text). onto out (option_append o (printed (pieces_behind 0 (drop (at + n) text)) args (next_number p number)))) traps

pub format_ends : (text : Text) (args : List Arg) (out : Text) (at number : ℕ) (all : Option Text)
    → length text ≤ at → onto out (printed (pieces_behind 0 (drop at text)) args number) ≡ all → all ≡ Some out
unfolding printed
format_ends text args out at number all le so_far =
    sym so_far
    ∙ ap (λ (ps : List Piece). onto out (printed ps args number)) (no_pieces text at le)
    ∙ ap Some (append-nil out)

goes_on : (told : Option Text) (after next : ℕ) (front rest : List ℕ) → Some next ≡ option_map (λ t. after) told → (if is_some told then front ++ rest else []) ≡ front ++ rest
goes_on None after next front rest h = absurd (none-some next (sym h))
goes_on (Some t) after next front rest h = refl

stops : (told : Option Text) (after : ℕ) (xs : List ℕ) → None ≡ option_map (λ t. after) told → (if is_some told then xs else []) ≡ []
stops None after xs h = refl
stops (Some t) after xs h = absurd (none-some after h)

pub next_is : (told : Option Text) (after next : ℕ) → Some next ≡ option_map (λ t. after) told → after ≡ next
next_is None after next h = absurd (none-some next (sym h))
next_is (Some t) after next h = sym (same_Some _ _ h)

pub args_start : (text : Text) (args : List Arg) → [] ++ texts_of (pieces_behind 0 text) args 0 ≡ text_args text args
unfolding text_args
args_start text args = refl

pub args_step : (text : Text) (args : List Arg) (found : List ℕ) (at n number next : ℕ) (p : Piece) (all : List ℕ)
    → at < length text → front_of (drop at text) ≡ record { piece = p; length = n } → 1 ≤ n
    → Some next ≡ option_map (λ t. next_number p number) (text_of p args number)
    → found ++ texts_of (pieces_behind 0 (drop at text)) args number ≡ all
    → (found ++ text_number p number) ++ texts_of (pieces_behind 0 (drop (at + n) text)) args next ≡ all
unfolding texts_of
args_step text args found at n number next p all lt is pos passes so_far =
    append_assoc found (text_number p number) _
    ∙ ap (λ (k : ℕ). found ++ (text_number p number ++ texts_of (pieces_behind 0 (drop (at + n) text)) args k)) (sym (next_is (text_of p args number) (next_number p number) next passes))
    ∙ ap (λ (t : List ℕ). found ++ t)
    (sym (goes_on (text_of p args number) (next_number p number) next (text_number p number) (texts_of (pieces_behind 0 (drop (at + n) text)) args (next_number p number)) passes)
    ∙ ap (λ (ps : List Piece). texts_of ps args number) (sym (step text at n p lt is pos)))
    ∙ so_far

pub args_trap : (text : Text) (args : List Arg) (found : List ℕ) (at n number : ℕ) (p : Piece) (all : List ℕ)
    → at < length text → front_of (drop at text) ≡ record { piece = p; length = n } → 1 ≤ n
    → None ≡ option_map (λ t. next_number p number) (text_of p args number)
    → found ++ texts_of (pieces_behind 0 (drop at text)) args number ≡ all
    → found ≡ all
unfolding texts_of
args_trap text args found at n number p all lt is pos traps so_far =
    sym (append-nil found)
    ∙ ap (λ (t : List ℕ). found ++ t)
    (sym (stops (text_of p args number) (next_number p number) (text_number p number ++ texts_of (pieces_behind 0 (drop (at + n) text)) args (next_number p number)) traps)
    ∙ ap (λ (ps : List Piece). texts_of ps args number) (sym (step text at n p lt is pos)))
    ∙ so_far

pub args_end : (text : Text) (args : List Arg) (found : List ℕ) (at number : ℕ) (all : List ℕ)
    → length text ≤ at → found ++ texts_of (pieces_behind 0 (drop at text)) args number ≡ all → found ≡ all
unfolding texts_of
args_end text args found at number all le so_far =
    sym (append-nil found)
    ∙ ap (λ (ps : List Piece). found ++ texts_of ps args number) (sym (no_pieces text at le))
    ∙ so_far
