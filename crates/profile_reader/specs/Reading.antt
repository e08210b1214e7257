-- What a text says, line by line, or its first fault.
use Rattle.std.specs.Prelude.{ℕ, ◌+◌, Bool, true, false, not, ◌&&◌, ◌||◌, List, [], ◌∷◌, ◌++◌, ◌==◌, length, fold, filter, nat_lt, nat_le, Option, None, Some, Result, Ok, Err, if◌then◌else◌}
use Rattle.std.specs.Str.{bytes_eq}
use Rattle.std.specs.List.{list_any}
use Rattle.pv_base.specs.Outside.{Text}
use Rattle.profile_lines.specs.declared.profile.ProfileCause.TheVariants.{Head, Order, Repeat, TooLong}
use Rattle.profile_lines.specs.declared.lines.Line.{Line}
use Rattle.profile_lines.specs.Cuts.{Reading}
use Rattle.profile_lines.specs.Keys.{rank, key_of}
use Rattle.profile_lines.specs.Lines.{is_passed_over, version_of, line_of}
use Rattle.profile_reader.specs.declared.read.ProfileError.{ProfileError}
use Rattle.profile_reader.specs.Texts.{lines_of}
use Rattle.profile_reader.specs.Grammar.{Saying, saying}

-- the place in the order of the last line's word; before all lines that of `end`
abbrev pub last_rank : List Line → ℕ
last_rank lines = fold (λ _ line. rank line) 8 lines

-- which word may stand after which: `loop` after `end`, `period` or `block` after `loop`, `block` after `period`, and after
-- another word no earlier one
abbrev pub follows : ℕ → ℕ → Bool
follows last next =
    if last == 8
    then next == 0
    else (if last == 0 then next == 1 || next == 2 else (if last == 1 then next == 2 else nat_le last next))

abbrev pub is_loop : Line → Bool
is_loop line = rank line == 0

-- the lines after the last `loop`
abbrev pub this_loop : List Line → List Line
this_loop lines = fold (λ said line. if is_loop line then [] else said ++ line ∷ []) [] lines

-- the lines that name loops
abbrev pub named_loops : List Line → List Line
named_loops lines = filter is_loop lines

-- two lines say the same; of a phi only its register is asked
abbrev pub says_again : Line → Line → Bool
says_again line earlier = bytes_eq (key_of earlier) (key_of line)

-- a line says what one of its loop said before, or names a loop that was named before
abbrev pub repeats : List Line → Line → Bool
repeats lines line = list_any (says_again line) (if is_loop line then named_loops lines else this_loop lines)

-- what was said so far; None before the first line
abbrev pub Said : Type 0
Said = Option Saying

-- a line that is passed over; `last` tells that no line comes after it
abbrev pub pass : Said → Bool → Reading Said
pass None last = Ok None
pass (Some said) last = if last && not (last_rank said.lines == 8) then Err Order else Ok (Some said)

-- the first line that is not passed over
abbrev pub begin_with : Option ℕ → Reading Said
begin_with None = Err Head
begin_with (Some version) = Ok (Some (saying version []))

abbrev pub begin : Text → Reading Said
begin text = begin_with (version_of text)

-- a line that says something
abbrev pub add : Saying → Bool → Line → Reading Said
add said last line =
    if follows (last_rank said.lines) (rank line) && (not last || rank line == 8)
    then (if repeats said.lines line then Err Repeat else Ok (Some (saying said.version (said.lines ++ line ∷ []))))
    else Err Order

abbrev pub add_read : Saying → Bool → Reading Line → Reading Said
add_read said last (Ok line) = add said last line
add_read said last (Err cause) = Err cause

abbrev pub take_line : Said → Bool → Text → Reading Said
take_line None last text = begin text
take_line (Some said) last text = add_read said last (line_of said.version text)

abbrev pub step : Said → Bool → Text → Reading Said
step said last text =
    if is_passed_over text
    then pass said last
    else (if nat_lt 4096 (length text) then Err TooLong else take_line said last text)

abbrev pub is_last : List Text → Bool
is_last [] = true
is_last (line ∷ lines) = false

-- what follows a line that was read, or its fault
abbrev pub go_on : ℕ → Reading Said → (Said → Result Said ProfileError) → Result Said ProfileError
go_on line (Ok said) later = later said
go_on line (Err cause) later = Err (record { line = line; cause = cause })

-- the lines from this number on
abbrev pub said_from : Said → ℕ → List Text → Result Said ProfileError
said_from said line [] = Ok said
said_from said line (text ∷ texts) =
    go_on line (step said (is_last texts) text) (λ now. said_from now (line + 1) texts)

abbrev pub headed : Result Said ProfileError → Result Saying ProfileError
headed (Ok None) = Err (record { line = 1; cause = Head })
headed (Ok (Some said)) = Ok said
headed (Err error) = Err error

-- what a text says, or its first fault
abbrev pub said_of : Text → Result Saying ProfileError
said_of text = headed (said_from None 1 (lines_of text))
