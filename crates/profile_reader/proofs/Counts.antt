-- How many lines and loops a text can say.
use Rattle.std.proofs.Common.{◌≡◌, ℕ, ◌+◌, ◌≤◌, Bool, true, false, not, List, [], ◌∷◌, ◌++◌, length, length-append, Option, None, Some, Result, Ok, Err, refl, subst, arith}
use Rattle.std.specs.Prelude.{◌<◌, ◌^◌, ◌&&◌, ◌||◌, ◌==◌, nat_lt, if◌then◌else◌, IfOk}
use Rattle.std.specs.List.{flat_map}
use Rattle.pv_base.specs.Outside.{Text}
use Rattle.profile_lines.specs.declared.profile.Profile.{Profile}
use Rattle.profile_lines.specs.declared.profile.ProfileLoop.{ProfileLoop}
use Rattle.profile_lines.specs.declared.profile.ProfileCause.TheVariants.{Order, Repeat, TooLong}
use Rattle.profile_lines.specs.declared.lines.Line.{Line}
use Rattle.profile_lines.specs.declared.lines.Line.TheVariants.{End}
use Rattle.profile_lines.specs.Cuts.{Reading}
use Rattle.profile_lines.specs.Keys.{rank}
use Rattle.profile_lines.specs.Lines.{is_passed_over, version_of, line_of}
use Rattle.profile_reader.specs.declared.read.ProfileError.{ProfileError}
use Rattle.profile_reader.specs.declared.read.ProfileEnd.{ProfileEnd}
use Rattle.profile_reader.specs.declared.read.ProfileEnd.TheVariants.{Bad, Memory}
use Rattle.profile_reader.specs.Reads.{Reads}
use Rattle.profile_reader.specs.Texts.{lines_of, before_lines}
use Rattle.profile_reader.specs.Grammar.{Saying, open_lines, loop_lines, profile_says, saying}
use Rattle.profile_reader.specs.Reading.{Said, last_rank, follows, repeats, pass, begin_with, add_read, take_line, step, is_last, go_on, said_from, headed, said_of}

lines_in : Said → List Line
lines_in None = []
lines_in (Some said) = said.lines

same_said : (a b : Said) → ◌≡◌ {A = Reading Said} (Ok a) (Ok b) → a ≡ b
same_said a b e = cc

stays : (said now : Said) → ◌≡◌ {A = Reading Said} (Ok said) (Ok now) → length (lines_in now) ≤ length (lines_in said) + 1
unfolding lines_in
stays said now e = subst (λ (s : Said). length (lines_in s) ≤ length (lines_in said) + 1) (same_said said now e) (omega arith)

pass_by : (said : Saying) (now : Said) (t : Bool) → ◌≡◌ {A = Reading Said} (if t then Err Order else Ok (Some said)) (Ok now) → length (lines_in now) ≤ length said.lines + 1
unfolding lines_in
pass_by said now true e = absurd (cc)
pass_by said now false e = stays (Some said) now e

pass_most : (said : Said) (last : Bool) (now : Said) → pass said last ≡ Ok now → length (lines_in now) ≤ length (lines_in said) + 1
unfolding lines_in
pass_most None last now e = stays None now e
pass_most (Some said) last now e = pass_by said now (last && not (last_rank said.lines == 8)) e

begin_by : (now : Said) (version : Option ℕ) → begin_with version ≡ Ok now → length (lines_in now) ≤ 1
unfolding lines_in
begin_by now (Some version) e = subst (λ (s : Said). length (lines_in s) ≤ 1) (same_said (Some (saying version [])) now e) (omega arith)
begin_by now None e = absurd (cc)

add_by : (said : Saying) (line : Line) (now : Said) (fits again : Bool) → ◌≡◌ {A = Reading Said} (if fits then (if again then Err Repeat else Ok (Some (saying said.version (said.lines ++ line ∷ [])))) else Err Order) (Ok now) → length (lines_in now) ≤ length said.lines + 1
unfolding lines_in
add_by said line now true true e = absurd (cc)
add_by said line now true false e = subst (λ (s : Said). length (lines_in s) ≤ length said.lines + 1) (same_said (Some (saying said.version (said.lines ++ line ∷ []))) now e) (omega (arith, length-append said.lines (line ∷ [])))
add_by said line now false again e = absurd (cc)

read_most : (said : Saying) (last : Bool) (r : Reading Line) (now : Said) → add_read said last r ≡ Ok now → length (lines_in now) ≤ length said.lines + 1
read_most said last (Ok line) now e = add_by said line now (follows (last_rank said.lines) (rank line) && (not last || rank line == 8)) (repeats said.lines line) e
read_most said last (Err cause) now e = absurd (cc)

take_most : (said : Said) (last : Bool) (text : Text) (now : Said) → take_line said last text ≡ Ok now → length (lines_in now) ≤ length (lines_in said) + 1
unfolding lines_in
take_most None last text now e = begin_by now (version_of text) e
take_most (Some said) last text now e = read_most said last (line_of said.version text) now e

step_by : (said : Said) (last : Bool) (text : Text) (now : Said) (over long : Bool) → ◌≡◌ {A = Reading Said} (if over then pass said last else (if long then Err TooLong else take_line said last text)) (Ok now) → length (lines_in now) ≤ length (lines_in said) + 1
step_by said last text now true long e = pass_most said last now e
step_by said last text now false true e = absurd (cc)
step_by said last text now false false e = take_most said last text now e

step_most : (said : Said) (last : Bool) (text : Text) (now : Said) → step said last text ≡ Ok now → length (lines_in now) ≤ length (lines_in said) + 1
step_most said last text now e = step_by said last text now (is_passed_over text) (nat_lt 4096 (length text)) e

ends_same : (a b : Said) → ◌≡◌ {A = Result Said ProfileError} (Ok a) (Ok b) → a ≡ b
ends_same a b e = cc

onward : (said : Said) (n : ℕ) (text : Text) (texts : List Text) (now : Said) → ((next : Said) → said_from next (n + 1) texts ≡ Ok now → length (lines_in now) ≤ length (lines_in next) + length texts)
    → (r : Reading Said) → step said (is_last texts) text ≡ r → go_on n r (λ next. said_from next (n + 1) texts) ≡ Ok now → length (lines_in now) ≤ length (lines_in said) + length (text ∷ texts)
onward said n text texts now later (Ok next) taken e = let one = step_most said (is_last texts) text next taken in let rest = later next e in omega arith
onward said n text texts now later (Err cause) taken e = absurd (cc)

said_most : (said : Said) (n : ℕ) (texts : List Text) (now : Said) → said_from said n texts ≡ Ok now → length (lines_in now) ≤ length (lines_in said) + length texts
said_most said n [] now e = subst (λ (s : Said). length (lines_in s) ≤ length (lines_in said) + 0) (ends_same said now e) (omega arith)
said_most said n (text ∷ texts) now e = onward said n text texts now (λ next. said_most next (n + 1) texts now) (step said (is_last texts) text) refl e

before_most : (b : ℕ) (lines : List Text) (n : ℕ) → length lines ≤ n → length (before_lines b lines) ≤ n + 1
before_most b [] n le = omega arith
before_most b (line ∷ lines) n le = omega arith

line_most : (b : ℕ) (bs : Text) (t : Bool) → length (lines_of bs) ≤ length bs → length (if t then [] ∷ lines_of bs else before_lines b (lines_of bs)) ≤ length bs + 1
line_most b bs true le = omega arith
line_most b bs false le = before_most b (lines_of bs) (length bs) le

lines_most : (text : Text) → length (lines_of text) ≤ length text
lines_most [] = omega arith
lines_most (b ∷ bs) = let most = line_most b bs (b == 10) (lines_most bs) in omega arith

loops_most : (loops : List ProfileLoop) → length loops ≤ length (flat_map loop_lines loops)
loops_most [] = omega arith
loops_most (l ∷ ls) =
    let rest = loops_most ls in
    let all = length-append (loop_lines l) (flat_map loop_lines ls) in
    let ended = length-append (open_lines l) (End ∷ []) in
    omega arith

headed_is : (r : Result Said ProfileError) (said : Saying) → headed r ≡ Ok said → r ≡ Ok (Some said)
headed_is (Ok None) said e = absurd (cc)
headed_is (Ok (Some found)) said e = cc
headed_is (Err error) said e = absurd (cc)

-- a text has a byte for each loop
pub few_loops : (text : Text) (profile : Profile) → said_of text ≡ Ok (profile_says profile) → length profile.loops ≤ length text
unfolding lines_in
few_loops text profile e =
    let lines = said_most None 1 (lines_of text) (Some (profile_says profile)) (headed_is (said_from None 1 (lines_of text)) (profile_says profile) e) in
    let texts = lines_most text in
    let loops = loops_most profile.loops in
    omega arith

pub few_reads : (text : Text) (r : Result Profile ProfileEnd) → Reads (said_of text) r → length text < 2 ^ 32 → IfOk r (λ profile. length profile.loops < 2 ^ 32)
few_reads text (Ok profile) e small = let few = few_loops text profile e in omega arith
few_reads text (Err (Bad error)) e small = tt
few_reads text (Err Memory) e small = tt
