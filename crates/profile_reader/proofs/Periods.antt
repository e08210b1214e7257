-- The version of a text that is read, and the periods of its loops, are within their bounds.
use Rattle.std.proofs.Common.{◌≡◌, ℕ, Bool, true, false, List, [], ◌∷◌, ◌++◌, length, ◌+◌, Option, None, Some, Result, Ok, Err, inl, inr, refl, sym, subst, arith}
use Rattle.std.specs.Prelude.{◌⊎◌, ◌&&◌, ◌||◌, ◌==◌, not, map, nat_le, nat_lt, if◌then◌else◌, codes, IfOk}
use Rattle.std.specs.Str.{bytes_eq}
use Rattle.std.specs.List.{All, flat_map}
use Rattle.std.proofs.lemmas.Bool.{eqb-true}
use Rattle.std.proofs.lemmas.Bool.Decides.{nat_tests}
use Rattle.std.proofs.lemmas.List.Elements.{All-nil, All-cons}
use Rattle.pv_base.specs.Outside.{Text}
use Rattle.profile_lines.specs.declared.profile.Profile.{Profile}
use Rattle.profile_lines.specs.declared.profile.ProfileLoop.{ProfileLoop}
use Rattle.profile_lines.specs.declared.profile.ProfileCause.TheVariants.{Word, Number, Order, TooLong}
use Rattle.profile_lines.specs.declared.lines.Line.{Line}
use Rattle.profile_lines.specs.declared.lines.Line.TheVariants.{Loop, Period, Block, Phi, Use, Local, Flow, Value, End}
use Rattle.profile_lines.specs.Cuts.{Reading, map_reading, cut}
use Rattle.profile_lines.specs.Numbers.{in_period, number_of}
use Rattle.profile_lines.specs.Keys.{rank}
use Rattle.profile_lines.specs.Lines.{is_passed_over, first_head, second_head, version_of, loop_from, period_line, phi_from, use_from, flow_from, value_from, worded, said_by, line_of}
use Rattle.profile_reader.specs.declared.read.ProfileError.{ProfileError}
use Rattle.profile_reader.specs.declared.read.ProfileEnd.{ProfileEnd}
use Rattle.profile_reader.specs.declared.read.ProfileEnd.TheVariants.{Bad, Memory}
use Rattle.profile_reader.specs.Reads.{Reads, PeriodFits}
use Rattle.profile_reader.specs.Texts.{lines_of}
use Rattle.profile_reader.specs.Grammar.{Saying, period_lines, open_lines, loop_lines, profile_says}
use Rattle.profile_reader.proofs.KeepLemmas.{front_blocks, front_phis, front_uses, front_locals, front_flows, front_values}
use Rattle.profile_reader.specs.Reading.{Said, last_rank, follows, repeats, pass, begin_with, add_read, take_line, step, is_last, go_on, said_from, headed, said_of}

abbrev VersionFits : ℕ → Type 0
VersionFits version = (version ≡ 1) ⊎ (version ≡ 2)

abbrev LineFits : ℕ → Line → Type 0
LineFits v (Loop function header) = Unit {0}
LineFits v (Period turns) = PeriodFits v (Some turns)
LineFits v (Block name) = Unit {0}
LineFits v (Phi line) = Unit {0}
LineFits v (Use line) = Unit {0}
LineFits v (Local site) = Unit {0}
LineFits v (Flow line) = Unit {0}
LineFits v (Value line) = Unit {0}
LineFits v End = Unit {0}

abbrev Gives : {A : Type 0} → (A → Type 0) → Reading A → Type 0
Gives P (Ok a) = P a
Gives P (Err cause) = Unit {0}

-- a test chooses between two readings that both do
choose : {A : Type 0} (P : A → Type 0) (t : Bool) (a b : Reading A) → Gives P a → Gives P b → Gives P (if t then a else b)
choose P true a b here there = here
choose P false a b here there = there

mapped : {A : Type 0} (v : ℕ) (f : A → Line) → ((a : A) → LineFits v (f a)) → (r : Reading A) → Gives (LineFits v) (map_reading f r)
mapped v f fits (Ok a) = fits a
mapped v f fits (Err cause) = tt

period_by : (n : ℕ) (t : Bool) → (nat_le 1 n && nat_le n 65533) ≡ t
    → Gives (LineFits 2) (map_reading (λ n. Period n) (if t then Ok n else Err Number))
period_by n true is = (refl, grind (arith, nat_tests), grind (arith, nat_tests))
period_by n false is = tt

period_given : (r : Reading ℕ) → Gives (LineFits 2) (map_reading (λ n. Period n) (in_period r))
period_given (Ok n) = period_by n (nat_le 1 n && nat_le n 65533) refl
period_given (Err cause) = tt

period_in : (v : ℕ) (text : Text) (t : Bool) → (v == 2) ≡ t → Gives (LineFits v) (if t then period_line text else Err Word)
period_in v text true is =
    subst (λ (w : ℕ). Gives (LineFits w) (period_line text)) (sym (eqb-true v 2 is)) (period_given (number_of text))
period_in v text false is = tt

worded_fits : (v : ℕ) (word text : Text) → Gives (LineFits v) (worded v word text)
worded_fits v word text =
    choose (LineFits v) (bytes_eq word (codes "loop")) _ _ (mapped v loop_from (λ p. tt) _) (
    choose (LineFits v) (bytes_eq word (codes "period")) _ _ (period_in v text (v == 2) refl) (
    choose (LineFits v) (bytes_eq word (codes "block")) _ _ (mapped v (λ n. Block n) (λ n. tt) _) (
    choose (LineFits v) (bytes_eq word (codes "phi")) _ _ (mapped v phi_from (λ p. tt) _) (
    choose (LineFits v) (bytes_eq word (codes "use")) _ _ (mapped v use_from (λ p. tt) _) (
    choose (LineFits v) (bytes_eq word (codes "local")) _ _ (mapped v (λ s. Local s) (λ s. tt) _) (
    choose (LineFits v) (bytes_eq word (codes "flow")) _ _ (mapped v flow_from (λ p. tt) _) (
    choose (LineFits v) (bytes_eq word (codes "value")) _ _ (mapped v value_from (λ p. tt) _) tt)))))))

said_fits : (v : ℕ) (text : Text) (parts : Option (Text × Text)) → Gives (LineFits v) (said_by v text parts)
said_fits v text None = choose (LineFits v) (bytes_eq text (codes "end")) (Ok End) (Err Word) tt tt
said_fits v text (Some parts) = worded_fits v parts.0 parts.1

abbrev LinesFit : ℕ → List Line → Type 0
LinesFit v [] = Unit {0}
LinesFit v (line ∷ lines) = LineFits v line × LinesFit v lines

one_more : (v : ℕ) (lines : List Line) (line : Line) → LinesFit v lines → LineFits v line → LinesFit v (lines ++ line ∷ [])
one_more v [] line fit fits = (fits, tt)
one_more v (l ∷ ls) line fit fits = (fit.0, one_more v ls line fit.1 fits)

abbrev SayingFits : Saying → Type 0
SayingFits said = VersionFits said.version × LinesFit said.version said.lines

abbrev SaidFits : Said → Type 0
SaidFits None = Unit {0}
SaidFits (Some said) = SayingFits said

passed : (said : Said) (last : Bool) → SaidFits said → Gives SaidFits (pass said last)
passed None last fit = tt
passed (Some said) last fit = choose SaidFits (last && not (last_rank said.lines == 8)) (Err Order) (Ok (Some said)) tt fit

abbrev FoundFits : Option ℕ → Type 0
FoundFits None = Unit {0}
FoundFits (Some version) = VersionFits version

found_by : (one two : Bool) → FoundFits (if one then Some 1 else (if two then Some 2 else None))
found_by true two = inl refl
found_by false true = inr refl
found_by false false = tt

begun : (found : Option ℕ) → FoundFits found → Gives SaidFits (begin_with found)
begun None fit = tt
begun (Some version) fit = (fit, tt)

added : (said : Saying) (last : Bool) (r : Reading Line) → SayingFits said → Gives (LineFits said.version) r → Gives SaidFits (add_read said last r)
added said last (Ok line) fit fits =
    choose SaidFits (follows (last_rank said.lines) (rank line) && (not last || rank line == 8)) _ _ (
    choose SaidFits (repeats said.lines line) _ _ tt (fit.0, one_more said.version said.lines line fit.1 fits)
    ) tt
added said last (Err cause) fit fits = tt

taken : (said : Said) (last : Bool) (text : Text) → SaidFits said → Gives SaidFits (take_line said last text)
taken None last text fit = begun (version_of text) (found_by (bytes_eq text first_head) (bytes_eq text second_head))
taken (Some said) last text fit = added said last (line_of said.version text) fit (said_fits said.version text (cut 32 text))

stepped : (said : Said) (last : Bool) (text : Text) → SaidFits said → Gives SaidFits (step said last text)
stepped said last text fit =
    choose SaidFits (is_passed_over text) (pass said last) _ (passed said last fit) (
    choose SaidFits (nat_lt 4096 (length text)) (Err TooLong) (take_line said last text) tt (taken said last text fit)
    )

abbrev EndFits : Result Said ProfileError → Type 0
EndFits (Ok said) = SaidFits said
EndFits (Err error) = Unit {0}

onward : (n : ℕ) (r : Reading Said) (later : Said → Result Said ProfileError) → Gives SaidFits r
    → ((said : Said) → SaidFits said → EndFits (later said)) → EndFits (go_on n r later)
onward n (Ok said) later fit fits = fits said fit
onward n (Err cause) later fit fits = tt

all_said : (texts : List Text) (said : Said) (n : ℕ) → SaidFits said → EndFits (said_from said n texts)
all_said [] said n fit = fit
all_said (text ∷ texts) said n fit =
    onward n (step said (is_last texts) text) (λ now. said_from now (n + 1) texts) (stepped said (is_last texts) text fit) (λ now fits. all_said texts now (n + 1) fits)

front : (v : ℕ) (a b : List Line) → LinesFit v (a ++ b) → LinesFit v a
front v [] b fit = tt
front v (line ∷ lines) b fit = (fit.0, front v lines b fit.1)

rest : (v : ℕ) (a b : List Line) → LinesFit v (a ++ b) → LinesFit v b
rest v [] b fit = fit
rest v (line ∷ lines) b fit = rest v lines b fit.1

of_period : (v : ℕ) (period : Option ℕ) → LinesFit v (period_lines period) → PeriodFits v period
of_period v None fit = tt
of_period v (Some turns) fit = fit.0

of_loop : (v : ℕ) (l : ProfileLoop) → LinesFit v (loop_lines l) → PeriodFits v l.period
of_loop v l fit =
    let before_end = front v (open_lines l) (End ∷ []) fit in
    let flows = front v (front_values l) (map (λ x. Value x) l.values) before_end in
    let locals = front v (front_flows l) (map (λ x. Flow x) l.flows) flows in
    let uses = front v (front_locals l) (map (λ x. Local x) l.locals) locals in
    let phis = front v (front_uses l) (map (λ x. Use x) l.uses) uses in
    let blocks = front v (front_phis l) (map (λ x. Phi x) l.phis) phis in
    let period = front v (front_blocks l) (map (λ x. Block x) l.blocks) blocks in
    of_period v l.period (rest v (Loop l.function l.header ∷ []) (period_lines l.period) period)

of_loops : (v : ℕ) (loops : List ProfileLoop) → LinesFit v (flat_map loop_lines loops) → All (λ l. PeriodFits v l.period) loops
of_loops v [] fit = All-nil (λ (l : ProfileLoop). PeriodFits v l.period)
of_loops v (l ∷ loops) fit =
    All-cons (λ (l : ProfileLoop). PeriodFits v l.period) l loops (of_loop v l (front v (loop_lines l) (flat_map loop_lines loops) fit)) (of_loops v loops (rest v (loop_lines l) (flat_map loop_lines loops) fit))

abbrev SaysFits : Result Saying ProfileError → Type 0
SaysFits (Ok said) = SayingFits said
SaysFits (Err error) = Unit {0}

ends : (r : Result Said ProfileError) → EndFits r → SaysFits (headed r)
ends (Ok None) fit = tt
ends (Ok (Some said)) fit = fit
ends (Err error) fit = tt

profile_fits : (text : Text) (profile : Profile) → said_of text ≡ Ok (profile_says profile) → SayingFits (profile_says profile)
profile_fits text profile e =
    subst (λ (r : Result Saying ProfileError). SaysFits r) e (ends (said_from None 1 (lines_of text)) (all_said (lines_of text) None 1 tt))

pub version_read : (text : Text) (r : Result Profile ProfileEnd) → Reads (said_of text) r → IfOk r (λ profile. (profile.version ≡ 1) ⊎ (profile.version ≡ 2))
version_read text (Ok profile) e = (profile_fits text profile e).0
version_read text (Err (Bad error)) e = tt
version_read text (Err Memory) e = tt

pub periods_read : (text : Text) (r : Result Profile ProfileEnd) → Reads (said_of text) r → IfOk r (λ profile. All (λ l. PeriodFits profile.version l.period) profile.loops)
periods_read text (Ok profile) e = of_loops profile.version profile.loops (profile_fits text profile e).1
periods_read text (Err (Bad error)) e = tt
periods_read text (Err Memory) e = tt
