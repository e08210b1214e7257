-- One line more, and the end of the text.
use Rattle.std.proofs.Common.{◌≡◌, ℕ, suc, ◌+◌, Bool, true, false, cond, eqb, List, [], ◌∷◌, None, Some, Ok, Err, length, refl, sym, ap, ◌∙◌, inl, inr, arith}
use Rattle.std.specs.List.{flat_map}
use Rattle.std.proofs.lemmas.List.{append-nil}
use Rattle.std.proofs.lemmas.Bool.Decides.{eqb_tells}
use Rattle.pv_base.specs.Outside.{Text}
use Rattle.profile_lines.specs.declared.profile.ProfileCause.{ProfileCause}
use Rattle.profile_lines.specs.declared.profile.ProfileCause.TheVariants.{Head}
use Rattle.profile_lines.specs.Cuts.{Reading}
use Rattle.profile_reader.specs.declared.reader.Reader.{Reader}
use Rattle.profile_reader.specs.Texts.{lines_of, before_lines}
use Rattle.profile_reader.specs.Grammar.{loop_lines, saying}
use Rattle.profile_reader.specs.Reading.{Said, step, is_last, said_from, go_on, headed}
use Rattle.profile_reader.specs.Standing.{said_by}

is_last_cond : (b : ℕ) (t : Bool) (lines : List Text) → is_last (cond t ([] ∷ lines) (before_lines b lines)) ≡ false
is_last_cond b true lines = refl
is_last_cond b false [] = refl
is_last_cond b false (line ∷ lines) = refl

no_zero : (n : ℕ) → eqb (suc n) 0 ≡ false
no_zero n =
    elim (eqb_tells (suc n) 0) as (λ _. eqb (suc n) 0 ≡ false) [ inl same ↦ absurd (omega (arith, same.1)) | inr other ↦ other.0 ]

-- no line comes after the last byte
pub is_last_at : (tail : Text) → is_last (lines_of tail) ≡ eqb (length tail) 0
is_last_at [] = refl
is_last_at (b ∷ bs) = is_last_cond b (eqb b 10) (lines_of bs) ∙ sym (no_zero (length bs))

said_more : (said : Said) (n : ℕ) (rest first tail : Text) (last : Bool)
    → lines_of rest ≡ first ∷ lines_of tail → last ≡ eqb (length tail) 0
    → said_from said n (lines_of rest) ≡ go_on n (step said last first) (λ now. said_from now (n + 1) (lines_of tail))
said_more said n rest first tail last lines ends = rw (lines, ends, ← is_last_at tail) refl

pub line_taken : (said now : Said) (n : ℕ) (rest first tail : Text) (last : Bool)
    → lines_of rest ≡ first ∷ lines_of tail → last ≡ eqb (length tail) 0 → step said last first ≡ Ok now
    → said_from now (n + 1) (lines_of tail) ≡ said_from said n (lines_of rest)
line_taken said now n rest first tail last lines ends taken =
    sym (said_more said n rest first tail last lines ends ∙ ap (λ (s : Reading Said). go_on n s (λ then. said_from then (n + 1) (lines_of tail))) taken)

pub line_refused : (said : Said) (n : ℕ) (rest first tail : Text) (last : Bool) (cause : ProfileCause)
    → lines_of rest ≡ first ∷ lines_of tail → last ≡ eqb (length tail) 0 → step said last first ≡ Err cause
    → said_from said n (lines_of rest) ≡ Err (record { line = n; cause = cause })
line_refused said n rest first tail last cause lines ends refused =
    said_more said n rest first tail last lines ends ∙ ap (λ (s : Reading Said). go_on n s (λ then. said_from then (n + 1) (lines_of tail))) refused

pub ends_headed : (r : Reader) (version : ℕ) → r.version ≡ Some version → r.open ≡ None → headed (Ok (said_by r)) ≡ Ok (saying version (flat_map loop_lines r.loops))
ends_headed r version is_headed closed = rw (is_headed, closed) (ap (λ l. Ok (saying version l)) (append-nil (flat_map loop_lines r.loops)))

pub ends_unheaded : (r : Reader) → r.version ≡ None → headed (Ok (said_by r)) ≡ Err (record { line = 1; cause = Head })
ends_unheaded r no_head = rw no_head refl
