-- A line that repeats another.
use Rattle.std.proofs.Common.{◌≡◌, ℕ, Bool, true, false, eqb, ◌&&◌, ◌||◌, Err, refl, sym, ◌∙◌}
use Rattle.std.specs.Prelude.{not}
use Rattle.profile_lines.specs.declared.profile.ProfileCause.TheVariants.{Repeat}
use Rattle.profile_lines.specs.declared.lines.Line.{Line}
use Rattle.profile_lines.specs.Keys.{rank}
use Rattle.profile_reader.specs.Grammar.{Saying}
use Rattle.profile_reader.specs.Reading.{follows, last_rank, repeats, add}

from_not : (b : Bool) → false ≡ not b → b ≡ true
from_not true e = refl
from_not false e = cc

pub from_not_true : (b : Bool) → not b ≡ true → b ≡ false
from_not_true true e = cc
from_not_true false e = refl

pub from_not_false : (b : Bool) → not b ≡ false → b ≡ true
from_not_false true e = refl
from_not_false false e = cc

pub add_repeats : (said : Saying) (line : Line) (last : Bool) (before next : ℕ) (fitting new : Bool)
    → before ≡ last_rank said.lines → next ≡ rank line → fitting ≡ (follows before next && (not last || eqb next 8)) → fitting ≡ true
    → new ≡ not (repeats said.lines line) → new ≡ false → add said last line ≡ Err Repeat
add_repeats said line last before next fitting new is_last is_rank is_fitting fits is_new old =
    let stands : (follows (last_rank said.lines) (rank line) && (not last || eqb (rank line) 8)) ≡ true = rw (← is_last, ← is_rank) (sym is_fitting ∙ fits) in
    let again : repeats said.lines line ≡ true = from_not _ (sym old ∙ is_new) in
    rw (stands, again) refl
