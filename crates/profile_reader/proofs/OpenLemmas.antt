-- A loop that is open, before and after one more line.
use Rattle.std.proofs.Common.{◌≡◌, ℕ, ◌<◌, ◌≤◌, List, [], ◌∷◌, ◌++◌, None, refl, sym, ap, ◌∙◌, arith}
use Rattle.std.specs.Prelude.{IsTrue}
use Rattle.std.specs.List.{flat_map}
use Rattle.std.proofs.lemmas.List.{append-nil, append_assoc}
use Rattle.std.proofs.lemmas.Bool.Decides.{nat_tests}
use Rattle.profile_lines.specs.declared.profile.ProfileLoop.{ProfileLoop}
use Rattle.profile_lines.specs.declared.lines.Line.{Line}
use Rattle.profile_lines.specs.declared.lines.Line.TheVariants.{Loop, Period, Block, Phi, Use, Local, Flow, Value, End}
use Rattle.profile_lines.specs.Keys.{rank}
use Rattle.profile_reader.specs.Grammar.{open_lines, loop_lines}
use Rattle.profile_reader.specs.Reading.{follows}
use Rattle.profile_reader.specs.Standing.{InOrder}

pub not_before : (last next : ℕ) → IsTrue (follows last next) → last < 8 → last ≤ next
not_before last next after inside = grind (arith, nat_tests)

period_after : (last next : ℕ) → IsTrue (follows last next) → last < 8 → next ≡ 1 → last ≡ 0
period_after last next after inside is = grind (arith, nat_tests)

pub order_stays : (l : ProfileLoop) (last next : ℕ) → IsTrue (follows last next) → last < 8 → InOrder l last → InOrder l next
order_stays l last next after inside order =
    let le = not_before last next after inside in
    record {
      period = λ less. order.period (omega arith);
      blocks = λ less. order.blocks (omega arith);
      phis = λ less. order.phis (omega arith);
      uses = λ less. order.uses (omega arith);
      locals = λ less. order.locals (omega arith);
      flows = λ less. order.flows (omega arith);
      values = λ less. order.values (omega arith);
    }

pub no_period_yet : (l : ProfileLoop) (last next : ℕ) → IsTrue (follows last next) → last < 8 → InOrder l last → next ≡ 1 → l.period ≡ None
no_period_yet l last next after inside order is =
    let first = period_after last next after inside is in
    order.period (omega arith)

rank_of_end : (line : Line) → rank line ≡ 8 → line ≡ End
rank_of_end (Loop function header) is = absurd (omega arith)
rank_of_end (Period turns) is = absurd (omega arith)
rank_of_end (Block name) is = absurd (omega arith)
rank_of_end (Phi line) is = absurd (omega arith)
rank_of_end (Use line) is = absurd (omega arith)
rank_of_end (Local site) is = absurd (omega arith)
rank_of_end (Flow line) is = absurd (omega arith)
rank_of_end (Value line) is = absurd (omega arith)
rank_of_end End is = refl

one_more : (loops : List ProfileLoop) (l : ProfileLoop) → flat_map loop_lines (loops ++ l ∷ []) ≡ flat_map loop_lines loops ++ loop_lines l
one_more [] l = append-nil (loop_lines l)
one_more (k ∷ ks) l =
    ap (λ (t : List Line). loop_lines k ++ t) (one_more ks l)
    ∙ sym (append_assoc (loop_lines k) (flat_map loop_lines ks) (loop_lines l))

pub loop_ends : (loops : List ProfileLoop) (l : ProfileLoop) (line : Line) → rank line ≡ 8
    → flat_map loop_lines (loops ++ l ∷ []) ++ [] ≡ (flat_map loop_lines loops ++ open_lines l) ++ line ∷ []
loop_ends loops l line is =
    append-nil (flat_map loop_lines (loops ++ l ∷ [])) ∙ one_more loops l
    ∙ sym (append_assoc (flat_map loop_lines loops) (open_lines l) (End ∷ []))
    ∙ ap (λ (e : Line). (flat_map loop_lines loops ++ open_lines l) ++ e ∷ []) (sym (rank_of_end line is))
