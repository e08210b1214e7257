-- Turns without a bound on the steps.
use Rattle.std.proofs.Common.{◌≡◌, ℕ, ◌+◌, length, sym, subst, ◌∙◌, arith}
use Rattle.turn_laws.specs.Turns.{AtHeader, standing, Arrived, turn_from, turns_from}
use Rattle.turn_laws.specs.Laws.{NextBegins, TurnThenTurns, TurnBeforeTurns}
use Rattle.turn_laws.proofs.Firsts.{arrived_is_first}
use Rattle.turn_laws.proofs.Standing.{header_is_stop}
use Rattle.turn_laws.proofs.Settled.{later, settled_turns, turns_first, begins}

pub next_begins : NextBegins
next_begins code input l s t (n, h) =
    let first = arrived_is_first code input l (length s.frames) s t n h in
    let there = ((header_is_stop code l (length s.frames) t.frames).0 first.stands).0 in
    (there, subst (λ (d : ℕ). standing code l d t.frames ≡ AtHeader) (sym there) first.stands)

pub turn_then_turns : TurnThenTurns
turn_then_turns code input l c s t u (n, h) (m, g) =
    let depth = length s.frames in
    let same = (next_begins code input l s t (n, h)).0 in
    let rest : turns_from code input l depth c t m ≡ (Arrived, u) = subst (λ (d : ℕ). turns_from code input l d c t m ≡ (Arrived, u)) same g in
    let one = (later code input l depth s t n (n + m) h (omega arith)).0 ∙ h in
    let more = (settled_turns code input l depth c t u m (n + m) rest (omega arith)).0 in
    (n + m, turns_first code input l depth c (n + m) s t one ∙ more)

pub turn_before_turns : TurnBeforeTurns
turn_before_turns code input l c s u (n, h) =
    let depth = length s.frames in
    let t = (turn_from code input l depth s n).1 in
    let b = begins code input l depth c n s u h in
    let same = (next_begins code input l s t (n, b.0)).0 in
    (t, (n, b.0), (n, subst (λ (d : ℕ). turns_from code input l d c t n ≡ (Arrived, u)) (sym same) b.1))
