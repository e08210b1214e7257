-- Sums that may leave 128 bits.
use Rattle.std.proofs.Common.{◌≡◌, ◌^◌, ℕ, suc, ◌+◌, ◌<◌, ◌≤◌, List, length, drop, get_or, Result, Ok, Err, refl, ap, arith, add-one, drop-cons}
use Rattle.std.specs.Prelude.{ℤ, pos, ◌+ℤ◌, ◌-ℤ◌, ◌*ℤ◌}
use Rattle.std.proofs.lemmas.Int.{ints}
use Rattle.std.proofs.lemmas.List.{drop_all}
use Rattle.ir_code.specs.declared.op.Index.{Index}
use Rattle.mem_image.specs.declared.fault.Trap.{Trap}
use Rattle.seq_effects.specs.declared.state.Frame.{Frame}
use Rattle.seq_effects.specs.Values.{then_}
use Rattle.seq_effects.specs.Accesses.{term, distance}

pub turn_up : (a b c t : ℤ) → c +ℤ pos (2 ^ 128) ≡ a +ℤ b → c +ℤ (t +ℤ pos 1) *ℤ pos (2 ^ 128) ≡ (a +ℤ t *ℤ pos (2 ^ 128)) +ℤ b
turn_up a b c t e = omega (arith, ints)

pub turn_down : (a b c t : ℤ) → c ≡ a +ℤ b +ℤ pos (2 ^ 128) → c +ℤ (t -ℤ pos 1) *ℤ pos (2 ^ 128) ≡ (a +ℤ t *ℤ pos (2 ^ 128)) +ℤ b
turn_down a b c t e = omega (arith, ints)

pub no_turn : (a b c t : ℤ) → c ≡ a +ℤ b → c +ℤ t *ℤ pos (2 ^ 128) ≡ (a +ℤ t *ℤ pos (2 ^ 128)) +ℤ b
no_turn a b c t e = omega (arith, ints)

pub ruleset totals = (turn_up, turn_down, no_turn)

-- the sum so far, and what is left
abbrev pub onto : ℤ → Result ℤ Trap → Result ℤ Trap
onto so_far rest = then_ rest (λ d. Ok (so_far +ℤ d))

cons_onto : (so_far t : ℤ) (rest : Result ℤ Trap) → onto so_far (then_ rest (λ d. Ok (t +ℤ d))) ≡ onto (so_far +ℤ t) rest
cons_onto so_far t (Ok d) = let e : so_far +ℤ (t +ℤ d) ≡ so_far +ℤ t +ℤ d = omega (arith, ints) in ap Ok e
cons_onto so_far t (Err trap) = refl

pub sum_start : (r : Result ℤ Trap) → onto (pos 0) r ≡ r
sum_start (Ok d) = let e : pos 0 +ℤ d ≡ d = omega (arith, ints) in ap Ok e
sum_start (Err t) = refl

pub sum_on : (is : List Index) (f : Frame) (so_far next t : ℤ) (i : ℕ) (x : Index) → i < length is → x ≡ get_or is i x → Ok t ≡ term f x → next ≡ so_far +ℤ t → onto so_far (distance f (drop i is)) ≡ onto next (distance f (drop (i + 1) is))
sum_on is f so_far next t i x lt same e sum = rw (add-one, drop-cons is i x, ← same, ← e, sum) (cons_onto so_far t (distance f (drop (suc i) is)))

pub sum_err : (is : List Index) (f : Frame) (so_far : ℤ) (i : ℕ) (x : Index) (t : Trap) → i < length is → x ≡ get_or is i x → Err t ≡ term f x → onto so_far (distance f (drop i is)) ≡ Err t
sum_err is f so_far i x t lt same e = rw (drop-cons is i x, ← same, ← e) refl

pub sum_end : (is : List Index) (f : Frame) (so_far : ℤ) (i : ℕ) → length is ≤ i → onto so_far (distance f (drop i is)) ≡ Ok so_far
sum_end is f so_far i h = let z : so_far +ℤ pos 0 ≡ so_far = omega (arith, ints) in rw (drop_all i is h) (ap Ok z)
