-- One text more, and one number more.
use Rattle.std.proofs.Common.{◌≡◌, ℕ, suc, ◌+◌, ◌*◌, ◌/◌, ◌%◌, ◌^◌, List, ◌++◌, refl, sym, ap, ◌∙◌, arith, append_assoc, append-nil}
use Rattle.std.proofs.Math.Nat.{mod-add-mod}
use Rattle.load_gen.specs.Numbers.{next, drawn, each}
use Rattle.load_gen.specs.Module.{worker_text, function_text}

pub each_none : (text : ℕ → List ℕ) (to : List ℕ) → to ≡ to ++ each text 0
unfolding each
each_none text to = sym (append-nil to)

pub one_more : (text : ℕ → List ℕ) (n : ℕ) (start to next : List ℕ) → to ≡ start ++ each text n → next ≡ to ++ text n → next ≡ start ++ each text (n + 1)
unfolding each
one_more text n start to next so_far more = more ∙ ap (λ t. t ++ text n) so_far ∙ append_assoc start (each text n) (text n) ∙ ap (λ k. start ++ each text k) one
  where
    one : suc n ≡ n + 1
    one = omega arith

-- a product and a sum that wrap
pub next_wraps : (x : ℕ) → ((x * 6364136223846793005) % 18446744073709551616 + 1442695040888963407) % 18446744073709551616 ≡ next x
unfolding next
next_wraps x = mod-add-mod (x * 6364136223846793005) 18446744073709551616 1442695040888963407

pub drawn_first : (number : ℕ) → number ≡ drawn number (2 * 0)
unfolding drawn
drawn_first number = refl

pub drawn_next : (number k m : ℕ) → m ≡ k + 1 → next (drawn number k) ≡ drawn number m
unfolding drawn
drawn_next number k m e = ap (drawn number) (let s : suc k ≡ m = omega arith in s)

-- the numbers of a function are the next two that are drawn
module _ (number j d f a : ℕ) (so_far : d ≡ drawn number (2 * j)) (first : f ≡ next d) (second : a ≡ next f) where
  odd : f ≡ drawn number (2 * j + 1)
  odd = first ∙ ap next so_far ∙ drawn_next number (2 * j) (2 * j + 1) refl

  even : a ≡ drawn number (2 * j + 2)
  even = second ∙ ap next odd ∙ drawn_next number (2 * j + 1) (2 * j + 2) (omega arith)

  pub function_at : worker_text j (f / 2 ^ 40) (a / 2 ^ 40) ≡ function_text number j
  function_at = ap (λ n. worker_text j (n / 2 ^ 40) (a / 2 ^ 40)) odd ∙ ap (λ n. worker_text j (drawn number (2 * j + 1) / 2 ^ 40) (n / 2 ^ 40)) even

  pub drawn_more : a ≡ drawn number (2 * (j + 1))
  drawn_more = even ∙ ap (drawn number) (let e : 2 * j + 2 ≡ 2 * (j + 1) = omega arith in e)

behind : (start t u v : List ℕ) → v ≡ start ++ t → v ++ u ≡ start ++ (t ++ u)
behind start t u v e = ap (λ w. w ++ u) e ∙ append_assoc start t u

-- three texts, each with a number behind it, and a last one
pub numbered : (start first second third all x y z number last : List ℕ) → first ≡ (start ++ x) ++ number → second ≡ (first ++ y) ++ number → third ≡ (second ++ z) ++ number → all ≡ third ++ last
    → all ≡ start ++ ((((((x ++ number) ++ y) ++ number) ++ z) ++ number) ++ last)
numbered start first second third all x y z number last e f g h =
    let a = e ∙ append_assoc start x number in
    let b = f ∙ behind start _ number _ (behind start _ y _ a) in
    let c = g ∙ behind start _ number _ (behind start _ z _ b) in
    h ∙ behind start _ last _ c
