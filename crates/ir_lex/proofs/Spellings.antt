-- What digits and strings spell, a byte at a time.
use Rattle.std.proofs.Common.{◌≡◌, ℕ, zero, suc, ◌+◌, ◌-◌, ◌*◌, ◌<◌, ◌≤◌, List, [], ◌∷◌, length, drop, get_or, refl, sym, ap, ◌∙◌, arith}
use Rattle.std.proofs.Math.Seq.{drop-cons}
use Rattle.std.proofs.Math.ListN.{drop_of_length-le}
use Rattle.std.proofs.lemmas.List.{drop-drop}
use Rattle.ir_lex.specs.Spelling.{number_after, written, meant, decoded_from}

pub number_grows : (n : ℕ) (ds : List ℕ) → n ≤ number_after n ds
unfolding number_after
number_grows n [] = omega arith
number_grows n (b ∷ ds) = let go = number_grows (n * 10 + (b - 48)) ds in omega arith

pub number_step : (n i : ℕ) (ds : List ℕ) → i < length ds → number_after n (drop i ds) ≡ number_after (n * 10 + (get_or ds i 0 - 48)) (drop (i + 1) ds)
unfolding number_after
number_step n i ds lt =
    let e : i + 1 ≡ suc i = omega arith in
    rw e (ap (number_after n) (drop-cons ds i 0 lt))

pub number_end : (n i : ℕ) (ds : List ℕ) → length ds ≤ i → number_after n (drop i ds) ≡ n
unfolding number_after
number_end n i ds le = ap (number_after n) (drop_of_length-le ds le)

decoded_pass : (text : List ℕ) (n : ℕ) → decoded_from text n ≡ decoded_from (drop n text) 0
unfolding decoded_from
decoded_pass [] zero = refl
decoded_pass [] (suc n) = refl
decoded_pass (b ∷ rest) zero = refl
decoded_pass (b ∷ rest) (suc n) = decoded_pass rest n

front_step : (n b : ℕ) (rest : List ℕ) → written (b ∷ rest) ≡ n → 0 < n → decoded_from (b ∷ rest) 0 ≡ meant (b ∷ rest) ∷ decoded_from (drop n (b ∷ rest)) 0
unfolding decoded_from
front_step zero b rest is pos = absurd (omega arith)
front_step (suc n) b rest is pos =
    let f : suc n - 1 ≡ n = omega arith in
    rw (is, f) (ap (λ (x : List ℕ). meant (b ∷ rest) ∷ x) (decoded_pass rest n))

pub decoded_step : (text : List ℕ) (at n : ℕ) → at < length text → n ≡ written (drop at text) → 0 < n → decoded_from (drop at text) 0 ≡ meant (drop at text) ∷ decoded_from (drop (at + n) text) 0
decoded_step text at n lt is pos =
    let d : drop at text ≡ get_or text at 0 ∷ drop (suc at) text = drop-cons text at 0 lt in
    let one = front_step n (get_or text at 0) (drop (suc at) text) (ap written (sym d) ∙ sym is) pos in
    ap (λ (t : List ℕ). decoded_from t 0) d ∙ one ∙ ap (λ (t : List ℕ). meant t ∷ decoded_from (drop n t) 0) (sym d) ∙ ap (λ (t : List ℕ). meant (drop at text) ∷ decoded_from t 0) (drop-drop n at text)

pub decoded_end : (text : List ℕ) (at : ℕ) → length text ≤ at → decoded_from (drop at text) 0 ≡ []
unfolding decoded_from
decoded_end text at le = ap (λ (t : List ℕ). decoded_from t 0) (drop_of_length-le text le)
