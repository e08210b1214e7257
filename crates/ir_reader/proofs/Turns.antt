-- The turns of a loop that reads items as long as the next token passes a test, each under what those before it left.
use Rattle.std.proofs.Common.{◌≡◌, ℕ, zero, suc, Bool, true, false, List, [], ◌∷◌, ◌++◌, length, ◌-◌, arith, Ok, Err, refl, sym, ap, ◌∙◌, append_assoc}
use Rattle.std.proofs.lemmas.List.{append-nil}
use Rattle.ir_text.specs.declared.fault.ReadEnd.{ReadEnd}
use Rattle.ir_text.specs.declared.fault.ReadEnd.TheVariants as ends
use Rattle.ir_text.specs.Tokens.{TokenV}
use Rattle.ir_text.specs.Reading.{Outcome, Reader, ◌>>=◌, next_is, Fails}
use Rattle.ir_text.specs.Repeated.{repeated_to, repeated_under}
use Rattle.ir_reader.specs.Behind.{behind}

regroup : {A : Type 0} (front : List A) (x : A) (read : Outcome (List A)) → behind front (read >>= λ y. Ok (x ∷ y.0, y.1)) ≡ behind (front ++ x ∷ []) read
regroup {A} front x (Ok y) = ap (λ (xs : List A). Ok (xs, y.1)) (sym (append_assoc front (x ∷ []) y.0))
regroup front x (Err f) = refl

pub sub_zero : (n : ℕ) → n - 0 ≡ n
sub_zero n = omega arith

module _ {S A : Type 0} (test : TokenV → Bool) (item : S → Reader A) (next : S → A → S) where
  pub starts : (s : S) (ts : List TokenV) → behind [] (repeated_to test item next (length ts) s ts) ≡ repeated_under test item next s ts
  unfolding repeated_under
  starts s ts = same (repeated_to test item next (length ts) s ts)
    where
      same : (r : Outcome (List A)) → behind [] r ≡ r
      same (Ok x) = refl
      same (Err f) = refl

  pub begins : (s : S) (ts : List TokenV) (front : List A) → behind front (repeated_to test item next (length ts) s ts) ≡ behind front (repeated_under test item next s ts)
  unfolding repeated_under
  begins s ts front = refl

  pub goes_on : (m n : ℕ) (s : S) (ts : List TokenV) (front : List A) (x : A) (rest : List TokenV) (total : Outcome (List A)) → n ≡ suc m → next_is test ts ≡ true → item s ts ≡ Ok (x, rest)
      → behind front (repeated_to test item next n s ts) ≡ total → behind (front ++ x ∷ []) (repeated_to test item next m (next s x) rest) ≡ total
  unfolding repeated_to
  goes_on m n s ts front x rest total is there h so_far =
      let one : behind front (repeated_to test item next n s ts) ≡ behind (front ++ x ∷ []) (repeated_to test item next m (next s x) rest) = rw (is, there, h) (regroup front x (repeated_to test item next m (next s x) rest)) in
      sym one ∙ so_far

  pub fails : (e : ReadEnd) (m n : ℕ) (s : S) (ts : List TokenV) (front : List A) (total : Outcome (List A)) → n ≡ suc m → next_is test ts ≡ true → Fails e (item s ts)
      → behind front (repeated_to test item next n s ts) ≡ total → Fails e total
  unfolding repeated_to
  fails ends.Memory m n s ts front total is there h so_far = tt
  fails (ends.Bad f) m n s ts front total is there h so_far =
      let one : behind front (repeated_to test item next n s ts) ≡ Err f = rw (is, there, h) refl in
      sym so_far ∙ one

  none : (n : ℕ) (s : S) (ts : List TokenV) → next_is test ts ≡ false → repeated_to test item next n s ts ≡ Ok ([], ts)
  unfolding repeated_to
  none zero s ts e = refl
  none (suc n) s ts e = rw e refl

  flat : (front : List A) (ts : List TokenV) (n : ℕ) (s : S) → repeated_to test item next n s ts ≡ Ok ([], ts) → behind front (repeated_to test item next n s ts) ≡ Ok (front, ts)
  flat front ts n s e = rw e (ap (λ (xs : List A). Ok (xs, ts)) (append-nil front))

  pub ends_there : (n : ℕ) (s : S) (ts : List TokenV) (front : List A) (total : Outcome (List A)) → next_is test ts ≡ false
      → behind front (repeated_to test item next n s ts) ≡ total → total ≡ Ok (front, ts)
  ends_there n s ts front total e so_far = sym so_far ∙ flat front ts n s (none n s ts e)

  pub runs_out : (n : ℕ) (s : S) (ts : List TokenV) (front : List A) (total : Outcome (List A)) → n ≡ 0 → behind front (repeated_to test item next n s ts) ≡ total → total ≡ Ok (front, ts)
  unfolding repeated_to
  runs_out n s ts front total is so_far = sym so_far ∙ flat front ts n s (rw is refl)
