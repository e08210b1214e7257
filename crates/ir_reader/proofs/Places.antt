-- Where something is wrong in the fewest tokens.
use Rattle.std.proofs.Common.{◌≡◌, ℕ, zero, suc, ◌<◌, ◌≤◌, ◌+◌, ◌-◌, List, [], ◌∷◌, ◌++◌, length, take, drop, Option, Some, None, refl, sym, ap, ◌∙◌, append_assoc, arith}
use Rattle.std.specs.Option.{option_or}
use Rattle.std.proofs.lemmas.List.{append-nil}
use Rattle.std.proofs.Math.Seq.{take-length}
use Rattle.ir_text.specs.declared.fault.Fault.{Fault}
use Rattle.ir_text.specs.Tokens.{TokenV}
use Rattle.ir_grammar.specs.Texts.{first_wrong}

or_next : (f : Fault) (o next : Option Fault) → ((g : Fault) → o ≡ Some g → g ≡ f) → next ≡ Some f → option_or o next ≡ Some f
or_next f (Some g) next is e = ap Some (is g refl)
or_next f None next is e = e

take_none : (k : ℕ) → take k (let none : List TokenV = [] in none) ≡ []
take_none zero = refl
take_none (suc k) = refl

take_more : (k m : ℕ) (ts : List TokenV) → take k ts ++ take m (drop k ts) ≡ take (k + m) ts
take_more zero m ts =
    let on : m ≡ zero + m = omega arith in
    ap (λ (n : ℕ). take n ts) on
take_more (suc k) m [] = take_none m ∙ sym (take_none (suc k + m))
take_more (suc k) m (t ∷ ts) =
    let on : suc (k + m) ≡ suc k + m = omega arith in
    ap (λ (us : List TokenV). t ∷ us) (take_more k m ts) ∙ ap (λ (n : ℕ). take n (t ∷ ts)) on

-- Something is wrong in so many tokens, and nothing in fewer than so many.
pub record IsBetween (wrong : List TokenV → Option Fault) (ts : List TokenV) (least most : ℕ) (found : Fault) : Type 0 where
  pub before : (k : ℕ) → k < least → wrong (take k ts) ≡ None
  pub here : wrong (take most ts) ≡ Some found

module _ (wrong : List TokenV → Option Fault) where
  pub none_wrong : (ts front rest : List TokenV) → front ++ rest ≡ ts → ((us more : List TokenV) → us ++ more ≡ ts → wrong us ≡ None) → first_wrong wrong front rest ≡ None
  unfolding first_wrong
  none_wrong ts front [] e all = all front [] e
  none_wrong ts front (t ∷ rest) e all = rw (all front (t ∷ rest) e) (none_wrong ts (front ++ t ∷ []) rest (append_assoc front (t ∷ []) rest ∙ e) all)

  pub one_wrong : (f : Fault) (ts front rest : List TokenV) → front ++ rest ≡ ts → ((us more : List TokenV) → us ++ more ≡ ts → (g : Fault) → wrong us ≡ Some g → g ≡ f) → wrong ts ≡ Some f
      → first_wrong wrong front rest ≡ Some f
  unfolding first_wrong
  one_wrong f ts front [] e all here =
      let whole : front ≡ ts = sym (append-nil front) ∙ e in
      ap wrong whole ∙ here
  one_wrong f ts front (t ∷ rest) e all here =
      or_next f (wrong front) (first_wrong wrong (front ++ t ∷ []) rest) (all front (t ∷ rest) e) (one_wrong f ts (front ++ t ∷ []) rest (append_assoc front (t ∷ []) rest ∙ e) all here)

  least_wrong : (f : Fault) (k : ℕ) (front rest : List TokenV) → ((j : ℕ) → j < k → wrong (front ++ take j rest) ≡ None) → wrong (front ++ take k rest) ≡ Some f → first_wrong wrong front rest ≡ Some f
  unfolding first_wrong
  least_wrong f k front [] before here = ap wrong (sym (append-nil front) ∙ ap (λ (us : List TokenV). front ++ us) (sym (take_none k))) ∙ here
  least_wrong f zero front (t ∷ rest) before here =
      let first : wrong front ≡ Some f = ap wrong (sym (append-nil front)) ∙ here in
      rw first refl
  least_wrong f (suc k) front (t ∷ rest) before here =
      let first : wrong front ≡ None = ap wrong (sym (append-nil front)) ∙ before 0 (omega arith) in
      rw first
      (least_wrong f k (front ++ t ∷ []) rest (λ j lt. ap wrong (append_assoc front (t ∷ []) (take j rest)) ∙ before (suc j) (omega arith)) (ap wrong (append_assoc front (t ∷ []) (take k rest)) ∙ here))

  pub search_starts : (ts : List TokenV) (f : Fault) → wrong ts ≡ Some f → IsBetween wrong ts 0 (length ts) f
  search_starts ts f here = record {
    before = λ k lt. absurd (omega arith);
    here = ap wrong (take-length ts) ∙ here;
  }

  pub search_falls : (ts : List TokenV) (least most middle : ℕ) (f g : Fault) → IsBetween wrong ts least most f → wrong (take middle ts) ≡ Some g → IsBetween wrong ts least middle g
  search_falls ts least most middle f g is here = record { before = is.before; here = here }

  pub search_rises : ((us more : List TokenV) → wrong (us ++ more) ≡ None → wrong us ≡ None) → (ts : List TokenV) (least most middle : ℕ) (f : Fault)
      → IsBetween wrong ts least most f → wrong (take middle ts) ≡ None → IsBetween wrong ts (middle + 1) most f
  search_rises stays ts least most middle f is none = record {
    before = λ k lt.
        let on : k + (middle - k) ≡ middle = omega (arith, lt) in
        let parts : take k ts ++ take (middle - k) (drop k ts) ≡ take middle ts = take_more k (middle - k) ts ∙ ap (λ (n : ℕ). take n ts) on in
        stays (take k ts) (take (middle - k) (drop k ts)) (ap wrong parts ∙ none);
    here = is.here;
  }

  pub search_ends : (ts : List TokenV) (least most : ℕ) (f : Fault) → most ≤ least → IsBetween wrong ts least most f → first_wrong wrong [] ts ≡ Some f
  search_ends ts least most f over is = least_wrong f most [] ts (λ k lt. is.before k (omega (arith, over, lt))) is.here
