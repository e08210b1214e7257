-- The laws of readings in a row, and what one more of them makes.
use Rattle.std.proofs.Common.{◌≡◌, ℕ, zero, suc, ◌+◌, ◌≤◌, length, arith, Bool, true, false, cond, List, [], ◌∷◌, ◌++◌, Ok, Err, refl, sym, ap, ◌∙◌, append_assoc}
use Rattle.std.proofs.lemmas.List.{append-nil, length-append}
use Rattle.ir_text.specs.declared.fault.ReadEnd.{ReadEnd}
use Rattle.ir_text.specs.declared.fault.ReadEnd.TheVariants as ends
use Rattle.ir_text.specs.Tokens.{TokenV}
use Rattle.ir_text.specs.Reading.{Outcome, Reader, ◌>>=◌, gives, next_is, Fails}
use Rattle.ir_text.specs.Spelled.{Spelling}
use Rattle.ir_text.specs.Lawful.{Follow, Behind, Lawful}
use Rattle.ir_text.specs.Choice.{choose, Opens}
use Rattle.ir_text.specs.Repeated.{repeated_to, repeated_under, each_under}
use Rattle.ir_text.proofs.Persisting.{counted, shortens}
use Rattle.ir_text.proofs.Repeating.{many_laws, takes}

bind_same : {A B : Type 0} (n : ℕ) (o : Outcome A) (f g : A × List TokenV → Outcome B) → ((x : A × List TokenV) → o ≡ Ok x → f x ≡ g x) → (o >>= f) ≡ (o >>= g)
bind_same n (Ok x) f g h = h x refl
bind_same n (Err d) f g h = refl

-- what was read before, and what is still read
abbrev pub behind : {A : Type 0} → List A → Outcome (List A) → Outcome (List A)
behind front read = read >>= λ x. Ok (front ++ x.0, x.1)

regroup : {A : Type 0} (front : List A) (x : A) (read : Outcome (List A)) → behind front (read >>= λ y. Ok (x ∷ y.0, y.1)) ≡ behind (front ++ x ∷ []) read
regroup {A} front x (Ok y) = ap (λ (xs : List A). Ok (xs, y.1)) (sym (append_assoc front (x ∷ []) y.0))
regroup front x (Err f) = refl

module _ {S A : Type 0} (test : TokenV → Bool) (item : S → Reader A) (next : S → A → S) (less : (state : S) (ts : List TokenV) (x : A × List TokenV) → item state ts ≡ Ok x → 1 + length x.1 ≤ length ts) where
  none_first : (ts : List TokenV) → length ts ≤ 0 → next_is test ts ≡ false
  unfolding next_is
  none_first [] le = refl
  none_first (t ∷ ts) le = absurd (omega arith)

  -- more steps than tokens change nothing
  pub enough : (k m : ℕ) (state : S) (ts : List TokenV) → length ts ≤ k → length ts ≤ m → repeated_to test item next k state ts ≡ repeated_to test item next m state ts
  unfolding repeated_to
  enough zero zero state ts le lt = refl
  enough zero (suc m) state ts le lt = rw (none_first ts le) refl
  enough (suc k) zero state ts le lt = rw (none_first ts lt) refl
  enough (suc k) (suc m) state ts le lt =
      let one : (item state ts >>= λ first. repeated_to test item next k (next state first.0) first.1 >>= λ others. Ok (first.0 ∷ others.0, others.1))
      ≡ (item state ts >>= λ first. repeated_to test item next m (next state first.0) first.1 >>= λ others. Ok (first.0 ∷ others.0, others.1)) =
      bind_same 0 (item state ts) _ _ (λ x e.
      let fewer : 1 + length x.1 ≤ length ts = less state ts x e in
      ap (λ (o : Outcome (List A)). o >>= λ others. Ok (x.0 ∷ others.0, others.1)) (enough k m (next state x.0) x.1 (omega arith) (omega arith))) in
      ap (λ (o : Outcome (List A)). cond (next_is test ts) o (Ok ([], ts))) one

  -- one after the other, with no count
  pub repeated_is : (state : S) (ts : List TokenV) → repeated_under test item next state ts
      ≡ choose test (λ us. item state us >>= λ first. repeated_under test item next (next state first.0) first.1 >>= λ others. Ok (first.0 ∷ others.0, others.1)) (gives []) ts
  unfolding repeated_under
  repeated_is state ts =
      let one : (item state ts >>= λ first. repeated_to test item next (length ts) (next state first.0) first.1 >>= λ others. Ok (first.0 ∷ others.0, others.1))
      ≡ (item state ts >>= λ first. repeated_to test item next (length first.1) (next state first.0) first.1 >>= λ others. Ok (first.0 ∷ others.0, others.1)) =
      bind_same 0 (item state ts) _ _ (λ x e.
      let fewer : 1 + length x.1 ≤ length ts = less state ts x e in
      ap (λ (o : Outcome (List A)). o >>= λ others. Ok (x.0 ∷ others.0, others.1)) (enough (length ts) (length x.1) (next state x.0) x.1 (omega arith) (omega arith))) in
      let more : repeated_to test item next (length ts) state ts ≡ repeated_to test item next (suc (length ts)) state ts = enough (length ts) (suc (length ts)) state ts (omega arith) (omega arith) in
      let opened : repeated_to test item next (suc (length ts)) state ts
      ≡ choose test (λ us. item state us >>= λ first. repeated_to test item next (length ts) (next state first.0) first.1 >>= λ others. Ok (first.0 ∷ others.0, others.1)) (gives []) ts =
      unfold repeated_to in refl in
      more ∙ opened ∙ ap (λ (o : Outcome (List A)). cond (next_is test ts) o (Ok ([], ts))) one

  -- ---- a loop's turns

  pub starts : (s : S) (ts : List TokenV) → behind [] (repeated_under test item next s ts) ≡ repeated_under test item next s ts
  starts s ts = same (repeated_under test item next s ts)
    where
      same : (r : Outcome (List A)) → behind [] r ≡ r
      same (Ok x) = refl
      same (Err f) = refl

  pub goes_on : (s : S) (ts : List TokenV) (front : List A) (x : A) (rest : List TokenV) (total : Outcome (List A)) → next_is test ts ≡ true → item s ts ≡ Ok (x, rest)
      → behind front (repeated_under test item next s ts) ≡ total → behind (front ++ x ∷ []) (repeated_under test item next (next s x) rest) ≡ total
  goes_on s ts front x rest total there h so_far =
      let one : behind front (repeated_under test item next s ts) ≡ behind (front ++ x ∷ []) (repeated_under test item next (next s x) rest) =
      ap (behind front) (repeated_is s ts) ∙ rw (there, h) (regroup front x (repeated_under test item next (next s x) rest)) in
      sym one ∙ so_far

  pub fails : (e : ReadEnd) (s : S) (ts : List TokenV) (front : List A) (total : Outcome (List A)) → next_is test ts ≡ true → Fails e (item s ts)
      → behind front (repeated_under test item next s ts) ≡ total → Fails e total
  fails ends.Memory s ts front total there h so_far = tt
  fails (ends.Bad f) s ts front total there h so_far =
      let one : behind front (repeated_under test item next s ts) ≡ Err f = ap (behind front) (repeated_is s ts) ∙ rw (there, h) refl in
      sym so_far ∙ one

  pub ends_there : (s : S) (ts : List TokenV) (front : List A) (total : Outcome (List A)) → next_is test ts ≡ false
      → behind front (repeated_under test item next s ts) ≡ total → total ≡ Ok (front, ts)
  ends_there s ts front total none so_far =
      let one : behind front (repeated_under test item next s ts) ≡ Ok (front, ts) = ap (behind front) (repeated_is s ts) ∙ rw none (ap (λ (xs : List A). Ok (xs, ts)) (append-nil front)) in
      sym so_far ∙ one

-- ---- the laws

module _ {S A : Type 0} (n : ℕ) (test : TokenV → Bool) (item : S → Reader A) (next : S → A → S) (spells : S → Spelling A) (between : Follow)
    (laws : (state : S) → Lawful n between (item state) (spells state))
    (opens : (state : S) (a : A) (ws : List TokenV) → spells state a ws → Opens test ws)
    (followed : (state : S) (a : A) (ws rest : List TokenV) → spells state a ws → between (ws ++ rest)) where
  few : (state : S) (all : List A) (ws : List TokenV) → each_under spells next state all ws → length all ≤ length ws
  few state [] ws s = omega arith
  few state (a ∷ all) ws s =
      let one = takes n test item next spells between laws opens followed state a s.front s.first_spells in
      let others = few (next state a) all s.rest s.rest_spells in
      let size : length ws ≡ length s.front + length s.rest = ap length s.parts ∙ length-append s.front s.rest in
      omega arith

  pub repeated_laws : (state : S) → Lawful n (Behind test between) (repeated_under test item next state) (each_under spells next state)
  unfolding repeated_under
  repeated_laws state = counted n (Behind test between) (λ k. repeated_to test item next k state) (each_under spells next state)
      (λ k m ts le lt. enough test item next (λ s ts x e. shortens n between (item s) (spells s) (laws s) (takes n test item next spells between laws opens followed s) ts x e) k m state ts le lt)
      (λ k le. bounded k le (many_laws n test item next spells between laws opens followed k state))
    where
      bounded : (k : ℕ) → n ≤ k → Lawful n (Behind test between) (repeated_to test item next k state) (λ all ws. each_under spells next state all ws × (length all ≤ k)) → Lawful n (Behind test between) (repeated_to test item next k state) (each_under spells next state)
      bounded k le one = record {
        sound = λ ts x e. let t = one.sound ts x e in record { front = t.front; parts = t.parts; spelled = t.spelled.0; again = t.again; alone = t.alone };
        complete = λ a ws rest short s f. one.complete a ws rest short (s, (let less = few state a ws s in omega arith)) f;
        faults = one.faults;
        begins = one.begins;
      }
