-- Readings in a row, and by the first token, keep the laws.
use Rattle.std.proofs.Common.{◌≡◌, ℕ, ◌+◌, ◌≤◌, length, arith, List, [], ◌∷◌, ◌++◌, Ok, Err, refl, sym, ap, subst, ◌∙◌, append_assoc, ◌⊎◌, inl, inr}
use Rattle.std.proofs.lemmas.List.{length-append, append-nil}
use Rattle.ir_lex.specs.declared.token.Cause.{Cause}
use Rattle.ir_text.specs.declared.fault.Fault.{Fault}
use Rattle.ir_text.specs.declared.fault.Fault.TheVariants.{At}
use Rattle.ir_text.specs.Tokens.{TokenV}
use Rattle.ir_text.specs.Reading.{Outcome, Reader, ◌>>=◌}
use Rattle.ir_text.specs.Spelled.{Spelling, InTurn, nothing}
use Rattle.ir_text.specs.Lawful.{Follow, ReadsAll, Unfaulted, SameNext, Takes, OnLine, WrongAt, Lawful}

abbrev done : {A : Type 0} → A × List TokenV → Outcome A
done x = Ok x

abbrev failed : {A : Type 0} → Fault → Outcome A
failed d = Err d

-- ---- the same next token

pub same_front : (us vs rest : List TokenV) (t : TokenV) → SameNext (us ++ t ∷ rest) (us ++ t ∷ vs)
same_front [] vs rest t = record { token = t; ts_rest = rest; us_rest = vs; ts_is = refl; us_is = refl }
same_front (u ∷ us) vs rest t = record { token = u; ts_rest = us ++ t ∷ rest; us_rest = us ++ t ∷ vs; ts_is = refl; us_is = refl }

-- what is the same behind tokens
pub same_behind : (us rest vs : List TokenV) → SameNext rest vs → SameNext (us ++ rest) (us ++ vs)
same_behind [] rest vs s = s
same_behind (u ∷ us) rest vs s = record { token = u; ts_rest = us ++ rest; us_rest = us ++ vs; ts_is = refl; us_is = refl }

pub line_behind : (line : ℕ) (us ts : List TokenV) → OnLine line ts → OnLine line (us ++ ts)
line_behind line us ts o = record {
  before = us ++ o.before;
  token = o.token;
  behind = o.behind;
  parts = ap (λ (u : List TokenV). us ++ u) o.parts ∙ sym (append_assoc us o.before (o.token ∷ o.behind));
  is = o.is;
}

-- ---- nothing

nothing_sound : {A : Type 0} (a : A) (ts : List TokenV) (x : A × List TokenV) (o : Outcome A) → o ≡ Ok (a, ts) → o ≡ Ok x → Takes (λ us. Ok (a, us)) (nothing a) ts x.0 x.1
nothing_sound {A} a ts x o e d =
    let v : a ≡ x.0 = cc in
    let r : ts ≡ x.1 = cc in
    let again : (us : List TokenV) → done (a, us) ≡ done (x.0, us) = λ us. rw v refl in
    record { front = []; parts = r; spelled = (v, refl); again = λ others s. again others; alone = inl (again []) }

nothing_complete : {A : Type 0} (a b : A) (ws rest : List TokenV) → a ≡ b → ws ≡ [] → done (a, ws ++ rest) ≡ done (b, rest)
nothing_complete a b ws rest e d = rw (e, d) refl

pub nothing_laws : {A : Type 0} (n : ℕ) (follow : Follow) (a : A) → Lawful n follow (λ ts. Ok (a, ts)) (nothing a)
nothing_laws n follow a = record {
  sound = λ ts x e. nothing_sound a ts x _ refl e;
  complete = λ b ws rest _ s f. nothing_complete a b ws rest s.0 s.1;
  faults = λ ts line cause _ e. absurd cc;
  begins = inl (a, refl);
}

-- ---- one after the other

pub bind_ok : {A B : Type 0} (r : Outcome A) (f : A × List TokenV → Outcome B) (y : B × List TokenV) → (r >>= f) ≡ Ok y → (x : A × List TokenV) × (r ≡ Ok x) × (f x ≡ Ok y)
bind_ok (Ok x) f y e = (x, refl, e)
bind_ok (Err d) f y e = absurd cc

pub bind_err : {A B : Type 0} (r : Outcome A) (f : A × List TokenV → Outcome B) (d : Fault) → (r >>= f) ≡ Err d → (r ≡ Err d) ⊎ ((x : A × List TokenV) × (r ≡ Ok x) × (f x ≡ Err d))
bind_err (Ok x) f d e = inr (x, refl, e)
bind_err (Err c) f d e = inl cc

module _ {A B : Type 0} (n : ℕ) (before follow : Follow) (r : Reader A) (f : A → Reader B) (s : Spelling A) (q : A → Spelling B) (first : Lawful n before r s) (others : (a : A) → Lawful n follow (f a) (q a))
    (fits : (a : A) (b : B) (ws rest : List TokenV) → q a b ws → follow rest → before (ws ++ rest)) where
  abbrev both : Reader B
  both ts = r ts >>= λ x. f x.0 x.1

  -- where all of the first was read
  both_all : (us : List TokenV) (a : A) → ReadsAll (r us) a → Unfaulted (both us)
  both_all us a (inl all) =
      elim (others a).begins [
        | inl h ↦ inl (h.0, rw all h.1)
        | inr h ↦ inr (rw all h)
      ]
  both_all us a (inr more) = inr (rw more refl)

  both_open : (us : List TokenV) → Unfaulted (r us) → Unfaulted (both us)
  both_open us (inl all) = both_all us all.0 (inl all.1)
  both_open us (inr more) = inr (rw more refl)

  -- where all of the second was read behind the first
  both_alone : (us vs : List TokenV) (a : A) (b : B) → ((ws : List TokenV) → SameNext vs ws → r (us ++ ws) ≡ Ok (a, ws)) → ReadsAll (r us) a → ReadsAll (f a vs) b → ReadsAll (both (us ++ vs)) b
  both_alone us [] a b again alone end =
      let go : (u : List TokenV) → u ≡ us → ReadsAll (both u) b = λ u is. rw is (elim alone [
        | inl all ↦ elim end [
          | inl h ↦ inl (rw all h)
          | inr h ↦ inr (rw all h)
        ]
        | inr more ↦ inr (rw more refl)
      ]) in
      go (us ++ []) (append-nil us)
  both_alone us (v ∷ vs) a b again alone end =
      let here : r (us ++ v ∷ vs) ≡ Ok (a, v ∷ vs) = again (v ∷ vs) (record { token = v; ts_rest = vs; us_rest = vs; ts_is = refl; us_is = refl }) in
      elim end [
        | inl h ↦ inl (rw here h)
        | inr h ↦ inr (rw here h)
      ]

  both_sound : (ts : List TokenV) (y : B × List TokenV) → both ts ≡ Ok y → Takes both (InTurn s q) ts y.0 y.1
  both_sound ts y e =
      let b = bind_ok (r ts) (λ x. f x.0 x.1) y e in
      let one = first.sound ts b.0 b.1 in
      let two = (others b.0.0).sound b.0.1 y b.2 in
      record {
        front = one.front ++ two.front;
        parts = one.parts ∙ ap (λ (u : List TokenV). one.front ++ u) two.parts ∙ sym (append_assoc one.front two.front y.1);
        spelled = record { value = b.0.0; front = one.front; rest = two.front; parts = refl; first_spells = one.spelled; rest_spells = two.spelled };
        again = λ us same.
            let next : SameNext b.0.1 (two.front ++ us) = subst (λ (u : List TokenV). SameNext u (two.front ++ us)) (sym two.parts) (same_behind two.front y.1 us same) in
            ap both (append_assoc one.front two.front us) ∙ rw (one.again (two.front ++ us) next) (two.again us same);
        alone = both_cut one.front two.front b.0.0 y.0 b.0.1 y.1 two.parts one.again one.alone two.alone;
      }
    where
      both_cut : (us vs : List TokenV) (a : A) (b : B) (rest more : List TokenV) → rest ≡ vs ++ more → ((ws : List TokenV) → SameNext rest ws → r (us ++ ws) ≡ Ok (a, ws)) → ReadsAll (r us) a → ReadsAll (f a vs) b → ReadsAll (both (us ++ vs)) b
      both_cut us [] a b rest more is again alone end = both_alone us [] a b (λ ws s. absurd (no_next ws s)) alone end
        where
          no_next : (ws : List TokenV) → SameNext [] ws → ⊥
          no_next ws s = let e = s.ts_is in cc
      both_cut us (v ∷ vs) a b rest more is again alone end = both_alone us (v ∷ vs) a b (λ ws s.
          let is : rest ≡ v ∷ (vs ++ more) = is in
          let head : v ∷ vs ≡ s.token ∷ s.ts_rest = s.ts_is in
          let t : v ≡ s.token = cc in
          again ws (record { token = v; ts_rest = vs ++ more; us_rest = s.us_rest; ts_is = is; us_is = s.us_is ∙ ap (λ (z : TokenV). z ∷ s.us_rest) (sym t) })) alone end

  both_complete : (b : B) (ws rest : List TokenV) → length ws ≤ n → InTurn s q b ws → follow rest → both (ws ++ rest) ≡ Ok (b, rest)
  both_complete b ws rest short spelled follows =
      let size : length ws ≡ length spelled.front + length spelled.rest = ap length spelled.parts ∙ length-append spelled.front spelled.rest in
      let cut : ws ++ rest ≡ spelled.front ++ (spelled.rest ++ rest) = ap (λ (u : List TokenV). u ++ rest) spelled.parts ∙ append_assoc spelled.front spelled.rest rest in
      let fit = fits spelled.value b spelled.rest rest spelled.rest_spells follows in
      ap both cut ∙ rw (first.complete spelled.value spelled.front (spelled.rest ++ rest) (omega arith) spelled.first_spells fit) ((others spelled.value).complete b spelled.rest rest (omega arith) spelled.rest_spells follows)

  -- the fault is met in the first
  early : (ts : List TokenV) (line : ℕ) (cause : Cause) → WrongAt r ts line cause → WrongAt both ts line cause
  early ts line cause w = record {
    front = w.front;
    token = w.token;
    rest = w.rest;
    parts = w.parts;
    on_line = w.on_line;
    still_open = both_open w.front w.still_open;
    stays = λ more. rw (w.stays more) refl;
  }

  -- what was read before the fault, up to tokens in which nothing is wrong
  late_open : (us vs rest : List TokenV) (t : TokenV) (a : A) (all : List TokenV) → all ≡ vs ++ t ∷ rest → ((ws : List TokenV) → SameNext all ws → r (us ++ ws) ≡ Ok (a, ws)) → ReadsAll (r us) a → Unfaulted (f a vs) → Unfaulted (both (us ++ vs))
  late_open us [] rest t a all is again alone o = subst (λ (u : List TokenV). Unfaulted (both u)) (sym (append-nil us)) (both_all us a alone)
  late_open us (v ∷ vs) rest t a all is again alone o =
      let here : r (us ++ v ∷ vs) ≡ Ok (a, v ∷ vs) = again (v ∷ vs) (record { token = v; ts_rest = vs ++ t ∷ rest; us_rest = vs; ts_is = is; us_is = refl }) in
      elim o [
        | inl h ↦ inl (h.0, rw here h.1)
        | inr h ↦ inr (rw here h)
      ]

  both_faults : (ts : List TokenV) (line : ℕ) (cause : Cause) → length ts ≤ n → both ts ≡ Err (At line cause) → WrongAt both ts line cause
  both_faults ts line cause short e =
      elim (bind_err (r ts) (λ x. f x.0 x.1) (At line cause) e) [
        | inl h ↦ early ts line cause (first.faults ts line cause short h)
        | inr h ↦
            let one = first.sound ts h.0 h.1 in
            let size : length ts ≡ length one.front + length h.0.1 = ap length one.parts ∙ length-append one.front h.0.1 in
            let w = (others h.0.0).faults h.0.1 line cause (omega arith) h.2 in
            let go : (more : List TokenV) → both (one.front ++ (w.front ++ w.token ∷ more)) ≡ f h.0.0 (w.front ++ w.token ∷ more) = λ more.
            rw (one.again (w.front ++ w.token ∷ more) (subst (λ (u : List TokenV). SameNext u (w.front ++ w.token ∷ more)) (sym w.parts) (same_front w.front more w.rest w.token))) refl in
            record {
              front = one.front ++ w.front;
              token = w.token;
              rest = w.rest;
              parts = one.parts ∙ ap (λ (u : List TokenV). one.front ++ u) w.parts ∙ sym (append_assoc one.front w.front (w.token ∷ w.rest));
              on_line = subst (λ (u : List TokenV). OnLine line u) (sym (append_assoc one.front w.front (w.token ∷ []))) (line_behind line one.front (w.front ++ w.token ∷ []) w.on_line);
              still_open = late_open one.front w.front w.rest w.token h.0.0 h.0.1 w.parts one.again one.alone w.still_open;
              stays = λ more. ap both (append_assoc one.front w.front (w.token ∷ more)) ∙ go more ∙ w.stays more;
            }
      ]

  pub in_turn_before : Lawful n follow both (InTurn s q)
  in_turn_before = record { sound = both_sound; complete = both_complete; faults = both_faults; begins = both_open [] first.begins }
