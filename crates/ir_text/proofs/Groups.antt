-- Groups in brackets keep the laws.
use Rattle.std.proofs.Common.{◌≡◌, ℕ, suc, ◌-◌, ◌≤◌, length, arith, true, false, leb, List, [], ◌∷◌, ◌++◌, Ok, Err, refl, sym, ap, subst, ◌∙◌, inl, inr}
use Rattle.std.proofs.lemmas.Bool.{cases_Bool}
use Rattle.std.proofs.lemmas.List.{append-nil}
use Rattle.ir_lex.specs.declared.token.Cause.{Cause}
use Rattle.ir_text.specs.declared.fault.Fault.TheVariants.{At, Ended}
use Rattle.ir_text.specs.Tokens.{TokenV}
use Rattle.ir_text.specs.Reading.{Outcome}
use Rattle.ir_text.specs.Lawful.{anything, Lawful}
use Rattle.ir_text.specs.Passed.{is_opening, is_closing, group_from, closed_from, a_group}

-- what a front of tokens is read as, whatever stands behind it
record Closes (depth : ℕ) (ts rest : List TokenV) : Type 0 where
  front : List TokenV
  parts : ts ≡ front ++ rest
  spelled : closed_from depth front
  always : (others : List TokenV) → group_from depth (front ++ others) ≡ Ok (tt, others)

further : (depth other : ℕ) (t : TokenV) (ts rest : List TokenV) → Closes other ts rest → ((us : List TokenV) → group_from depth (t ∷ us) ≡ group_from other us) → ((us : List TokenV) → closed_from other us → closed_from depth (t ∷ us)) → Closes depth (t ∷ ts) rest
further depth other t ts rest one reads spells = record {
  front = t ∷ one.front;
  parts = ap (λ (u : List TokenV). t ∷ u) one.parts;
  spelled = spells one.front one.spelled;
  always = λ others. reads (one.front ++ others) ∙ one.always others;
}

-- what the next token leads to
abbrev SameReading : ℕ → ℕ → TokenV → Type 0
SameReading depth other t = (us : List TokenV) → group_from depth (t ∷ us) ≡ group_from other us

module _ (depth : ℕ) (t : TokenV) where
  pub opened : is_opening t ≡ true → SameReading depth (suc depth) t
  unfolding group_from
  opened o us = rw o refl

  pub inner : is_opening t ≡ false → is_closing t ≡ true → leb depth 1 ≡ false → SameReading depth (depth - 1) t
  unfolding group_from
  inner o c l us = rw (o, c, l) refl

  pub plain : is_opening t ≡ false → is_closing t ≡ false → SameReading depth depth t
  unfolding group_from
  plain o c us = rw (o, c) refl

  pub last : is_opening t ≡ false → is_closing t ≡ true → leb depth 1 ≡ true → (us : List TokenV) → group_from depth (t ∷ us) ≡ Ok (tt, us)
  unfolding group_from
  last o c l us = rw (o, c, l) refl

  opened_spells : is_opening t ≡ true → (us : List TokenV) → closed_from (suc depth) us ≡ closed_from depth (t ∷ us)
  unfolding closed_from
  opened_spells o us = rw o refl

  inner_spells : is_opening t ≡ false → is_closing t ≡ true → leb depth 1 ≡ false → (us : List TokenV) → closed_from (depth - 1) us ≡ closed_from depth (t ∷ us)
  unfolding closed_from
  inner_spells o c l us = rw (o, c, l) refl

  plain_spells : is_opening t ≡ false → is_closing t ≡ false → (us : List TokenV) → closed_from depth us ≡ closed_from depth (t ∷ us)
  unfolding closed_from
  plain_spells o c us = rw (o, c) refl

  last_spells : is_opening t ≡ false → is_closing t ≡ true → leb depth 1 ≡ true → (us : List TokenV) → (us ≡ []) ≡ closed_from depth (t ∷ us)
  unfolding closed_from
  last_spells o c l us = rw (o, c, l) refl

pub none_open : (depth : ℕ) → group_from depth [] ≡ Err Ended
unfolding group_from
none_open depth = refl

none_closed : (depth : ℕ) → closed_from depth [] → ⊥
unfolding closed_from
none_closed depth s = s

abbrev done : (Unit {0}) × List TokenV → Outcome (Unit {0})
done x = Ok x

along : (P Q : Type 0) → P ≡ Q → P → Q
along P Q e p = subst (λ (X : Type 0). X) e p

closes : (depth : ℕ) (ts : List TokenV) (x : Unit {0} × List TokenV) → group_from depth ts ≡ Ok x → Closes depth ts x.1
closes depth [] x e = let clash = sym (none_open depth) ∙ e in absurd cc
closes depth (t ∷ ts) x e =
    elim (cases_Bool (is_opening t)) [
      | inl o ↦ further depth (suc depth) t ts x.1 (closes (suc depth) ts x (sym (opened depth t o ts) ∙ e)) (opened depth t o) (λ us s. along _ _ (opened_spells depth t o us) s)
      | inr o ↦ elim (cases_Bool (is_closing t)) [
        | inl c ↦ elim (cases_Bool (leb depth 1)) [
          | inl l ↦
              let is : done (tt, ts) ≡ done x = sym (last depth t o c l ts) ∙ e in
              let rest : ts ≡ x.1 = cc in
              record { front = t ∷ []; parts = ap (λ (u : List TokenV). t ∷ u) rest; spelled = along _ _ (last_spells depth t o c l []) refl; always = λ others. last depth t o c l others }
          | inr l ↦ further depth (depth - 1) t ts x.1 (closes (depth - 1) ts x (sym (inner depth t o c l ts) ∙ e)) (inner depth t o c l) (λ us s. along _ _ (inner_spells depth t o c l us) s)
        ]
        | inr c ↦ further depth depth t ts x.1 (closes depth ts x (sym (plain depth t o c ts) ∙ e)) (plain depth t o c) (λ us s. along _ _ (plain_spells depth t o c us) s)
      ]
    ]

complete : (depth : ℕ) (ws rest : List TokenV) → closed_from depth ws → group_from depth (ws ++ rest) ≡ Ok (tt, rest)
complete depth [] rest s = absurd (none_closed depth s)
complete depth (t ∷ ws) rest s =
    elim (cases_Bool (is_opening t)) [
      | inl o ↦ opened depth t o (ws ++ rest) ∙ complete (suc depth) ws rest (along _ _ (sym (opened_spells depth t o ws)) s)
      | inr o ↦ elim (cases_Bool (is_closing t)) [
        | inl c ↦ elim (cases_Bool (leb depth 1)) [
          | inl l ↦ let none : ws ≡ [] = along _ _ (sym (last_spells depth t o c l ws)) s in last depth t o c l (ws ++ rest) ∙ rw none refl
          | inr l ↦ inner depth t o c l (ws ++ rest) ∙ complete (depth - 1) ws rest (along _ _ (sym (inner_spells depth t o c l ws)) s)
        ]
        | inr c ↦ plain depth t o c (ws ++ rest) ∙ complete depth ws rest (along _ _ (sym (plain_spells depth t o c ws)) s)
      ]
    ]

no_fault : (depth : ℕ) (ts : List TokenV) (line : ℕ) (cause : Cause) → group_from depth ts ≡ Err (At line cause) → ⊥
no_fault depth [] line cause e = let clash = sym (none_open depth) ∙ e in cc
no_fault depth (t ∷ ts) line cause e =
    elim (cases_Bool (is_opening t)) [
      | inl o ↦ no_fault (suc depth) ts line cause (sym (opened depth t o ts) ∙ e)
      | inr o ↦ elim (cases_Bool (is_closing t)) [
        | inl c ↦ elim (cases_Bool (leb depth 1)) [
          | inl l ↦ let clash = sym (last depth t o c l ts) ∙ e in cc
          | inr l ↦ no_fault (depth - 1) ts line cause (sym (inner depth t o c l ts) ∙ e)
        ]
        | inr c ↦ no_fault depth ts line cause (sym (plain depth t o c ts) ∙ e)
      ]
    ]

pub group_laws : (n depth : ℕ) → Lawful n anything (group_from depth) (a_group depth)
group_laws n depth = record {
  sound = λ ts x e. let one = closes depth ts x e in record { front = one.front; parts = one.parts; spelled = one.spelled; again = λ others same. one.always others; alone = inl (ap (group_from depth) (sym (append-nil one.front)) ∙ one.always []) };
  complete = λ a ws rest short s f. complete depth ws rest s;
  faults = λ ts line cause short e. absurd (no_fault depth ts line cause e);
  begins = inr (none_open depth);
}

-- what one more token leads to, with so many more open than one
pub turned : (inner other : ℕ) (t : TokenV) (ts rest : List TokenV) (total : Outcome (Unit {0})) → ts ≡ t ∷ rest → ((us : List TokenV) → group_from inner (t ∷ us) ≡ group_from other us) → group_from inner ts ≡ total → group_from other rest ≡ total
turned inner other t ts rest total is step so_far = sym (step rest) ∙ ap (group_from inner) (sym is) ∙ so_far

pub ends_open : (inner : ℕ) (ts : List TokenV) → length ts ≤ 0 → group_from inner ts ≡ Err Ended
ends_open inner [] none = none_open inner
ends_open inner (t ∷ ts) none = absurd (omega arith)
