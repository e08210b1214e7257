-- Readings in a row make a value of parts.
use Rattle.std.proofs.Common.{◌≡◌, ℕ, List, [], ◌++◌, Ok, refl, sym, ap, subst, ◌∙◌}
use Rattle.std.proofs.lemmas.List.{append-nil}
use Rattle.ir_text.specs.Tokens.{TokenV}
use Rattle.ir_text.specs.Reading.{Reader, ◌>>=◌}
use Rattle.ir_text.specs.Spelled.{Spelling, InTurn, nothing}
use Rattle.ir_text.specs.Lawful.{Follow, anything, Lawful}
use Rattle.ir_text.specs.Repeated.{Both}
use Rattle.ir_text.proofs.Laws.{nothing_laws, in_turn_before}
use Rattle.ir_text.proofs.Choices.{respell}
use Rattle.instr_laws.specs.Made.{Made}

-- the last part
pub last : {A B : Type 0} {n : ℕ} {follow : Follow} {r : Reader A} {s : Spelling A} (f : A → B) → Lawful n follow r s → Lawful n follow (λ ts. r ts >>= λ x. Ok (f x.0, x.1)) (Made f s)
last {A} {B} {n} {follow} {r} {s} f laws =
    respell n follow (λ ts. r ts >>= λ x. Ok (f x.0, x.1)) (InTurn s (λ a. nothing (f a))) (Made f s) to from
    (in_turn_before n follow follow r (λ a ts. Ok (f a, ts)) s (λ a. nothing (f a)) laws (λ a. nothing_laws n follow (f a)) (λ a b ws rest t h. rw t.1 h))
  where
    to : (b : B) (ws : List TokenV) → InTurn s (λ a. nothing (f a)) b ws → Made f s b ws
    to b ws t =
        let whole : ws ≡ t.front = t.parts ∙ ap (λ (u : List TokenV). t.front ++ u) t.rest_spells.1 ∙ append-nil t.front in
        record { parts = t.value; is = t.rest_spells.0; spelled = subst (λ (u : List TokenV). s t.value u) (sym whole) t.first_spells }

    from : (b : B) (ws : List TokenV) → Made f s b ws → InTurn s (λ a. nothing (f a)) b ws
    from b ws t = record { value = t.parts; front = ws; rest = []; parts = sym (append-nil ws); first_spells = t.spelled; rest_spells = (t.is, refl) }

-- the last part, where it is the value itself
pub whole : {A : Type 0} {n : ℕ} {follow : Follow} {r : Reader A} {s : Spelling A} → Lawful n follow r s → Lawful n follow r (Made (λ (a : A). a) s)
whole {A} {n} {follow} {r} {s} laws = respell n follow r s (Made (λ (a : A). a) s) (λ a ws t. record { parts = a; is = refl; spelled = t }) (λ a ws t. subst (λ (x : A). s x ws) t.is t.spelled) laws

-- made of one part, which is the value itself
pub itself : {A : Type 0} {n : ℕ} {follow : Follow} {r : Reader A} {s : Spelling A} → Lawful n follow r (Made (λ (a : A). a) s) → Lawful n follow r s
itself {A} {n} {follow} {r} {s} laws = respell n follow r (Made (λ (a : A). a) s) s (λ a ws t. subst (λ (x : A). s x ws) t.is t.spelled) (λ a ws t. record { parts = a; is = refl; spelled = t }) laws

-- a part, and something behind it that says nothing
pub ended : {A B : Type 0} {n : ℕ} {between follow : Follow} {r : Reader A} {s : Spelling A} {e : Reader (Unit {0})} {z : Spelling (Unit {0})} (f : A → B)
    → Lawful n between r s → Lawful n follow e z → ((ws rest : List TokenV) → z tt ws → follow rest → between (ws ++ rest))
    → Lawful n follow (λ ts. r ts >>= λ x. e x.1 >>= λ y. Ok (f x.0, y.1)) (Made f (λ a. Both (s a) (z tt)))
ended {A} {B} {n} {between} {follow} {r} {s} {e} {z} f first end fits =
    respell n follow (λ ts. r ts >>= λ x. e x.1 >>= λ y. Ok (f x.0, y.1)) (InTurn s (λ a. InTurn z (λ _. nothing (f a)))) (Made f (λ a. Both (s a) (z tt))) to from
    (in_turn_before n between follow r (λ a ts. e ts >>= λ y. Ok (f a, y.1)) s (λ a. InTurn z (λ _. nothing (f a))) first
    (λ a. in_turn_before n follow follow e (λ _ ts. Ok (f a, ts)) z (λ _. nothing (f a)) end (λ _. nothing_laws n follow (f a)) (λ u b ws rest t h. rw t.1 h))
    (λ a b ws rest t h. subst between (sym (ap (λ (u : List TokenV). u ++ rest) (flat a b ws t))) (fits t.front rest (unit t.value t.front t.first_spells) h)))
  where
    unit : (u : Unit {0}) (ws : List TokenV) → z u ws → z tt ws
    unit u ws t = t

    flat : (a : A) (b : B) (ws : List TokenV) (t : InTurn z (λ _. nothing (f a)) b ws) → ws ≡ t.front
    flat a b ws t = t.parts ∙ ap (λ (u : List TokenV). t.front ++ u) t.rest_spells.1 ∙ append-nil t.front

    to : (b : B) (ws : List TokenV) → InTurn s (λ a. InTurn z (λ _. nothing (f a))) b ws → Made f (λ a. Both (s a) (z tt)) b ws
    to b ws t =
        let u = t.rest_spells in
        record {
          parts = t.value;
          is = u.rest_spells.0;
          spelled = record { front = t.front; rest = u.front; parts = t.parts ∙ ap (λ (us : List TokenV). t.front ++ us) (flat t.value b t.rest u); first_spells = t.first_spells; rest_spells = unit u.value u.front u.first_spells };
        }

    from : (b : B) (ws : List TokenV) → Made f (λ a. Both (s a) (z tt)) b ws → InTurn s (λ a. InTurn z (λ _. nothing (f a))) b ws
    from b ws t = record {
      value = t.parts;
      front = t.spelled.front;
      rest = t.spelled.rest;
      parts = t.spelled.parts;
      first_spells = t.spelled.first_spells;
      rest_spells = record { value = tt; front = t.spelled.rest; rest = []; parts = sym (append-nil t.spelled.rest); first_spells = t.spelled.rest_spells; rest_spells = (t.is, refl) };
    }

-- a part, and the others behind it
pub before : {A Y B : Type 0} {n : ℕ} {between follow : Follow} {r : Reader A} {s : Spelling A} {q : A → Reader B} {f : A → Y → B} {c : A → Y → List TokenV → Type 0}
    → Lawful n between r s → ((a : A) → Lawful n follow (q a) (Made (f a) (c a))) → ((a : A) (y : Y) (ws rest : List TokenV) → c a y ws → follow rest → between (ws ++ rest))
    → Lawful n follow (λ ts. r ts >>= λ x. q x.0 x.1) (Made (λ (p : A × Y). f p.0 p.1) (λ p. Both (s p.0) (c p.0 p.1)))
before {A} {Y} {B} {n} {between} {follow} {r} {s} {q} {f} {c} first others fits =
    respell n follow (λ ts. r ts >>= λ x. q x.0 x.1) (InTurn s (λ a. Made (f a) (c a))) (Made (λ (p : A × Y). f p.0 p.1) (λ p. Both (s p.0) (c p.0 p.1))) to from
    (in_turn_before n between follow r q s (λ a. Made (f a) (c a)) first others (λ a b ws rest t h. fits a t.parts ws rest t.spelled h))
  where
    to : (b : B) (ws : List TokenV) → InTurn s (λ a. Made (f a) (c a)) b ws → Made (λ (p : A × Y). f p.0 p.1) (λ p. Both (s p.0) (c p.0 p.1)) b ws
    to b ws t = record {
      parts = (t.value, t.rest_spells.parts);
      is = t.rest_spells.is;
      spelled = record { front = t.front; rest = t.rest; parts = t.parts; first_spells = t.first_spells; rest_spells = t.rest_spells.spelled };
    }

    from : (b : B) (ws : List TokenV) → Made (λ (p : A × Y). f p.0 p.1) (λ p. Both (s p.0) (c p.0 p.1)) b ws → InTurn s (λ a. Made (f a) (c a)) b ws
    from b ws t = record {
      value = t.parts.0;
      front = t.spelled.front;
      rest = t.spelled.rest;
      parts = t.spelled.parts;
      first_spells = t.spelled.first_spells;
      rest_spells = record { parts = t.parts.1; is = t.is; spelled = t.spelled.rest_spells };
    }

-- the same where anything may stand behind the part
pub then : {A Y B : Type 0} {n : ℕ} {follow : Follow} {r : Reader A} {s : Spelling A} {q : A → Reader B} {f : A → Y → B} {c : A → Y → List TokenV → Type 0}
    → Lawful n anything r s → ((a : A) → Lawful n follow (q a) (Made (f a) (c a)))
    → Lawful n follow (λ ts. r ts >>= λ x. q x.0 x.1) (Made (λ (p : A × Y). f p.0 p.1) (λ p. Both (s p.0) (c p.0 p.1)))
then first others = before first others (λ a y ws rest t h. tt)

-- something that says nothing, and the parts behind it
pub past : {Y B : Type 0} {n : ℕ} {between follow : Follow} {r : Reader (Unit {0})} {s : Spelling (Unit {0})} {q : Reader B} {f : Y → B} {c : Y → List TokenV → Type 0}
    → Lawful n between r s → Lawful n follow q (Made f c) → ((y : Y) (ws rest : List TokenV) → c y ws → follow rest → between (ws ++ rest))
    → Lawful n follow (λ ts. r ts >>= λ x. q x.1) (Made f (λ y. Both (s tt) (c y)))
past {Y} {B} {n} {between} {follow} {r} {s} {q} {f} {c} first others fits =
    respell n follow (λ ts. r ts >>= λ x. q x.1) (InTurn s (λ _. Made f c)) (Made f (λ y. Both (s tt) (c y))) to from
    (in_turn_before n between follow r (λ _. q) s (λ _. Made f c) first (λ _. others) (λ a b ws rest t h. fits t.parts ws rest t.spelled h))
  where
    unit : (u : Unit {0}) (ws : List TokenV) → s u ws → s tt ws
    unit u ws t = t

    to : (b : B) (ws : List TokenV) → InTurn s (λ _. Made f c) b ws → Made f (λ y. Both (s tt) (c y)) b ws
    to b ws t = record {
      parts = t.rest_spells.parts;
      is = t.rest_spells.is;
      spelled = record { front = t.front; rest = t.rest; parts = t.parts; first_spells = unit t.value t.front t.first_spells; rest_spells = t.rest_spells.spelled };
    }

    from : (b : B) (ws : List TokenV) → Made f (λ y. Both (s tt) (c y)) b ws → InTurn s (λ _. Made f c) b ws
    from b ws t = record {
      value = tt;
      front = t.spelled.front;
      rest = t.spelled.rest;
      parts = t.spelled.parts;
      first_spells = t.spelled.first_spells;
      rest_spells = record { parts = t.parts; is = t.is; spelled = t.spelled.rest_spells };
    }

pub pass : {Y B : Type 0} {n : ℕ} {follow : Follow} {r : Reader (Unit {0})} {s : Spelling (Unit {0})} {q : Reader B} {f : Y → B} {c : Y → List TokenV → Type 0}
    → Lawful n anything r s → Lawful n follow q (Made f c) → Lawful n follow (λ ts. r ts >>= λ x. q x.1) (Made f (λ y. Both (s tt) (c y)))
pass first others = past first others (λ y ws rest t h. tt)
