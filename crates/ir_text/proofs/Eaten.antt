-- Marks that are taken where they stand.
use Rattle.std.proofs.Common.{◌≡◌, ℕ, ◌+◌, ◌≤◌, length, arith, Bool, true, false, List, [], ◌∷◌, drop, Ok, refl, sym, ap, subst, ◌∙◌}
use Rattle.std.specs.Prelude.{not}
use Rattle.ir_text.specs.declared.fault.ReadEnd.{ReadEnd}
use Rattle.ir_text.specs.Tokens.{TokenV}
use Rattle.ir_text.specs.Reading.{Outcome, next_is, sees, token_by, Fails}
use Rattle.ir_text.specs.Leaves.{mark_at}
use Rattle.ir_text.specs.Passed.{group_from, after_word, after_string, some_string, passed_by, passed_at, may_pass, words_at, passed_unless}
use Rattle.ir_text.proofs.Persisting.{shortens}
use Rattle.ir_text.proofs.PassedLaws.{passed_laws, passed_opens, skips_on, skips_fails, skips_end}

pub eaten : (b : ℕ) (ts : List TokenV) → sees b ts ≡ true → mark_at b ts ≡ Ok (tt, drop 1 ts)
unfolding next_is token_by
eaten b [] e = absurd cc
eaten b (t ∷ ts) e = rw e refl

pub group_eaten : (ts : List TokenV) → sees 40 ts ≡ true → after_word ts ≡ group_from 1 (drop 1 ts)
group_eaten ts e = rw (e, eaten 40 ts e) refl

pub string_eaten : (ts : List TokenV) → sees 61 ts ≡ true → after_string ts ≡ token_by some_string (drop 1 ts)
string_eaten ts e = rw (e, eaten 61 ts e) refl

-- ---- words

module _ (stop : TokenV → Bool) where
  less : (ts : List TokenV) (x : Unit {0} × List TokenV) → passed_at stop ts ≡ Ok x → 1 + length x.1 ≤ length ts
  less ts x e = shortens 0 _ (passed_at stop) (passed_unless stop) (passed_laws 0 stop) (λ a ws s. let o = passed_opens stop a ws s in omega (arith, ap length o.parts)) ts x e

  there : (b : Bool) (ts : List TokenV) (t : TokenV) → ts ≡ t ∷ drop 1 ts → may_pass stop t ≡ b → next_is (may_pass stop) ts ≡ b
  unfolding next_is
  there b ts t is e = ap (next_is (may_pass stop)) is ∙ e

  here : (ts : List TokenV) (t : TokenV) → ts ≡ t ∷ drop 1 ts → may_pass stop t ≡ true → passed_at stop ts ≡ passed_by t.kind t (drop 1 ts)
  unfolding passed_at
  here ts t is e = ap (passed_at stop) is ∙ rw e refl

  nothing_there : (ts : List TokenV) → ts ≡ [] → next_is (may_pass stop) ts ≡ false
  unfolding next_is
  nothing_there ts is = ap (next_is (may_pass stop)) is

  pub words_on : (ts rest : List TokenV) (t : TokenV) (total : Outcome (Unit {0})) → ts ≡ t ∷ drop 1 ts → may_pass stop t ≡ true → passed_by t.kind t (drop 1 ts) ≡ Ok (tt, rest) → words_at stop ts ≡ total → words_at stop rest ≡ total
  words_on ts rest t total is e h so_far = sym (skips_on (may_pass stop) (passed_at stop) less ts rest tt (there true ts t is e) (here ts t is e ∙ h)) ∙ so_far

  pub words_fail : (d : ReadEnd) (ts : List TokenV) (t : TokenV) (total : Outcome (Unit {0})) → ts ≡ t ∷ drop 1 ts → may_pass stop t ≡ true → Fails d (passed_by t.kind t (drop 1 ts)) → words_at stop ts ≡ total → Fails d total
  words_fail d ts t total is e h so_far =
      subst (Fails d) so_far (skips_fails (may_pass stop) (passed_at stop) less d ts (there true ts t is e) (subst (Fails d) (sym (here ts t is e)) h))

  pub words_end : (ts : List TokenV) (t : TokenV) (total : Outcome (Unit {0})) → ts ≡ t ∷ drop 1 ts → may_pass stop t ≡ false → words_at stop ts ≡ total → total ≡ Ok (tt, ts)
  words_end ts t total is e so_far = sym so_far ∙ skips_end (may_pass stop) (passed_at stop) less ts (there false ts t is e)

  pub words_out : (ts : List TokenV) (total : Outcome (Unit {0})) → ts ≡ [] → words_at stop ts ≡ total → total ≡ Ok (tt, ts)
  words_out ts total is so_far = sym so_far ∙ skips_end (may_pass stop) (passed_at stop) less ts (nothing_there ts is)

  pub words_less : (ts rest : List TokenV) (t : TokenV) → ts ≡ t ∷ drop 1 ts → may_pass stop t ≡ true → passed_by t.kind t (drop 1 ts) ≡ Ok (tt, rest) → 1 + length rest ≤ length ts
  words_less ts rest t is e h = less ts (tt, rest) (here ts t is e ∙ h)

-- a test negated
pub not_false : (b : Bool) → not b ≡ false → b ≡ true
not_false true e = refl
not_false false e = absurd cc

pub not_true : (b : Bool) → not b ≡ true → b ≡ false
not_true true e = absurd cc
not_true false e = refl
