-- Lines that are passed over, in two texts with the same tokens up to one that is read in both.
use Rattle.std.proofs.Common.{◌≡◌, ℕ, ◌<◌, inl, inr, Bool, true, false, cond, List, [], ◌∷◌, ◌++◌, refl, sym, ap, subst, ◌∙◌, arith}
use Rattle.std.specs.Prelude.{◌==◌, ◌&&◌}
use Rattle.ir_lex.specs.declared.token.Token.{Token}
use Rattle.ir_text.specs.Tokens.{TokenV, token_of, tokens_of, is_mark}
use Rattle.ir_grammar.specs.Texts.{is_record_word, is_over, kept_from}
use Rattle.fault_laws.specs.Alike.{IsAmong}
use Rattle.fault_laws.proofs.Alike.{first_or_later, among_none, among_from, FromOn, UpTo}

-- ---- what is read is among the tokens

abbrev pub kept_if : List ℕ → Bool → Token → List Token → List Token
kept_if text over t rest = cond over (kept_from text t.line true rest) (t ∷ kept_from text t.line false rest)

pub kept_step : (text : List ℕ) (line : ℕ) (passed : Bool) (t : Token) (rest : List Token) → kept_from text line passed (t ∷ rest) ≡ kept_if text (is_over text line passed (t ∷ rest)) t rest
unfolding kept_from
kept_step text line passed t rest = refl

later_among : (t u : Token) (ts : List Token) → IsAmong t ts → IsAmong t (u ∷ ts)
later_among t u ts a = record { before = u ∷ a.before; behind = a.behind; parts = ap (λ (xs : List Token). u ∷ xs) a.parts }

first_among : (t u : Token) (ts : List Token) → t ≡ u → IsAmong t (u ∷ ts)
first_among t u ts e = record { before = []; behind = ts; parts = ap (λ (x : Token). x ∷ ts) (sym e) }

among_if : (text : List ℕ) (over : Bool) (t u : Token) (rest : List Token) → ((line : ℕ) (passed : Bool) → IsAmong t (kept_from text line passed rest) → IsAmong t rest)
    → IsAmong t (kept_if text over u rest) → IsAmong t (u ∷ rest)
among_if text true t u rest go a = later_among t u rest (go u.line true a)
among_if text false t u rest go a = elim (first_or_later t u (kept_from text u.line false rest) a) [
  | inl e ↦ first_among t u rest e
  | inr later ↦ later_among t u rest (go u.line false later)
]

pub kept_none : (text : List ℕ) (line : ℕ) (passed : Bool) → kept_from text line passed [] ≡ []
unfolding kept_from
kept_none text line passed = refl

pub kept_among : (text : List ℕ) (ts : List Token) (t : Token) (line : ℕ) (passed : Bool) → IsAmong t (kept_from text line passed ts) → IsAmong t ts
kept_among text [] t line passed a = absurd (among_none t (subst (IsAmong t) (kept_none text line passed) a))
kept_among text (u ∷ rest) t line passed a =
    among_if text (is_over text line passed (u ∷ rest)) t u rest (λ l p. kept_among text rest t l p) (subst (IsAmong t) (kept_step text line passed u rest) a)

-- ---- which lines are passed over

-- a token of the same bytes, followed by one of the same bytes
pub over_same : (text other : List ℕ) (line : ℕ) (passed : Bool) (t u : Token) (rest others : List Token) → token_of other t ≡ token_of text t → token_of other u ≡ token_of text u
    → is_over other line passed (t ∷ u ∷ others) ≡ is_over text line passed (t ∷ u ∷ rest)
over_same text other line passed t u rest others a b =
    ap (λ (x : TokenV). cond (t.line == line) passed (is_mark 35 x && (u.from == t.to) && is_record_word (token_of other u))) a
    ∙ ap (λ (x : TokenV). cond (t.line == line) passed (is_mark 35 (token_of text t) && (u.from == t.to) && is_record_word x)) b

-- ---- up to a token that is read in both

pub record KeptAlike (text other : List ℕ) (t : Token) (ts us : List Token) : Type 0 where
  pub front : List Token
  pub behind : List Token
  pub others : List Token
  pub here : ts ≡ front ++ t ∷ behind
  pub there : us ≡ front ++ t ∷ others
  pub tokens : tokens_of other front ≡ tokens_of text front

-- the tokens have the same bytes in both texts
abbrev pub SameIn : List ℕ → List ℕ → List Token → Type 0
SameIn text other [] = Unit {0}
SameIn text other (t ∷ ts) = (token_of other t ≡ token_of text t) × SameIn text other ts

one_more : (text other : List ℕ) (t u : Token) (ts us : List Token) → token_of other u ≡ token_of text u → KeptAlike text other t ts us → KeptAlike text other t (u ∷ ts) (u ∷ us)
one_more text other t u ts us same k = record {
  front = u ∷ k.front;
  behind = k.behind;
  others = k.others;
  here = ap (λ (xs : List Token). u ∷ xs) k.here;
  there = ap (λ (xs : List Token). u ∷ xs) k.there;
  tokens = ap (λ (x : TokenV). x ∷ tokens_of other k.front) same ∙ ap (λ (xs : List TokenV). token_of text u ∷ xs) k.tokens;
}

-- the token itself is read, since none behind it is
read_here : (text : List ℕ) (over : Bool) (t : Token) (rest : List Token) → t.from < t.to → FromOn t.to rest → IsAmong t (kept_if text over t rest) → over ≡ false
read_here text true t rest some after a = absurd (let le = among_from t.to t rest after (kept_among text rest t t.line true a) in omega arith)
read_here text false t rest some after a = refl

module _ (text other : List ℕ) (t : Token) (some : t.from < t.to) (same : token_of other t ≡ token_of text t) (behind others : List Token) (next : FromOn t.to behind) (after : FromOn t.to others) where
  at_token : (line : ℕ) (passed : Bool) → IsAmong t (kept_from text line passed (t ∷ behind)) → IsAmong t (kept_from other line passed (t ∷ others))
      → KeptAlike text other t (kept_from text line passed (t ∷ behind)) (kept_from other line passed (t ∷ others))
  at_token line passed a b =
      let mine = read_here text (is_over text line passed (t ∷ behind)) t behind some next (subst (IsAmong t) (kept_step text line passed t behind) a) in
      let theirs = read_here other (is_over other line passed (t ∷ others)) t others some after (subst (IsAmong t) (kept_step other line passed t others) b) in
      record {
        front = [];
        behind = kept_from text t.line false behind;
        others = kept_from other t.line false others;
        here = kept_step text line passed t behind ∙ ap (λ (v : Bool). kept_if text v t behind) mine;
        there = kept_step other line passed t others ∙ ap (λ (v : Bool). kept_if other v t others) theirs;
        tokens = refl;
      }

  -- a token before it is read in both, or in neither
  before_if : (over : Bool) (u : Token) (rest more : List Token) → u.from < t.from → token_of other u ≡ token_of text u
      → ((line : ℕ) (passed : Bool) → IsAmong t (kept_from text line passed rest) → IsAmong t (kept_from other line passed more) → KeptAlike text other t (kept_from text line passed rest) (kept_from other line passed more))
      → IsAmong t (kept_if text over u rest) → IsAmong t (kept_if other over u more) → KeptAlike text other t (kept_if text over u rest) (kept_if other over u more)
  before_if true u rest more lt same_u go a b = go u.line true a b
  before_if false u rest more lt same_u go a b = one_more text other t u _ _ same_u (go u.line false (past _ a) (past _ b))
    where
      past : (ts : List Token) → IsAmong t (u ∷ ts) → IsAmong t ts
      past ts a = elim (first_or_later t u ts a) [
        | inl e ↦ absurd (let f : t.from ≡ u.from = ap (λ (x : Token). x.from) e in omega arith)
        | inr later ↦ later
      ]

  over_next : (line : ℕ) (passed : Bool) (u : Token) (front : List Token) → token_of other u ≡ token_of text u → SameIn text other front
      → is_over other line passed (u ∷ (front ++ t ∷ others)) ≡ is_over text line passed (u ∷ (front ++ t ∷ behind))
  over_next line passed u [] same_u all = over_same text other line passed u t behind others same_u same
  over_next line passed u (v ∷ front) same_u all = over_same text other line passed u v (front ++ t ∷ behind) (front ++ t ∷ others) same_u all.0

  pub kept_alike : (front : List Token) (line : ℕ) (passed : Bool) → UpTo t.from front → SameIn text other front
      → IsAmong t (kept_from text line passed (front ++ t ∷ behind)) → IsAmong t (kept_from other line passed (front ++ t ∷ others))
      → KeptAlike text other t (kept_from text line passed (front ++ t ∷ behind)) (kept_from other line passed (front ++ t ∷ others))
  kept_alike [] line passed before all a b = at_token line passed a b
  kept_alike (u ∷ front) line passed before all a b =
      let rest = front ++ t ∷ behind in
      let more = front ++ t ∷ others in
      let over = is_over text line passed (u ∷ rest) in
      let there : kept_from other line passed (u ∷ more) ≡ kept_if other over u more = kept_step other line passed u more ∙ ap (λ (v : Bool). kept_if other v u more) (over_next line passed u front all.0 all.1) in
      let here : kept_from text line passed (u ∷ rest) ≡ kept_if text over u rest = kept_step text line passed u rest in
      let found = before_if over u rest more (omega (arith, before.0, before.1)) all.0 (λ l p. kept_alike front l p before.2 all.1) (subst (IsAmong t) here a) (subst (IsAmong t) there b) in
      subst (λ (xs : List Token). KeptAlike text other t xs (kept_from other line passed (u ∷ more))) (sym here) (subst (λ (xs : List Token). KeptAlike text other t (kept_if text over u rest) xs) (sym there) found)
