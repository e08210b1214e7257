-- Two texts that are cut from one place on, and have a token in common up to which their bytes are the same.
use Rattle.std.proofs.Common.{◌≡◌, ℕ, ◌+◌, ◌-◌, ◌<◌, ◌≤◌, ◌⊎◌, inl, inr, List, [], ◌∷◌, ◌++◌, length, take, drop, sym, ap, subst, ◌∙◌, arith, take-append-drop}
use Rattle.std.proofs.lemmas.List.{take_at, take-take, drop_at, drop-take}
use Rattle.ir_lex.specs.declared.token.TokenKind.{TokenKind}
use Rattle.ir_lex.specs.declared.token.Token.{Token}
use Rattle.ir_lex.specs.declared.token.Form.{Form}
use Rattle.ir_lex.specs.declared.token.Form.TheVariants as form
use Rattle.ir_lex.specs.Cut.{Part, newlines, token_at, tokens_at}
use Rattle.fault_laws.specs.Alike.{IsAmong}

-- ---- tokens among others

pub first_or_later : (t u : Token) (ts : List Token) → IsAmong t (u ∷ ts) → (t ≡ u) ⊎ IsAmong t ts
first_or_later t u ts a = split a.before a.parts
  where
    split : (before : List Token) → u ∷ ts ≡ before ++ t ∷ a.behind → (t ≡ u) ⊎ IsAmong t ts
    split [] e = inl cc
    split (x ∷ xs) e = inr (record { before = xs; behind = a.behind; parts = cc })

pub among_none : (t : Token) → IsAmong t [] → ⊥
among_none t a = none a.before a.parts
  where
    none : (before : List Token) → [] ≡ before ++ t ∷ a.behind → ⊥
    none [] e = cc
    none (x ∷ xs) e = cc

-- each token begins at this place or behind it
abbrev pub FromOn : ℕ → List Token → Type 0
FromOn at [] = Unit {0}
FromOn at (t ∷ ts) = (at ≤ t.from) × FromOn at ts

-- each token has a byte at least, and ends at this place or before it
abbrev pub UpTo : ℕ → List Token → Type 0
UpTo to [] = Unit {0}
UpTo to (t ∷ ts) = (t.from < t.to) × (t.to ≤ to) × UpTo to ts

pub among_from : (at : ℕ) (t : Token) (ts : List Token) → FromOn at ts → IsAmong t ts → at ≤ t.from
among_from at t [] all a = absurd (among_none t a)
among_from at t (u ∷ ts) all a = elim (first_or_later t u ts a) [
  | inl e ↦ subst (λ (x : Token). at ≤ x.from) (sym e) all.0
  | inr later ↦ among_from at t ts all.1 later
]

-- ---- where tokens stand

-- a piece's token, and the tokens behind it
pub piece_or_later : (f : Form) (at to line : ℕ) (t : Token) (ts : List Token) → IsAmong t (token_at f at to line ts)
    → ((f ≡ form.Token t.kind) × (t ≡ record { kind = t.kind; from = at; to = to; line = line })) ⊎ IsAmong t ts
piece_or_later form.Gap at to line t ts a = inr a
piece_or_later (form.Token k) at to line t ts a = elim (first_or_later t (record { kind = k; from = at; to = to; line = line }) ts a) [
  | inl e ↦ inl (ap form.Token (sym (ap (λ (x : Token). x.kind) e)), e ∙ ap (λ (x : TokenKind). record { kind = x; from = at; to = to; line = line }) (sym (ap (λ (x : Token). x.kind) e)))
  | inr later ↦ inr later
]

pub later_from : (at more : ℕ) (ts : List Token) → at ≤ more → FromOn more ts → FromOn at ts
later_from at more [] le all = tt
later_from at more (t ∷ ts) le all = (omega (arith, all.0), later_from at more ts le all.1)

piece_from : (f : Form) (at to line : ℕ) (ts : List Token) → at ≤ to → FromOn to ts → FromOn at (token_at f at to line ts)
piece_from form.Gap at to line ts le all = later_from at to ts le all
piece_from (form.Token k) at to line ts le all = (omega arith, later_from at to ts le all)

pub from_on : (ps : List Part) (at line : ℕ) → FromOn at (tokens_at at line ps)
from_on [] at line = tt
from_on (p ∷ ps) at line = piece_from p.form at (at + length p.bytes) line _ (omega arith) (from_on ps (at + length p.bytes) (line + newlines p.bytes))

-- ---- the same pieces

-- the tokens up to one, which two cuts have in common
pub record InCommon (t : Token) (ts us : List Token) : Type 0 where
  pub front : List Token
  pub behind : List Token
  pub others : List Token
  pub here : ts ≡ front ++ t ∷ behind
  pub there : us ≡ front ++ t ∷ others
  pub before : UpTo t.from front
  pub next : FromOn t.to behind
  pub after : FromOn t.to others

-- one more piece before them
pub piece_in_common : (f : Form) (at to line : ℕ) (t : Token) (ts us : List Token) → at < to → to ≤ t.from → InCommon t ts us → InCommon t (token_at f at to line ts) (token_at f at to line us)
piece_in_common form.Gap at to line t ts us some le c = c
piece_in_common (form.Token k) at to line t ts us some le c =
    let u : Token = record { kind = k; from = at; to = to; line = line } in
    record {
      front = u ∷ c.front;
      behind = c.behind;
      others = c.others;
      here = ap (λ (xs : List Token). u ∷ xs) c.here;
      there = ap (λ (xs : List Token). u ∷ xs) c.there;
      before = (some, le, c.before);
      next = c.next;
      after = c.after;
    }

-- the token is the first of both
pub first_in_common : (f g : Form) (at to other line : ℕ) (t : Token) (ts us : List Token) → f ≡ form.Token t.kind → g ≡ form.Token t.kind
    → t ≡ record { kind = t.kind; from = at; to = to; line = line } → t ≡ record { kind = t.kind; from = at; to = other; line = line } → FromOn to ts → FromOn other us
    → InCommon t (token_at f at to line ts) (token_at g at other line us)
first_in_common f g at to other line t ts us f_is g_is here there next after =
    let ends : t.to ≡ to = ap (λ (x : Token). x.to) here in
    let ends_there : t.to ≡ other = ap (λ (x : Token). x.to) there in
    record {
      front = [];
      behind = ts;
      others = us;
      here = ap (λ (x : Form). token_at x at to line ts) f_is ∙ ap (λ (x : Token). x ∷ ts) (sym here);
      there = ap (λ (x : Form). token_at x at other line us) g_is ∙ ap (λ (x : Token). x ∷ us) (sym there);
      before = tt;
      next = later_from t.to to ts (omega arith) next;
      after = later_from t.to other us (omega arith) after;
    }

-- what begins a text within bytes that two texts share begins the other
pub shared : (n k : ℕ) (x y bytes rest : List ℕ) → x ≡ bytes ++ rest → length bytes ≡ k → k ≤ n → take n x ≡ take n y → bytes ++ drop k y ≡ y
shared n k x y bytes rest e l le same =
    let mine : take k x ≡ bytes = ap (take k) e ∙ take_at bytes rest k l in
    let theirs : bytes ≡ take k y = sym mine ∙ sym (take-take k n x le) ∙ ap (take k) same ∙ take-take k n y le in
    ap (λ (z : List ℕ). z ++ drop k y) theirs ∙ take-append-drop k y

-- behind what both share
pub shared_behind : (n k : ℕ) (bytes x y : List ℕ) → length bytes ≡ k → k ≤ n → take n (bytes ++ x) ≡ take n (bytes ++ y) → take (n - k) x ≡ take (n - k) y
shared_behind n k bytes x y l le same =
    let e : k + (n - k) ≡ n = omega arith in
    let whole : take (k + (n - k)) (bytes ++ x) ≡ take (k + (n - k)) (bytes ++ y) = rw e same in
    let both = ap (drop k) whole in
    let left : drop k (take (k + (n - k)) (bytes ++ x)) ≡ take (n - k) x = drop-take k (n - k) (bytes ++ x) ∙ ap (take (n - k)) (drop_at bytes x k l) in
    let right : drop k (take (k + (n - k)) (bytes ++ y)) ≡ take (n - k) y = drop-take k (n - k) (bytes ++ y) ∙ ap (take (n - k)) (drop_at bytes y k l) in
    sym left ∙ both ∙ right
