-- The tokens of a text rise, so that each stands once among them.
use Rattle.std.proofs.Common.{◌≡◌, ℕ, ◌+◌, ◌<◌, ◌≤◌, Bool, true, false, List, [], ◌∷◌, ◌++◌, length, refl, sym, ap, subst, ◌∙◌, arith, length-append}
use Rattle.ir_lex.specs.declared.token.Token.{Token}
use Rattle.ir_lex.specs.declared.token.Form.{Form}
use Rattle.ir_lex.specs.declared.token.Form.TheVariants as form
use Rattle.ir_lex.specs.Lexing.{lexed}
use Rattle.ir_lex.specs.Cut.{InOrder, Part, joined, AreLongest, newlines, token_at, tokens_at}
use Rattle.ir_lex.proofs.Cuts.{shape_some}
use Rattle.ir_lex.proofs.Wholes.{in_order}
use Rattle.ir_text.specs.Tokens.{TokenV, token_of, tokens_of}
use Rattle.ir_grammar.specs.Texts.{is_over, kept_from}
use Rattle.fault_laws.specs.Alike.{kept}
use Rattle.fault_laws.proofs.Alike.{among_from, FromOn, later_from, UpTo}
use Rattle.fault_laws.proofs.Records.{kept_if, kept_step, kept_none, over_same, SameIn}

-- each token begins where the one before it ends, or behind that
abbrev pub Rising : ℕ → List Token → Type 0
Rising at [] = Unit {0}
Rising at (t ∷ ts) = (at ≤ t.from) × (t.from < t.to) × Rising t.to ts

sooner : (at more : ℕ) (ts : List Token) → at ≤ more → Rising more ts → Rising at ts
sooner at more [] le r = tt
sooner at more (t ∷ ts) le r = (omega (arith, r.0), r.1, r.2)

ordered : (text : List ℕ) (at : ℕ) (ts : List Token) → InOrder text at ts → Rising at ts
ordered text at [] o = tt
ordered text at (t ∷ ts) o = (o.0.behind, o.0.some, ordered text t.to ts o.1)

rising_if : (text : List ℕ) (over : Bool) (t : Token) (rest : List Token) (at : ℕ) → Rising at (t ∷ rest) → ((line : ℕ) (passed : Bool) → Rising t.to (kept_from text line passed rest)) → Rising at (kept_if text over t rest)
rising_if text true t rest at r go = sooner at t.to _ (omega (arith, r.0, r.1)) (go t.line true)
rising_if text false t rest at r go = (r.0, r.1, go t.line false)

kept_rise : (text : List ℕ) (ts : List Token) (at line : ℕ) (passed : Bool) → Rising at ts → Rising at (kept_from text line passed ts)
kept_rise text [] at line passed r = subst (Rising at) (sym (kept_none text line passed)) tt
kept_rise text (t ∷ rest) at line passed r =
    subst (Rising at) (sym (kept_step text line passed t rest)) (rising_if text (is_over text line passed (t ∷ rest)) t rest at r (λ l p. kept_rise text rest t.to l p r.2))

pub kept_rises : (text : List ℕ) → Rising 0 (kept text)
kept_rises text = kept_rise text (lexed text).tokens 0 0 false (ordered text 0 (lexed text).tokens (in_order text))

rising_from : (at : ℕ) (ts : List Token) → Rising at ts → FromOn at ts
rising_from at [] r = tt
rising_from at (t ∷ ts) r = (r.0, later_from at t.to ts (omega (arith, r.0, r.1)) (rising_from t.to ts r.2))

-- a token stands once
later_clash : (t : Token) (us vs : List Token) → t.from < t.to → Rising t.to (us ++ t ∷ vs) → ⊥
later_clash t us vs some r = let le = among_from t.to t (us ++ t ∷ vs) (rising_from t.to (us ++ t ∷ vs) r) (record { before = us; behind = vs; parts = refl }) in omega arith

pub one_place : (xs us ys vs : List Token) (t : Token) (at : ℕ) → Rising at (xs ++ t ∷ ys) → xs ++ t ∷ ys ≡ us ++ t ∷ vs → us ≡ xs
one_place [] [] ys vs t at r e = refl
one_place [] (u ∷ us) ys vs t at r e =
    let tails : ys ≡ us ++ t ∷ vs = cc in
    absurd (later_clash t us vs r.1 (subst (Rising t.to) tails r.2))
one_place (x ∷ xs) [] ys vs t at r e =
    let first : x ≡ t = cc in
    let some : t.from < t.to = subst (λ (y : Token). y.from < y.to) first r.1 in
    absurd (later_clash t xs ys some (subst (λ (y : Token). Rising y.to (xs ++ t ∷ ys)) first r.2))
one_place (x ∷ xs) (u ∷ us) ys vs t at r e =
    let first : u ≡ x = cc in
    let tails : xs ++ t ∷ ys ≡ us ++ t ∷ vs = cc in
    ap (λ (y : Token). y ∷ us) first ∙ ap (λ (zs : List Token). x ∷ zs) (one_place xs us ys vs t x.to r.2 tails)

-- ---- the same tokens in two texts

over_list : (text other : List ℕ) (line : ℕ) (passed : Bool) (t : Token) (rest : List Token) → SameIn text other (t ∷ rest) → is_over other line passed (t ∷ rest) ≡ is_over text line passed (t ∷ rest)
over_list text other line passed t [] same = refl
over_list text other line passed t (u ∷ rest) same = over_same text other line passed t u rest rest same.0 same.1.0

read_if : (text other : List ℕ) (over : Bool) (t : Token) (rest : List Token) → token_of other t ≡ token_of text t
    → ((line : ℕ) (passed : Bool) → tokens_of other (kept_from other line passed rest) ≡ tokens_of text (kept_from text line passed rest))
    → tokens_of other (kept_if other over t rest) ≡ tokens_of text (kept_if text over t rest)
read_if text other true t rest same go = go t.line true
read_if text other false t rest same go = ap (λ (x : TokenV). x ∷ tokens_of other (kept_from other t.line false rest)) same ∙ ap (λ (xs : List TokenV). token_of text t ∷ xs) (go t.line false)

pub read_same : (text other : List ℕ) (ts : List Token) (line : ℕ) (passed : Bool) → SameIn text other ts → tokens_of other (kept_from other line passed ts) ≡ tokens_of text (kept_from text line passed ts)
read_same text other [] line passed same = ap (tokens_of other) (kept_none other line passed) ∙ sym (ap (tokens_of text) (kept_none text line passed))
read_same text other (t ∷ rest) line passed same =
    let over = is_over text line passed (t ∷ rest) in
    ap (tokens_of other) (kept_step other line passed t rest ∙ ap (λ (v : Bool). kept_if other v t rest) (over_list text other line passed t rest same))
    ∙ read_if text other over t rest same.0 (λ l p. read_same text other rest l p same.1)
    ∙ sym (ap (tokens_of text) (kept_step text line passed t rest))

-- ---- the tokens of pieces end inside them

up_part : (f : Form) (at to line end : ℕ) (ts : List Token) → at < to → to ≤ end → UpTo end ts → UpTo end (token_at f at to line ts)
up_part form.Gap at to line end ts some le up = up
up_part (form.Token k) at to line end ts some le up = (some, le, up)

pub up_to_parts : (ps : List Part) (rest : List ℕ) (at line end : ℕ) → AreLongest ps rest → at + length (joined ps []) ≤ end → UpTo end (tokens_at at line ps)
up_to_parts [] rest at line end longest le = tt
up_to_parts (p ∷ ps) rest at line end longest le =
    let pos = shape_some p.form p.bytes longest.0.is in
    let all : length (p.bytes ++ joined ps []) ≡ length p.bytes + length (joined ps []) = length-append p.bytes (joined ps []) in
    up_part p.form at (at + length p.bytes) line end _ (omega arith) (omega arith) (up_to_parts ps rest (at + length p.bytes) (line + newlines p.bytes) end longest.1 (omega arith))
