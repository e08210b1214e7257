-- Texts that begin alike in their bytes are read alike.
use Rattle.std.proofs.Common.{◌≡◌, ℕ, ◌+◌, ◌-◌, ◌<◌, ◌≤◌, inl, inr, List, [], ◌∷◌, ◌++◌, take, drop, sym, ap, subst, ◌∙◌, arith}
use Rattle.std.specs.Prelude.{false, slice_range}
use Rattle.std.proofs.lemmas.List.{take-take, drop-take}
use Rattle.ir_lex.specs.declared.token.Token.{Token}
use Rattle.ir_lex.specs.Lexing.{lexed}
use Rattle.ir_lex.specs.Cut.{InOrder, tokens_at, joined}
use Rattle.ir_lex.proofs.Wholes.{cut_whole, in_order}
use Rattle.ir_text.specs.Tokens.{TokenV, token_of}
use Rattle.ir_grammar.specs.Texts.{kept_from}
use Rattle.fault_laws.specs.Alike.{kept, IsAmong, BeginAlike, AlikeAreRead}
use Rattle.fault_laws.proofs.Alike.{first_or_later, among_none, UpTo, InCommon}
use Rattle.fault_laws.proofs.Common.{in_common}
use Rattle.fault_laws.proofs.Records.{kept_among, SameIn, KeptAlike, kept_alike}

-- a slice within bytes that both texts share
slice_front : (n from to : ℕ) (x : List ℕ) → from ≤ to → to ≤ n → slice_range x from to ≡ drop from (take to (take n x))
slice_front n from to x le fits =
    let e : from + (to - from) ≡ to = omega arith in
    sym (drop-take from (to - from) x) ∙ ap (λ (k : ℕ). drop from (take k x)) e ∙ ap (drop from) (sym (take-take to n x fits))

same_slice : (n from to : ℕ) (x y : List ℕ) → from ≤ to → to ≤ n → take n x ≡ take n y → slice_range y from to ≡ slice_range x from to
same_slice n from to x y le fits same = slice_front n from to y le fits ∙ ap (λ (z : List ℕ). drop from (take to z)) (sym same) ∙ sym (slice_front n from to x le fits)

same_token : (n : ℕ) (text other : List ℕ) (t : Token) → t.from < t.to → t.to ≤ n → take n text ≡ take n other → token_of other t ≡ token_of text t
same_token n text other t some fits same =
    let slice : slice_range other t.from t.to ≡ slice_range text t.from t.to = same_slice n t.from t.to text other (omega arith) fits same in
    ap (λ (bytes : List ℕ). let v : TokenV = record { kind = t.kind; text = bytes; line = t.line } in v) slice

pub same_in : (n : ℕ) (text other : List ℕ) (ts : List Token) → UpTo n ts → take n text ≡ take n other → SameIn text other ts
same_in n text other [] up same = tt
same_in n text other (t ∷ ts) up same = (same_token n text other t up.0 up.1 same, same_in n text other ts up.2 same)

up_more : (n m : ℕ) (ts : List Token) → n ≤ m → UpTo n ts → UpTo m ts
up_more n m [] le up = tt
up_more n m (t ∷ ts) le up = (up.0, omega (arith, up.1), up_more n m ts le up.2)

-- a token has a byte at least
some_byte : (text : List ℕ) (at : ℕ) (ts : List Token) (t : Token) → InOrder text at ts → IsAmong t ts → t.from < t.to
some_byte text at [] t order a = absurd (among_none t a)
some_byte text at (u ∷ ts) t order a = elim (first_or_later t u ts a) [
  | inl e ↦ subst (λ (x : Token). x.from < x.to) (sym e) order.0.some
  | inr later ↦ some_byte text u.to ts t order.1 later
]

module _ (text other : List ℕ) (t : Token) (b : BeginAlike text other t) where
  here : IsAmong t (lexed text).tokens
  here = kept_among text (lexed text).tokens t 0 false b.here

  there : IsAmong t (lexed other).tokens
  there = kept_among other (lexed other).tokens t 0 false b.there

  some : t.from < t.to
  some = some_byte text 0 (lexed text).tokens t (in_order text) here

  common : InCommon t (lexed text).tokens (lexed other).tokens
  common =
      let mine = cut_whole text in
      let theirs = cut_whole other in
      let c = mine.1 in
      let d = theirs.1 in
      let bytes : take t.to (joined c.parts mine.0) ≡ take t.to (joined d.parts theirs.0) = ap (take t.to) c.whole ∙ b.bytes ∙ ap (take t.to) (sym d.whole) in
      let found = in_common c.parts d.parts mine.0 theirs.0 0 1 t.to t c.longest d.longest some (omega arith) bytes (subst (IsAmong t) (sym c.among) here) (subst (IsAmong t) (sym d.among) there) in
      subst (λ (xs : List Token). InCommon t xs (lexed other).tokens) c.among (subst (λ (xs : List Token). InCommon t (tokens_at 0 1 c.parts) xs) d.among found)

  found : KeptAlike text other t (kept text) (kept other)
  found =
      let c = common in
      let same = same_token t.to text other t some (omega arith) b.bytes in
      let a : IsAmong t (kept_from text 0 false (c.front ++ t ∷ c.behind)) = subst (λ (xs : List Token). IsAmong t (kept_from text 0 false xs)) c.here b.here in
      let o : IsAmong t (kept_from other 0 false (c.front ++ t ∷ c.others)) = subst (λ (xs : List Token). IsAmong t (kept_from other 0 false xs)) c.there b.there in
      let k = kept_alike text other t some same c.behind c.others c.next c.after c.front 0 false c.before (same_in t.to text other c.front (up_more t.from t.to c.front (omega (arith, some)) c.before) b.bytes) a o in
      subst (λ (xs : List Token). KeptAlike text other t (kept_from text 0 false xs) (kept other)) (sym c.here) (subst (λ (xs : List Token). KeptAlike text other t (kept_from text 0 false (c.front ++ t ∷ c.behind)) (kept_from other 0 false xs)) (sym c.there) k)

pub alike_are_read : AlikeAreRead
alike_are_read text other t b =
    let k = found text other t b in
    record {
      front = k.front;
      behind = k.behind;
      others = k.others;
      here = k.here;
      there = k.there;
      tokens = k.tokens;
      token = same_token t.to text other t (some text other t b) (omega arith) b.bytes;
    }
