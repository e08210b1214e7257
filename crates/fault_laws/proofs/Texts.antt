-- The first fault of a whole text is met by each text that begins alike.
use Rattle.std.proofs.Common.{◌≡◌, ℕ, ◌⊎◌, inl, inr, false, List, [], ◌∷◌, ◌++◌, length, take, Option, Some, None, Ok, Err, refl, sym, ap, subst, ◌∙◌, arith, append_assoc}
use Rattle.std.proofs.lemmas.List.{take_at}
use Rattle.ir_lex.specs.declared.token.Token.{Token}
use Rattle.ir_lex.specs.declared.token.Lexed.{Lexed}
use Rattle.ir_lex.specs.declared.token.Cause.{Cause}
use Rattle.ir_lex.specs.declared.token.Cause.TheVariants as cause
use Rattle.ir_lex.specs.declared.token.ReadError.{ReadError}
use Rattle.ir_lex.specs.Lexing.{lexed}
use Rattle.ir_lex.specs.Cut.{Part, joined}
use Rattle.ir_text.specs.declared.fault.Fault.TheVariants.{At, Ended}
use Rattle.ir_text.specs.Tokens.{TokenV, token_of, tokens_of}
use Rattle.ir_text.specs.Reading.{Outcome}
use Rattle.ir_grammar.specs.Modules.{ModuleV}
use Rattle.ir_grammar.specs.Texts.{end_of, last_line, settled, unless_wrong, first_fault, module_in, kept_from, read_tokens, read_of}
use Rattle.module_laws.specs.TextLaws.{FirstFault}
use Rattle.module_laws.proofs.FaultLaws.{fault_is_first}
use Rattle.fault_laws.specs.Alike.{kept, BeginAlike}
use Rattle.fault_laws.specs.Lexical.{CutAlike, LexicalFault}
use Rattle.fault_laws.specs.Texts.{SameTypes, FaultAtToken, FaultInBytes, FaultsAreMet}
use Rattle.fault_laws.proofs.Alike.{UpTo}
use Rattle.fault_laws.proofs.Bytes.{same_in, alike_are_read}
use Rattle.fault_laws.proofs.Lexing.{lexical_faults_stay}
use Rattle.fault_laws.proofs.Types.{types_known}
use Rattle.fault_laws.proofs.Rising.{Rising, kept_rises, one_place, read_same, up_to_parts}

-- ---- at a token

-- where mapped tokens fall apart, the tokens do
record Apart (text : List ℕ) (ts : List Token) (front : List TokenV) (t : TokenV) : Type 0 where
  before : List Token
  token : Token
  behind : List Token
  parts : ts ≡ before ++ token ∷ behind
  front_is : tokens_of text before ≡ front
  is : token_of text token ≡ t

fall_apart : (text : List ℕ) (ts : List Token) (front : List TokenV) (t : TokenV) (rest : List TokenV) → tokens_of text ts ≡ front ++ t ∷ rest → Apart text ts front t
fall_apart text [] [] t rest e = absurd cc
fall_apart text [] (f ∷ front) t rest e = absurd cc
fall_apart text (u ∷ us) [] t rest e = record { before = []; token = u; behind = us; parts = refl; front_is = refl; is = cc }
fall_apart text (u ∷ us) (f ∷ front) t rest e =
    let first : token_of text u ≡ f = cc in
    let go = fall_apart text us front t rest cc in
    record {
      before = u ∷ go.before;
      token = go.token;
      behind = go.behind;
      parts = ap (λ (xs : List Token). u ∷ xs) go.parts;
      front_is = ap (λ (x : TokenV). x ∷ tokens_of text go.before) first ∙ ap (λ (xs : List TokenV). f ∷ xs) go.front_is;
      is = go.is;
    }

read_kept : (text : List ℕ) → read_tokens text ≡ tokens_of text (kept text)
unfolding read_tokens
read_kept text = refl

tokens_join : (text : List ℕ) (xs ys : List Token) → tokens_of text (xs ++ ys) ≡ tokens_of text xs ++ tokens_of text ys
tokens_join text [] ys = refl
tokens_join text (x ∷ xs) ys = ap (λ (zs : List TokenV). token_of text x ∷ zs) (tokens_join text xs ys)

module _ (text : List ℕ) (found : ReadError) (f : FirstFault text found) where
  apart : Apart text (kept text) f.front f.token
  apart = fall_apart text (kept text) f.front f.token f.rest (sym (read_kept text) ∙ f.parts)

  same_fault : (other : List ℕ) → BeginAlike text other apart.token → SameTypes text other → read_of other ≡ Err found
  same_fault other b types =
      let a = apart in
      let r = alike_are_read text other a.token b in
      let place : r.front ≡ a.before = one_place a.before r.front a.behind r.behind a.token 0 (subst (Rising 0) a.parts (kept_rises text)) (sym a.parts ∙ r.here) in
      let front : tokens_of other r.front ≡ f.front = r.tokens ∙ ap (tokens_of text) place ∙ a.front_is in
      let token : token_of other a.token ≡ f.token = r.token ∙ a.is in
      let tokens : read_tokens other ≡ f.front ++ f.token ∷ tokens_of other r.others =
      read_kept other ∙ ap (tokens_of other) r.there ∙ tokens_join other r.front (a.token ∷ r.others)
      ∙ ap (λ (xs : List TokenV). xs ++ token_of other a.token ∷ tokens_of other r.others) front ∙ ap (λ (x : TokenV). f.front ++ x ∷ tokens_of other r.others) token in
      f.met other (tokens_of other r.others) tokens (types_known (read_tokens text) (read_tokens other) types)

  at_token : FaultAtToken text found
  at_token = let a = apart in record { fault = f; token = a.token; before = a.before; behind = a.behind; stands = a.parts; front = a.front_is; is = a.is; met = same_fault }

-- ---- at bytes

-- behind a lexical fault the line of the last byte says nothing
settled_same : (last more : ℕ) (e : ReadError) (o : Outcome ModuleV) → settled last (Some e) o ≡ settled more (Some e) o
settled_same last more e (Ok x) = refl
settled_same last more e (Err (At line cause)) = refl
settled_same last more e (Err Ended) = refl

joined_split : (ps : List Part) (rest : List ℕ) → joined ps rest ≡ joined ps [] ++ rest
joined_split [] rest = refl
joined_split (p ∷ ps) rest = ap (λ (x : List ℕ). p.bytes ++ x) (joined_split ps rest) ∙ sym (append_assoc p.bytes (joined ps []) rest)

module _ (text : List ℕ) (e : ReadError) (is : (lexed text).fault ≡ Some e) (l : LexicalFault text e) (read : read_of text ≡ Err e) where
  shared : (other : List ℕ) → CutAlike l.parts l.through other → take (length (joined l.parts [])) other ≡ joined l.parts []
  shared other c = ap (take (length (joined l.parts []))) (c.whole ∙ joined_split l.parts (l.through ++ c.more)) ∙ take_at (joined l.parts []) (l.through ++ c.more) (length (joined l.parts [])) refl

  same_tokens : (other : List ℕ) → CutAlike l.parts l.through other → read_tokens other ≡ read_tokens text
  same_tokens other c =
      let n = length (joined l.parts []) in
      let up : UpTo n (lexed text).tokens = subst (UpTo n) l.tokens (up_to_parts l.parts (l.through ++ l.cut.more) 0 1 n l.cut.longest (omega arith)) in
      let same = same_in n text other (lexed text).tokens up (shared text l.cut ∙ sym (shared other c)) in
      read_kept other ∙ ap (λ (x : Lexed). tokens_of other (kept_from other 0 false x.tokens)) (l.met other c) ∙ read_same text other (lexed text).tokens 0 false same ∙ sym (read_kept text)

  abbrev outcome : List TokenV → Outcome ModuleV
  outcome ts = unless_wrong (first_fault ts) (module_in ts)

  refused : (other : List ℕ) → CutAlike l.parts l.through other → read_of other ≡ Err e
  unfolding read_of
  refused other c =
      let fault : (lexed other).fault ≡ Some e = ap (λ (x : Lexed). x.fault) (l.met other c) ∙ is in
      ap (λ (x : Option ReadError). settled (last_line other) x (outcome (read_tokens other))) fault ∙ ap (λ (ts : List TokenV). settled (last_line other) (Some e) (outcome ts)) (same_tokens other c)
      ∙ settled_same (last_line other) (last_line text) e (outcome (read_tokens text)) ∙ ap (λ (x : Option ReadError). settled (last_line text) x (outcome (read_tokens text))) (sym is) ∙ read

  in_bytes : FaultInBytes text e
  in_bytes = record { fault = l; met = refused }

-- whether the cause is that the text ends
ends_or_not : (c : Cause) → (c ≡ cause.End) ⊎ (c ≡ cause.End → ⊥)
ends_or_not cause.End = inl refl
ends_or_not cause.Token = inr (λ e. cc)
ends_or_not cause.Name = inr (λ e. cc)
ends_or_not cause.BadType = inr (λ e. cc)
ends_or_not cause.Width = inr (λ e. cc)
ends_or_not cause.Operand = inr (λ e. cc)
ends_or_not cause.Instruction = inr (λ e. cc)
ends_or_not cause.Duplicate = inr (λ e. cc)
ends_or_not (cause.OutOfProfile w) = inr (λ e. cc)
ends_or_not cause.Layout = inr (λ e. cc)
ends_or_not cause.Number = inr (λ e. cc)
ends_or_not cause.TooLong = inr (λ e. cc)

at_end : (text : List ℕ) (found : ReadError) → read_of text ≡ Err found → (fault : Option ReadError) → (lexed text).fault ≡ fault → found ≡ end_of (last_line text) fault → FaultInBytes text found ⊎ (found.cause ≡ cause.End)
at_end text found read None is e = inr (ap (λ (x : ReadError). x.cause) e)
at_end text found read (Some lexical) is e =
    let same : (lexed text).fault ≡ Some found = is ∙ ap (λ (x : ReadError). Some x) (sym e) in
    elim (ends_or_not found.cause) [
      | inl ends ↦ inr ends
      | inr not ↦ inl (in_bytes text found same (lexical_faults_stay text found same not) read)
    ]

pub faults_are_met : FaultsAreMet
faults_are_met text found e = elim (fault_is_first text found e) [
  | inl f ↦ inl (at_token text found f)
  | inr a ↦ inr (at_end text found e (lexed text).fault refl a.is)
]
