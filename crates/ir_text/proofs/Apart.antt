-- A type is read the same whatever table holds the bodies of the named types.
use Rattle.std.proofs.Common.{◌≡◌, ℕ, zero, suc, length, arith, Bool, true, false, cond, List, [], ◌∷◌, Option, Some, None, Result, Ok, Err, refl, sym, ap, subst, ◌∙◌}
use Rattle.std.specs.Prelude.{is_some, is_ok, option_map, option_and_then}
use Rattle.pv_base.specs.declared.name.Name.{Name}
use Rattle.ir_lex.specs.declared.token.TokenKind.{TokenKind}
use Rattle.ir_lex.specs.declared.token.TokenKind.TheVariants as kind
use Rattle.ir_lex.specs.declared.token.Cause.TheVariants as causes
use Rattle.ir_tree.specs.declared.layout.Layout.{Layout}
use Rattle.ir_tree.specs.Table.{Table}
use Rattle.ir_tree.specs.Trees.{TypeV, NamedV}
use Rattle.ir_text.specs.declared.fault.ReadEnd.{ReadEnd}
use Rattle.ir_text.specs.declared.named.NamedBody.{NamedBody}
use Rattle.ir_text.specs.Tokens.{TokenV}
use Rattle.ir_text.specs.Reading.{Outcome, ◌>>=◌, Fails, Reads, wrong}
use Rattle.ir_text.specs.Leaves.{spelled_name}
use Rattle.ir_text.specs.Types.{Body, Known, simple_by, type_rule, type_to, type_at}
use Rattle.ir_text.specs.Named.{body_of, body_in, known_of}
use Rattle.ir_text.specs.MemoryTypes.{named_layouts, has_layout, memory_type_at, AreLaid}
use Rattle.ir_text.proofs.LaidOut.{layouts_by}
use Rattle.ir_text.proofs.TypeFuel.{to_less, rule_agree}
use Rattle.ir_text.proofs.NestedSteps.{fails_is}

module _ (one two : Known) (there : (name : Name) → is_some (one name) ≡ is_some (two name)) where
  by_kind : (k : TokenKind) (t : TokenV) → simple_by one k t ≡ simple_by two k t
  by_kind kind.LocalName t = ap (λ (b : Bool). cond b (Ok (NamedV (spelled_name t))) (Err causes.BadType)) (there (spelled_name t))
  by_kind _ t = refl

  rule_known : (n : ℕ) (t : TokenV) (rest : List TokenV) → type_rule one (type_to two n) (t ∷ rest) ≡ type_rule two (type_to two n) (t ∷ rest)
  unfolding type_rule
  rule_known n t rest = rw (by_kind t.kind t) refl

  to_known : (n : ℕ) (ts : List TokenV) → type_to one n ts ≡ type_to two n ts
  unfolding type_to type_rule
  to_known zero ts = refl
  to_known (suc n) [] = refl
  to_known (suc n) (t ∷ rest) = rule_agree one (length rest) (type_to one n) (type_to two n) (λ us few. to_known n us) (to_less one n) t rest (omega arith) ∙ rule_known n t rest

  type_known : (ts : List TokenV) → type_at one ts ≡ type_at two ts
  unfolding type_at
  type_known ts = to_known (length ts) ts

  module _ (laid : (name : Name) → named_layouts one name ≡ named_layouts two name) where
    has_known : (of : TypeV) → has_layout one of ≡ has_layout two of
    has_known of = ap is_some (layouts_by (named_layouts one) (named_layouts two) laid of)

    end_known : (t : TokenV) (o : Outcome TypeV) → (o >>= λ x. cond (has_layout one x.0) (let p : Outcome TypeV = Ok x in p) (wrong t causes.Layout)) ≡ (o >>= λ x. cond (has_layout two x.0) (let p : Outcome TypeV = Ok x in p) (wrong t causes.Layout))
    end_known t (Ok x) = ap (λ (b : Bool). cond b (let p : Outcome TypeV = Ok x in p) (wrong t causes.Layout)) (has_known x.0)
    end_known t (Err f) = refl

    memory_known : (ts : List TokenV) → memory_type_at one ts ≡ memory_type_at two ts
    unfolding memory_type_at
    memory_known [] = refl
    memory_known (t ∷ rest) = end_known t (type_at one (t ∷ rest)) ∙ ap (λ (o : Outcome TypeV). o >>= λ x. cond (has_layout two x.0) (let p : Outcome TypeV = Ok x in p) (wrong t causes.Layout)) (type_known (t ∷ rest))

-- ---- two tables

body_there : (a b : Table) (o : Option NamedBody) → is_some (option_map (body_of a) o) ≡ is_some (option_map (body_of b) o)
body_there a b None = refl
body_there a b (Some x) = refl

body_laid : (a b : Table) (o : Option NamedBody) → option_and_then (λ (x : Body). x.layout) (option_map (body_of a) o) ≡ option_and_then (λ (x : Body). x.layout) (option_map (body_of b) o)
body_laid a b None = refl
body_laid a b (Some x) = refl

pub memory_apart : (a b : Table) (bodies : List (Name × NamedBody)) (ts : List TokenV) → memory_type_at (known_of a bodies) ts ≡ memory_type_at (known_of b bodies) ts
memory_apart a b bodies ts = memory_known (known_of a bodies) (known_of b bodies) (λ name. body_there a b (body_in bodies name)) (λ name. body_laid a b (body_in bodies name)) ts

-- ---- a type that has a layout

ends_same : (known : Known) (t : TokenV) (o : Outcome TypeV) → is_ok (o >>= λ x. cond (has_layout known x.0) (let p : Outcome TypeV = Ok x in p) (wrong t causes.Layout)) ≡ true → (o >>= λ x. cond (has_layout known x.0) (let p : Outcome TypeV = Ok x in p) (wrong t causes.Layout)) ≡ o
ends_same known t (Err f) ok = absurd cc
ends_same known t (Ok x) ok = by (has_layout known x.0) ok
  where
    by : (b : Bool) → is_ok (cond b (let p : Outcome TypeV = Ok x in p) (wrong t causes.Layout)) ≡ true → cond b (let p : Outcome TypeV = Ok x in p) (wrong t causes.Layout) ≡ Ok x
    by true e = refl
    by false e = absurd cc

memory_type_is : (known : Known) (ts : List TokenV) → is_ok (memory_type_at known ts) ≡ true → memory_type_at known ts ≡ type_at known ts
unfolding memory_type_at
memory_type_is known [] ok = absurd cc
memory_type_is known (t ∷ rest) ok = ends_same known t (type_at known (t ∷ rest)) ok

-- what is read of it is what is read of a type
pub memory_reads : {X : Type 0} (known : Known) (ts rest : List TokenV) (view : X → TypeV) (r : Result X ReadEnd) → is_ok (memory_type_at known ts) ≡ true → Reads view rest r (type_at known ts) → Reads view rest r (memory_type_at known ts)
memory_reads known ts rest view r ok read = subst (λ (o : Outcome TypeV). Reads view rest r o) (sym (memory_type_is known ts ok)) read

-- ---- reading apart

pub none_laid : (named : Name → Option Layout) (t : Table) (found : List (Option Layout)) → found ≡ [] → AreLaid named t found
none_laid named t found is = rw is (record { few = omega arith; each = λ k lt. absurd (omega arith); bounded = λ k. tt })

module _ (a b : Table) (bodies : List (Name × NamedBody)) (ts us : List TokenV) (is : us ≡ ts) where
  same_apart : memory_type_at (known_of b bodies) ts ≡ memory_type_at (known_of a bodies) us
  same_apart = memory_apart b a bodies ts ∙ ap (memory_type_at (known_of a bodies)) (sym is)

  pub comes_ok : (x : TypeV × List TokenV) → memory_type_at (known_of a bodies) us ≡ Ok x → is_ok (memory_type_at (known_of b bodies) ts) ≡ true
  comes_ok x read = ap is_ok (same_apart ∙ read)

  pub comes_err : (e : ReadEnd) → Fails e (memory_type_at (known_of a bodies) us) → Fails e (memory_type_at (known_of b bodies) ts)
  comes_err e h = fails_is e _ _ same_apart h
